-- The order of maps is by the least key at which they differ.
use Rattle.std.proofs.Common.{◌≡◌, Bool, true, false, cond, List, [], ◌∷◌, Ordering, Option, Some, None, refl, sym, ap, ◌∙◌, subst}
use Rattle.std.specs.Prelude.{◌||◌}
use Rattle.std.specs.declared.cmp.Ordering.TheVariants.{Less, Equal, Greater}
use Rattle.std.specs.Ordering.{is_eq, ordering_then, ordering_reverse}
use Rattle.kid_value.specs.PlainValue.{PlainValue, map_of, table, entries}
use Rattle.kid_value.specs.ValueOrder.{value_cmp, map_cmp, Before}
use Rattle.kid_value.specs.ValueMap.{keys, lookup}
use Rattle.kid_value.specs.ValueSet.{value_eq, is_member, AllAfter, Ascends}
use Rattle.kid_value.specs.MapOrder.{IsLowerAt, IsLowerFirst}
use Rattle.kid_value.proofs.RowLemmas.{entries_table}
use Rattle.kid_value.proofs.ValueOrderLaws.{value_cmp-total, value_cmp-equal, map_cmp-equal}
use Rattle.kid_value.proofs.ValueSetLaws.{value_cmp-itself, value_eq-itself, value_eq-comm, AllAfter-before, Before-member, Before-greater}

-- a key that is before all of a map's is none of them
lookup-after : (k : PlainValue) (es : List (PlainValue × PlainValue)) → AllAfter k (keys es) → lookup k es ≡ None
lookup-after k [] a = refl
lookup-after k (e ∷ es) a = rw (a.0) (lookup-after k es a.1)

pub lookup-first : (e : PlainValue × PlainValue) (es : List (PlainValue × PlainValue)) → lookup e.0 (e ∷ es) ≡ Some e.1
lookup-first e es = ap (λ c. cond c (Some e.1) (lookup e.0 es)) (value_eq-itself e.0)

lookup-later : (k : PlainValue) (e : PlainValue × PlainValue) (es : List (PlainValue × PlainValue)) → value_eq k e.0 ≡ false → lookup k (e ∷ es) ≡ lookup k es
lookup-later k e es p = ap (λ c. cond c (Some e.1) (lookup k es)) p

-- a map has the key at which another is lower
held : (o : Option PlainValue) (k : PlainValue) (es : List (PlainValue × PlainValue)) → IsLowerAt o (lookup k es) → is_member k (keys es) ≡ true
held None k [] h = absurd h
held (Some v) k [] h = absurd h
held o k (e ∷ es) h = by_cases (value_eq k e.0) (held o k es) h
  where
    by_cases : (c : Bool) → (IsLowerAt o (lookup k es) → is_member k (keys es) ≡ true) → IsLowerAt o (cond c (Some e.1) (lookup k es)) → (c || is_member k (keys es)) ≡ true
    by_cases true ih g = refl
    by_cases false ih g = ih g

not_lower : (o : Option PlainValue) → IsLowerAt o o → ⊥
not_lower None h = h
not_lower (Some v) h = let e : value_cmp v v ≡ Equal = value_cmp-itself v in cc

not_both_lower : (o p : Option PlainValue) → IsLowerAt o p → IsLowerAt p o → ⊥
not_both_lower None None h k = h
not_both_lower None (Some w) h k = k
not_both_lower (Some v) None h k = h
not_both_lower (Some v) (Some w) h k = let e : value_cmp v w ≡ Greater = value_cmp-total.antisymm v w ∙ ap ordering_reverse k in cc

-- a smaller map is lower at the least key at which two differ
pub IsLowerFirst-less : (m n : List (PlainValue × PlainValue)) → Ascends (keys m) → Ascends (keys n) → map_cmp (table m) (table n) ≡ Less → IsLowerFirst m n
IsLowerFirst-less [] [] a b p = cc
IsLowerFirst-less [] (e ∷ n) a b p = record {
  key = e.0;
  lower = subst (IsLowerAt None) (sym (lookup-first e n)) tt;
  agree = λ k h. sym (lookup-after k (e ∷ n) (h, AllAfter-before k e.0 (keys n) h b.0));
}
IsLowerFirst-less (d ∷ m) [] a b p = cc
IsLowerFirst-less (d ∷ m) (e ∷ n) a b p = by_key (value_cmp d.0 e.0) refl p (IsLowerFirst-less m n a.1 b.1)
  where
    nothing : (k : PlainValue) → Before k d.0 → lookup k (d ∷ m) ≡ None
    nothing k h = lookup-after k (d ∷ m) (h, AllAfter-before k d.0 (keys m) h a.0)

    by_value : d.0 ≡ e.0 → value_cmp d.0 e.0 ≡ Equal → (o : Ordering) → value_cmp d.1 e.1 ≡ o → ordering_then o (map_cmp (table m) (table n)) ≡ Less → (map_cmp (table m) (table n) ≡ Less → IsLowerFirst m n) → IsLowerFirst (d ∷ m) (e ∷ n)
    by_value same s Less q r ih =
        let at_second : lookup d.0 (e ∷ n) ≡ Some e.1 = ap (λ c. cond c (Some e.1) (lookup d.0 n)) (ap is_eq s) in
        let l : IsLowerAt (lookup d.0 (d ∷ m)) (Some e.1) = subst (λ z. IsLowerAt z (Some e.1)) (sym (lookup-first d m)) q in
        record {
          key = d.0;
          lower = subst (IsLowerAt (lookup d.0 (d ∷ m))) (sym at_second) l;
          agree = λ k h.
              let g : Before k e.0 = subst (Before k) same h in
              nothing k h ∙ sym (lookup-after k (e ∷ n) (g, AllAfter-before k e.0 (keys n) g b.0));
        }
    by_value same s Equal q r ih =
        let l = ih r in
        let after : Before e.0 l.key = Before-member e.0 l.key (keys n) b.0 (held (lookup l.key m) l.key n l.lower) in
        let not_e : value_eq l.key e.0 ≡ false = value_eq-comm l.key e.0 ∙ ap is_eq after in
        let not_d : value_eq l.key d.0 ≡ false = ap (value_eq l.key) same ∙ not_e in
        let t : d.1 ≡ e.1 = value_cmp-equal d.1 e.1 q in
        let low : IsLowerAt (lookup l.key (d ∷ m)) (lookup l.key n) = subst (λ z. IsLowerAt z (lookup l.key n)) (sym (lookup-later l.key d m not_d)) l.lower in
        record {
          key = l.key;
          lower = subst (IsLowerAt (lookup l.key (d ∷ m))) (sym (lookup-later l.key e n not_e)) low;
          agree = λ k h. λ i. cond (value_eq k (same i)) (Some (t i)) (l.agree k h i);
        }
    by_value same s Greater q r ih = cc

    by_key : (o : Ordering) → value_cmp d.0 e.0 ≡ o → ordering_then (ordering_reverse o) (ordering_then (value_cmp d.1 e.1) (map_cmp (table m) (table n))) ≡ Less → (map_cmp (table m) (table n) ≡ Less → IsLowerFirst m n) → IsLowerFirst (d ∷ m) (e ∷ n)
    by_key Less s q ih = cc
    by_key Equal s q ih = by_value (value_cmp-equal d.0 e.0 s) s (value_cmp d.1 e.1) refl q ih
    by_key Greater s q ih =
        let before : Before e.0 d.0 = Before-greater d.0 e.0 s in
        let l : IsLowerAt None (lookup e.0 (e ∷ n)) = subst (IsLowerAt None) (sym (lookup-first e n)) tt in
        record {
          key = e.0;
          lower = subst (λ z. IsLowerAt z (lookup e.0 (e ∷ n))) (sym (nothing e.0 before)) l;
          agree = λ k h. nothing k (value_cmp-total.trans k e.0 d.0 h before) ∙ sym (lookup-after k (e ∷ n) (h, AllAfter-before k e.0 (keys n) h b.0));
        }

-- of two maps not both are lower at the least key at which they differ
IsLowerFirst-once : (m n : List (PlainValue × PlainValue)) → IsLowerFirst m n → IsLowerFirst n m → ⊥
IsLowerFirst-once m n l r = by_cases (value_cmp l.key r.key) refl
  where
    by_cases : (o : Ordering) → value_cmp l.key r.key ≡ o → ⊥
    by_cases Less e = not_lower (lookup l.key m) (subst (IsLowerAt (lookup l.key m)) (r.agree l.key e) l.lower)
    by_cases Equal e = not_both_lower (lookup l.key m) (lookup l.key n) l.lower (subst (λ z. IsLowerAt (lookup z n) (lookup z m)) (sym (value_cmp-equal l.key r.key e)) r.lower)
    by_cases Greater e =
        let h : Before r.key l.key = Before-greater l.key r.key e in
        not_lower (lookup r.key n) (subst (IsLowerAt (lookup r.key n)) (l.agree r.key h) r.lower)

-- the map that is lower at the least key at which two differ is smaller
pub less-IsLowerFirst : (m n : List (PlainValue × PlainValue)) → Ascends (keys m) → Ascends (keys n) → IsLowerFirst m n → map_cmp (table m) (table n) ≡ Less
less-IsLowerFirst m n a b l = by_cases (map_cmp (table m) (table n)) refl
  where
    by_cases : (o : Ordering) → map_cmp (table m) (table n) ≡ o → o ≡ Less
    by_cases Less e = refl
    by_cases Equal e =
        let same : m ≡ n = sym (entries_table m) ∙ ap entries (map_cmp-equal (table m) (table n) e) ∙ entries_table n in
        absurd (not_lower (lookup l.key m) (subst (λ z. IsLowerAt (lookup l.key m) (lookup l.key z)) (sym same) l.lower))
    by_cases Greater e =
        absurd (IsLowerFirst-once m n l (IsLowerFirst-less n m b a (value_cmp-total.antisymm (map_of (table n)) (map_of (table m)) ∙ ap ordering_reverse e)))
