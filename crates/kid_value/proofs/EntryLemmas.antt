-- An entry that is put stands where the search for its key ends.
use Rattle.std.proofs.Common.{◌≡◌, ℕ, ◌<◌, ◌≤◌, suc, zero, List, [], ◌∷◌, ◌++◌, length, get_or, take, drop, map, refl, sym, ap, ◌∙◌, arith, Bool, true, false, cond, subst, Ordering, Option, Some}
use Rattle.std.specs.declared.cmp.Ordering.TheVariants.{Less, Equal, Greater}
use Rattle.std.specs.Ordering.{is_eq}
use Rattle.std.specs.Prelude.{insert, set}
use Rattle.std.proofs.lemmas.List.{take-map, drop-map, take-append-drop, map-append, length-map, map-set}
use Rattle.kid_value.specs.Canonical.{IsCanonical}
use Rattle.kid_value.specs.PlainValue.{PlainValue, map_of, table}
use Rattle.kid_value.specs.ValueMap.{keys, lookup, put_entry, put_entry_by, HoldsKey, KeyStandsAt}
use Rattle.kid_value.specs.ValueOrder.{value_cmp}
use Rattle.kid_value.specs.ValueSet.{AllAfter, Ascends, value_eq}
use Rattle.kid_value.specs.ValueView.{plain, plain_entry}
use Rattle.kid_value.specs.declared.value.Value.{Value}
use Rattle.kid_value.proofs.CanonicalLemmas.{IsCanonical-put_entry}
use Rattle.kid_value.proofs.PlaceLemmas.{AllBefore, greater-before, greater-first}
use Rattle.kid_value.proofs.ValueOrderLaws.{value_cmp-equal}
use Rattle.kid_value.proofs.ValueSetLaws.{value_eq-true}

-- the key of an entry
abbrev pub plain_key : Value × Value → PlainValue
plain_key e = plain e.0

pub keys-map : (es : List (Value × Value)) → keys (map plain_entry es) ≡ map plain_key es
keys-map [] = refl
keys-map (e ∷ es) = ap (λ z. plain_key e ∷ z) (keys-map es)

placed : (k v : PlainValue) (xs ys : List (Value × Value)) → AllBefore k (map plain_key xs) → AllAfter k (map plain_key ys)
    → put_entry k v (map plain_entry xs ++ map plain_entry ys) ≡ map plain_entry xs ++ (k, v) ∷ map plain_entry ys
placed k v [] [] b a = refl
placed k v [] (y ∷ ys) b a = ap (λ o. put_entry_by o k v (plain_entry y) (map plain_entry ys) (put_entry k v (map plain_entry ys))) a.0
placed k v (x ∷ xs) ys b a =
    ap (λ o. put_entry_by o k v (plain_entry x) (map plain_entry xs ++ map plain_entry ys) (put_entry k v (map plain_entry xs ++ map plain_entry ys))) (greater-before (plain_key x) k b.0)
    ∙ ap (λ z. plain_entry x ∷ z) (placed k v xs ys b.1 a)

-- a key that is after all up to a place and before all from it on stands there
pub KeyStandsAt-between : (k : PlainValue) (es : List (Value × Value)) (i : ℕ) → i ≤ length es → AllBefore k (map plain_key (take i es)) → AllAfter k (map plain_key (drop i es)) → KeyStandsAt k (map plain_entry es) i
KeyStandsAt-between k es i l b a =
    let h : length (map plain_entry es) ≡ length es = simp length-map in
    let whole : map plain_entry es ≡ map plain_entry (take i es) ++ map plain_entry (drop i es) = sym (ap (map plain_entry) (take-append-drop i es)) ∙ map-append plain_entry (take i es) (drop i es) in (
      omega arith,
      λ v. ap (put_entry k v) whole ∙ placed k v (take i es) (drop i es) b a ∙ sym (λ j. take-map plain_entry i es j ++ (k, v) ∷ drop-map plain_entry i es j),
    )

replaced : (k v : PlainValue) (es : List (Value × Value)) (i : ℕ) (x : Value × Value) → Ascends (map plain_key es) → i < length es → x ≡ get_or es i x → value_cmp k (plain_key x) ≡ Equal
    → put_entry k v (map plain_entry es) ≡ set (map plain_entry es) i (k, v)
replaced k v [] i x a l e p = absurd (omega arith)
replaced k v (y ∷ ys) zero x a l e p =
    ap (λ o. put_entry_by o k v (plain_entry y) (map plain_entry ys) (put_entry k v (map plain_entry ys))) (ap (λ z. value_cmp k (plain_key z)) (sym e) ∙ p)
replaced k v (y ∷ ys) (suc i) x a l e p =
    ap (λ o. put_entry_by o k v (plain_entry y) (map plain_entry ys) (put_entry k v (map plain_entry ys))) (greater-first plain_key k y ys i x a.0 (omega arith) e p)
    ∙ ap (λ z. plain_entry y ∷ z) (replaced k v ys i x a.1 (omega arith) e p)

-- a key that is equal to one of the map's is held there
pub HoldsKey-equal : (k : PlainValue) (es : List (Value × Value)) (i : ℕ) (x : Value × Value) → Ascends (keys (map plain_entry es)) → i < length es → x ≡ get_or es i x → value_cmp k (plain_key x) ≡ Equal → HoldsKey k (map plain_entry es) i
HoldsKey-equal k es i x a l e p =
    let h : length (map plain_entry es) ≡ length es = simp length-map in
    (omega arith, λ v. replaced k v es i x (subst Ascends (keys-map es) a) l e p)

pub map_entry-insert : (es : List (Value × Value)) (i : ℕ) (e : Value × Value) → map plain_entry (insert es i e) ≡ insert (map plain_entry es) i (plain_entry e)
map_entry-insert es i e = map-append plain_entry (take i es) (e ∷ drop i es) ∙ sym (λ j. take-map plain_entry i es j ++ plain_entry e ∷ drop-map plain_entry i es j)

-- a map stays canonical where the entry is put, or nothing
pub IsCanonical-entered : (b : Bool) (es ds : List (Value × Value)) (at : ℕ) (k v : Value) → ds ≡ cond b (insert es at (k, v)) es → put_entry (plain k) (plain v) (map plain_entry es) ≡ insert (map plain_entry es) at (plain k, plain v)
    → IsCanonical (plain k) → IsCanonical (plain v) → IsCanonical (map_of (table (map plain_entry es))) → IsCanonical (map_of (table (map plain_entry ds)))
IsCanonical-entered true es ds at k v e p c d h =
    subst (λ z. IsCanonical (map_of (table z))) (sym (ap (map plain_entry) e ∙ map_entry-insert es at (k, v) ∙ sym p)) (IsCanonical-put_entry (plain k) (plain v) (map plain_entry es) c d h)
IsCanonical-entered false es ds at k v e p c d h = subst (λ z. IsCanonical (map_of (table z))) (sym (ap (map plain_entry) e)) h

-- a map stays canonical where a key's entry is exchanged
pub IsCanonical-exchanged : (es ds : List (Value × Value)) (at : ℕ) (k v : Value) → ds ≡ set es at (k, v) → put_entry (plain k) (plain v) (map plain_entry es) ≡ set (map plain_entry es) at (plain k, plain v)
    → IsCanonical (plain k) → IsCanonical (plain v) → IsCanonical (map_of (table (map plain_entry es))) → IsCanonical (map_of (table (map plain_entry ds)))
IsCanonical-exchanged es ds at k v e p c d h =
    subst (λ z. IsCanonical (map_of (table z))) (sym (ap (map plain_entry) e ∙ map-set plain_entry es at (k, v) ∙ sym p)) (IsCanonical-put_entry (plain k) (plain v) (map plain_entry es) c d h)

-- the values of a map with a value put at a key
pub lookup-put_entry : (x k v : PlainValue) (es : List (PlainValue × PlainValue)) → lookup x (put_entry k v es) ≡ cond (value_eq x k) (Some v) (lookup x es)
lookup-put_entry x k v [] = refl
lookup-put_entry x k v (e ∷ es) = by_cases (value_cmp k e.0) refl (put_entry k v es) (lookup-put_entry x k v es)
  where
    again : (b : Bool) (p q : Option PlainValue) → cond b p q ≡ cond b p (cond b (Some e.1) q)
    again true p q = refl
    again false p q = refl

    other : (b c : Bool) → value_eq x k ≡ b → value_eq x e.0 ≡ c → value_cmp k e.0 ≡ Greater → cond c (Some e.1) (cond b (Some v) (lookup x es)) ≡ cond b (Some v) (cond c (Some e.1) (lookup x es))
    other true true p q g =
        let r : k ≡ e.0 = sym (value_eq-true x k p) ∙ value_eq-true x e.0 q in
        let s : value_eq k k ≡ true = ap (λ z. value_eq z k) (sym (value_eq-true x k p)) ∙ p in
        let t : value_eq k k ≡ false = ap (value_eq k) r ∙ ap is_eq g in cc
    other true false p q g = refl
    other false true p q g = refl
    other false false p q g = refl

    by_cases : (o : Ordering) → value_cmp k e.0 ≡ o → (more : List (PlainValue × PlainValue)) → lookup x more ≡ cond (value_eq x k) (Some v) (lookup x es)
        → lookup x (put_entry_by o k v e es more) ≡ cond (value_eq x k) (Some v) (cond (value_eq x e.0) (Some e.1) (lookup x es))
    by_cases Less p more h = refl
    by_cases Equal p more h = again (value_eq x k) (Some v) (lookup x es) ∙ ap (λ z. cond (value_eq x k) (Some v) (cond (value_eq x z) (Some e.1) (lookup x es))) (value_cmp-equal k e.0 p)
    by_cases Greater p more h = ap (λ z. cond (value_eq x e.0) (Some e.1) z) h ∙ other (value_eq x k) (value_eq x e.0) refl refl p
