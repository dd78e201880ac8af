-- Maps entry by entry.
use Rattle.std.proofs.Common.{◌≡◌, ℕ, ◌+◌, ◌<◌, false, cond, List, [], ◌∷◌, ◌++◌, Some, map, length, get_or, drop, refl, sym, ap, ◌∙◌, subst}
use Rattle.std.specs.Prelude.{filter, not}
use Rattle.std.proofs.lemmas.List.{drop_more}
use Rattle.kid_value.specs.PlainValue.{PlainValue, set}
use Rattle.kid_value.specs.Rows.Map.{cut_down}
use Rattle.kid_value.specs.Rows.Set.{inter}
use Rattle.kid_value.specs.ValueMap.{keys, lookup}
use Rattle.kid_value.specs.ValueSet.{AllAfter, Ascends, value_eq}
use Rattle.kid_value.specs.ValueView.{plain, plain_entry}
use Rattle.kid_value.specs.declared.value.Value.{Value}
use Rattle.kid_value.proofs.LookupLemmas.{keys-dropped}
use Rattle.kid_value.proofs.RowCanonical.{keys-filled, keys-narrowed}
use Rattle.kid_value.proofs.ValueSetLaws.{Ascends-filter}
use Rattle.kid_ops.proofs.MergeLemmas.{drop_next}
use Rattle.kid_ops.specs.Parts.{key_of, held_by, without_key, filled, narrowed}

pub held_values : (es : List (Value × Value)) → map held_by es ≡ map (λ e. e.1) (map plain_entry es)
held_values [] = refl
held_values (e ∷ es) = ap (λ z. held_by e ∷ z) (held_values es)

pub keys-key_of : (es : List (Value × Value)) → map key_of es ≡ keys (map plain_entry es)
keys-key_of [] = refl
keys-key_of (e ∷ es) = ap (λ z. key_of e ∷ z) (keys-key_of es)

pub cut_down_inter : (v w : PlainValue) → cut_down v (Some w) ≡ inter v w
cut_down_inter (set vs) (set ws) = refl
cut_down_inter v w = refl

-- an entry that is put after a front of entries whose keys ascend
AllAfter-front : (x : PlainValue) (ks : List PlainValue) (k : PlainValue) (rest : List PlainValue) → AllAfter x (ks ++ k ∷ rest) → AllAfter x (ks ++ k ∷ [])
AllAfter-front x [] k rest a = (a.0, tt)
AllAfter-front x (y ∷ ks) k rest a = (a.0, AllAfter-front x ks k rest a.1)

Ascends-front : (ks : List PlainValue) (k : PlainValue) (rest : List PlainValue) → Ascends (ks ++ k ∷ rest) → Ascends (ks ++ k ∷ [])
Ascends-front [] k rest a = (tt, tt)
Ascends-front (y ∷ ks) k rest a = (AllAfter-front y ks k rest a.0, Ascends-front ks k rest a.1)

keys-append : (done : List (PlainValue × PlainValue)) (k v : PlainValue) (rest : List (PlainValue × PlainValue)) → keys (done ++ (k, v) ∷ rest) ≡ keys done ++ k ∷ keys rest
keys-append [] k v rest = refl
keys-append (e ∷ done) k v rest = ap (λ z. e.0 ∷ z) (keys-append done k v rest)

pub pushable : (done : List (PlainValue × PlainValue)) (k v : PlainValue) (rest whole : List (PlainValue × PlainValue)) → done ++ (k, v) ∷ rest ≡ whole → Ascends (keys whole) → Ascends (keys done ++ k ∷ [])
pushable done k v rest whole e a = Ascends-front (keys done) k (keys rest) (subst Ascends (sym (ap keys e) ∙ keys-append done k v rest) a)

pub filled-pushes : (x : PlainValue) (ks : List Value) (i : ℕ) (k : Value) (done : List (PlainValue × PlainValue)) → i < length ks → k ≡ get_or ks i k → Ascends (map plain ks)
    → done ++ filled x (map plain (drop i ks)) ≡ filled x (map plain ks) → Ascends (keys done ++ plain k ∷ [])
filled-pushes x ks i k done l e a h =
    pushable done (plain k) x (filled x (map plain (drop (i + 1) ks))) (filled x (map plain ks)) (ap (λ z. done ++ filled x z) (sym (drop_next ks i k l e)) ∙ h)
    (subst Ascends (sym (keys-filled x (map plain ks))) a)

module _ (es : List (Value × Value)) (i : ℕ) (e : Value × Value) (done : List (PlainValue × PlainValue)) (l : i < length es) (q : e ≡ get_or es i e) (a : Ascends (keys (map plain_entry es))) where
  next : map plain_entry (drop i es) ≡ plain_entry e ∷ map plain_entry (drop (i + 1) es)
  next = ap (map plain_entry) (drop_more es i e l ∙ ap (λ z. z ∷ drop (i + 1) es) (sym q))

  pub without-pushes : (x : PlainValue) → value_eq (plain e.0) x ≡ false → done ++ without_key x (map plain_entry (drop i es)) ≡ without_key x (map plain_entry es) → Ascends (keys done ++ plain e.0 ∷ [])
  without-pushes x p h =
      let more : List (PlainValue × PlainValue) = without_key x (map plain_entry (drop (i + 1) es)) in
      let s : without_key x (map plain_entry (drop i es)) ≡ plain_entry e ∷ more = ap (without_key x) next ∙ ap (λ b. cond (not b) (plain_entry e ∷ more) more) p in
      pushable done (plain e.0) (plain e.1) more (without_key x (map plain_entry es)) (ap (λ z. done ++ z) (sym s) ∙ h)
      (subst Ascends (sym (keys-dropped x (map plain_entry es))) (Ascends-filter (λ k. not (value_eq k x)) (keys (map plain_entry es)) a))

  pub narrowed-pushes : (n : List (PlainValue × PlainValue)) → done ++ narrowed n (map plain_entry (drop i es)) ≡ narrowed n (map plain_entry es) → Ascends (keys done ++ plain e.0 ∷ [])
  narrowed-pushes n h =
      let more : List (PlainValue × PlainValue) = narrowed n (map plain_entry (drop (i + 1) es)) in
      pushable done (plain e.0) (cut_down (plain e.1) (lookup (plain e.0) n)) more (narrowed n (map plain_entry es)) (ap (λ z. done ++ narrowed n z) (sym next) ∙ h)
      (subst Ascends (sym (keys-narrowed n (map plain_entry es))) a)
