-- Maps as lists of entries by their look-ups.
use Rattle.std.proofs.Common.{◌≡◌, Bool, true, false, cond, List, [], ◌∷◌, map, Option, Some, None, refl, sym, ap, ◌∙◌, inl, inr}
use Rattle.std.specs.List.{list_all}
use Rattle.std.specs.Ordering.{is_eq}
use Rattle.std.specs.Prelude.{◌||◌, not, filter, is_some}
use Rattle.kid_value.specs.PlainValue.{PlainValue}
use Rattle.kid_value.specs.ValueMap.{keys, lookup}
use Rattle.kid_value.specs.ValueSet.{value_eq, is_member, AllAfter, Ascends}
use Rattle.kid_value.proofs.MapOrderLaws.{lookup-first}
use Rattle.kid_value.proofs.MemberLemmas.{is_member-first, is_member-later}
use Rattle.kid_value.proofs.RowMeaning.{is_member-keys}
use Rattle.kid_value.proofs.SortLemmas.{and_parts, and_both}
use Rattle.kid_value.proofs.ValueSetLaws.{or_cases, value_eq-true, value_eq-comm, Before-member}

pub some_same : (v w : PlainValue) → Some v ≡ Some w → v ≡ w
some_same v w e = cc

pub none_some : (o : Option PlainValue) (v : PlainValue) → o ≡ Some v → o ≡ None → ⊥
none_some (Some w) v p q = cc
none_some None v p q = cc

-- what later entries have is not at the first key
pub lookup-tail : (k v : PlainValue) (e : PlainValue × PlainValue) (es : List (PlainValue × PlainValue)) → AllAfter e.0 (keys es) → lookup k es ≡ Some v → lookup k (e ∷ es) ≡ Some v
lookup-tail k v e es a q =
    let there : is_member k (keys es) ≡ true = is_member-keys k es ∙ ap is_some q in
    let not_first : value_eq k e.0 ≡ false = value_eq-comm k e.0 ∙ ap is_eq (Before-member e.0 k (keys es) a there) in
    ap (λ c. cond c (Some e.1) (lookup k es)) not_first ∙ q

-- what passes at each entry passes at what a look-up finds, and the other way round
pub list_all-lookup : (p : PlainValue × PlainValue → Bool) (k v : PlainValue) (es : List (PlainValue × PlainValue)) → list_all p es ≡ true → lookup k es ≡ Some v → p (k, v) ≡ true
list_all-lookup p k v [] h e = absurd (none_some None v e refl)
list_all-lookup p k v (f ∷ es) h e =
    let r = and_parts (p f) (list_all p es) h in by (value_eq k f.0) refl e r.0 (list_all-lookup p k v es r.1)
  where
    by : (b : Bool) → value_eq k f.0 ≡ b → cond b (Some f.1) (lookup k es) ≡ Some v → p f ≡ true → (lookup k es ≡ Some v → p (k, v) ≡ true) → p (k, v) ≡ true
    by true q e g ih = let m = value_eq-true k f.0 q in let l = some_same f.1 v e in (λ i. p (m i, sym l i)) ∙ g
    by false q e g ih = ih e

pub lookup-list_all : (p : PlainValue × PlainValue → Bool) (es : List (PlainValue × PlainValue)) → Ascends (keys es) → ((k v : PlainValue) → lookup k es ≡ Some v → p (k, v) ≡ true) → list_all p es ≡ true
lookup-list_all p [] a h = refl
lookup-list_all p (e ∷ es) a h = and_both (p e) (list_all p es) (h e.0 e.1 (lookup-first e es)) (lookup-list_all p es a.1 (λ k v q. h k v (lookup-tail k v e es a.0 q)))

-- the values that a map has are those that look-ups find
pub lookup-value : (k v : PlainValue) (es : List (PlainValue × PlainValue)) → lookup k es ≡ Some v → is_member v (map (λ e. e.1) es) ≡ true
lookup-value k v [] e = absurd (none_some None v e refl)
lookup-value k v (f ∷ es) e = by (value_eq k f.0) e (lookup-value k v es)
  where
    by : (b : Bool) → cond b (Some f.1) (lookup k es) ≡ Some v → (lookup k es ≡ Some v → is_member v (map (λ e. e.1) es) ≡ true) → (value_eq v f.1 || is_member v (map (λ e. e.1) es)) ≡ true
    by true e ih = ap (λ x. value_eq x f.1 || is_member x (map (λ e. e.1) es)) (sym (some_same f.1 v e)) ∙ is_member-first f.1 (map (λ e. e.1) es)
    by false e ih = is_member-later v f.1 (map (λ e. e.1) es) (ih e)

pub value-lookup : (v : PlainValue) (es : List (PlainValue × PlainValue)) → Ascends (keys es) → is_member v (map (λ e. e.1) es) ≡ true → (k : PlainValue) × (lookup k es ≡ Some v)
value-lookup v [] a m = cc
value-lookup v (e ∷ es) a m =
    elim (or_cases (value_eq v e.1) (is_member v (map (λ e. e.1) es)) m) [
      | inl q ↦ (e.0, lookup-first e es ∙ ap (λ z. Some z) (sym (value_eq-true v e.1 q)))
      | inr q ↦ let r = value-lookup v es a.1 q in (r.0, lookup-tail r.0 v e es a.0 r.1)
    ]

-- the keys but for one
pub keys-dropped : (x : PlainValue) (es : List (PlainValue × PlainValue)) → keys (filter (λ e. not (value_eq e.0 x)) es) ≡ filter (λ k. not (value_eq k x)) (keys es)
keys-dropped x [] = refl
keys-dropped x (e ∷ es) = by (value_eq e.0 x) (keys-dropped x es)
  where
    by : (b : Bool) → keys (filter (λ e. not (value_eq e.0 x)) es) ≡ filter (λ k. not (value_eq k x)) (keys es)
        → keys (cond (not b) (e ∷ filter (λ e. not (value_eq e.0 x)) es) (filter (λ e. not (value_eq e.0 x)) es)) ≡ cond (not b) (e.0 ∷ filter (λ k. not (value_eq k x)) (keys es)) (filter (λ k. not (value_eq k x)) (keys es))
    by true h = h
    by false h = ap (λ z. e.0 ∷ z) h
