-- The values that a search finds, without its visits.
use Rattle.std.proofs.Common.{◌≡◌, ℕ, zero, suc, Bool, true, false, List, [], ◌∷◌, ◌++◌, map, Option, Some, None, refl, ap, ◌∙◌, cond}
use Rattle.std.specs.Prelude.{take}
use Rattle.std.specs.List.{flat_map}
use Rattle.kid_value.specs.PlainValue.{PlainValue}
use Rattle.kid_term.specs.Answer.{first_of}
use Rattle.kid_search.specs.Space.{Descriptor, Space}
use Rattle.kid_search.specs.Searching.{Pruning, Event, visited, found, values_of, upto, upto_value, leaf_answers, visit, search}

values_of-append : (es fs : List Event) → values_of (es ++ fs) ≡ values_of es ++ values_of fs
values_of-append [] fs = refl
values_of-append (visited d ∷ es) fs = values_of-append es fs
values_of-append (found v ∷ es) fs = ap (λ vs. v ∷ vs) (values_of-append es fs)

values_of-found : (vs : List PlainValue) → values_of (map found vs) ≡ vs
values_of-found [] = refl
values_of-found (v ∷ vs) = ap (λ ws. v ∷ ws) (values_of-found vs)

values_of-if : (b : Bool) (es : List Event) → values_of (cond b es []) ≡ cond b (values_of es) []
values_of-if true es = refl
values_of-if false es = refl

-- as far as the k-th value there are k values, or all
values_of-upto : (k : ℕ) (es : List Event) → values_of (upto k es) ≡ take k (values_of es)
values_of-upto zero es = refl
values_of-upto (suc k) [] = refl
values_of-upto (suc k) (visited d ∷ es) = values_of-upto (suc k) es
values_of-upto (suc k) (found v ∷ es) = ap (λ vs. v ∷ vs) (values_of-upto k es)

pub values_of-upto_value : (first : Option ℕ) (es : List Event) → values_of (upto_value first es) ≡ first_of first (values_of es)
values_of-upto_value None es = refl
values_of-upto_value (Some k) es = values_of-upto k es

module _ (s : Space) (holds : PlainValue → Bool) (p : Pruning) where
  -- the values that are found under a descriptor, to a depth of n
  abbrev pub values_under : ℕ → Descriptor → List PlainValue
  values_under zero d = []
  values_under (suc n) d = leaf_answers s holds p (s.leaf d) ++ flat_map (λ k. cond (p.passes (p.cut k)) (values_under n (p.cut k)) []) (s.kids d)

  abbrev pub values_from : Descriptor → List PlainValue
  values_from d = cond (p.passes (p.cut d)) (values_under (suc (s.rank (p.cut d))) (p.cut d)) []

  abbrev kid_events : ℕ → Descriptor → List Event
  kid_events n k = cond (p.passes (p.cut k)) (visit s holds p n (p.cut k)) []

  abbrev kid_values : ℕ → Descriptor → List PlainValue
  kid_values n k = cond (p.passes (p.cut k)) (values_under n (p.cut k)) []

  of_kids : (n : ℕ) → ((d : Descriptor) → values_of (visit s holds p n d) ≡ values_under n d) → (ks : List Descriptor) → values_of (flat_map (kid_events n) ks) ≡ flat_map (kid_values n) ks
  of_kids n same [] = refl
  of_kids n same (k ∷ ks) =
      values_of-append (kid_events n k) (flat_map (kid_events n) ks)
      ∙ (λ i. (values_of-if (p.passes (p.cut k)) (visit s holds p n (p.cut k)) ∙ ap (λ vs. cond (p.passes (p.cut k)) vs []) (same (p.cut k))) i ++ of_kids n same ks i)

  values_of-visit : (n : ℕ) (d : Descriptor) → values_of (visit s holds p n d) ≡ values_under n d
  values_of-visit zero d = refl
  values_of-visit (suc n) d =
      values_of-append (map found (leaf_answers s holds p (s.leaf d))) (flat_map (kid_events n) (s.kids d))
      ∙ (λ i. values_of-found (leaf_answers s holds p (s.leaf d)) i ++ of_kids n (values_of-visit n) (s.kids d) i)

  pub values_of-search : (d : Descriptor) → values_of (search s holds p d) ≡ values_from d
  values_of-search d =
      values_of-if (p.passes (p.cut d)) (visit s holds p (suc (s.rank (p.cut d))) (p.cut d))
      ∙ ap (λ vs. cond (p.passes (p.cut d)) vs []) (values_of-visit (suc (s.rank (p.cut d))) (p.cut d))
