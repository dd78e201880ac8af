-- The values of the operators on pairs have their sorts.
use Rattle.std.proofs.Common.{◌≡◌, List, [], ◌∷◌, Ok, refl, sym, ◌∙◌, subst}
use Rattle.kid_value.specs.PlainValue.{PlainValue, pair}
use Rattle.kid_value.specs.PlainSort.{PlainSort, pairs, has_sort}
use Rattle.kid_value.proofs.SortLemmas.{and_both}
use Rattle.kid_term.specs.declared.operator.PairOp.{PairOp}
use Rattle.kid_term.specs.declared.operator.PairOp.TheVariants.{Pair, Fst, Snd}
use Rattle.kid_term.specs.PairRows.{pair_value}
use Rattle.kid_term.specs.Sorted.{Sorted, allowed, with_one, with_pair}
use Rattle.kid_term.specs.PairSorts.{pair_sort}
use Rattle.kid_term.specs.Fitting.{IsOfSort, AreOfSorts}
use Rattle.kid_term.proofs.Inversions.{with_one_ok, with_two_ok, one_value, two_values}
use Rattle.kid_term.proofs.LogicSound.{Sound}
use Rattle.kid_term.proofs.JoinedSorts.{allowed_sound}
use Rattle.kid_term.proofs.Counting.{pair_parts}

with_pair_ok : (a : PlainSort) (k : PlainSort → PlainSort → Sorted) (s : PlainSort) → with_pair a k ≡ Ok s → (b c : PlainSort) × (a ≡ pairs b c) × (k b c ≡ Ok s)
with_pair_ok (pairs b c) k s p = (b, c, refl, p)
with_pair_ok a k s p = cc

at_values : (o : PairOp) (vs ws : List PlainValue) (s : PlainSort) → vs ≡ ws → Sound s (pair_value o ws) → Sound s (pair_value o vs)
at_values o vs ws s e h = subst (λ z. Sound s (pair_value o z)) (sym e) h

-- a pair whose parts are of two sorts, and what is made of those
record OnePair (vs : List PlainValue) (k : PlainSort → PlainSort → Sorted) (s : PlainSort) : Type 0 where
  pub a : PlainSort
  pub b : PlainSort
  pub x : PlainValue
  pub y : PlainValue
  pub are : vs ≡ pair x y ∷ []
  pub first : IsOfSort a x
  pub second : IsOfSort b y
  pub gives : k a b ≡ Ok s

one_pair_ok : (ss : List PlainSort) (vs : List PlainValue) (k : PlainSort → PlainSort → Sorted) (s : PlainSort) → with_one ss (λ t. with_pair t k) ≡ Ok s → AreOfSorts ss vs → OnePair vs k s
one_pair_ok ss vs k s p h =
    let r = with_one_ok ss (λ t. with_pair t k) s p in
    let x = with_pair_ok r.0 k s r.2 in
    let w = one_value r.0 vs (subst (λ z. AreOfSorts z vs) r.1 h) in
    let i = pair_parts x.0 x.1 w.0 (subst (λ z. IsOfSort z w.0) x.2 w.2) in
    record { a = x.0; b = x.1; x = i.0; y = i.1; are = w.1 ∙ (λ o. i.2 o ∷ []); first = i.3; second = i.4; gives = x.3 }

pub pair_sound : (o : PairOp) (ss : List PlainSort) (vs : List PlainValue) (s : PlainSort) → pair_sort o ss ≡ Ok s → AreOfSorts ss vs → Sound s (pair_value o vs)
pair_sound Pair ss vs s p h =
    let r = with_two_ok ss (λ a b. allowed (pairs a b)) s p in
    let w = two_values r.0 r.1 vs (subst (λ z. AreOfSorts z vs) r.2 h) in
    at_values Pair vs (w.0 ∷ w.1 ∷ []) s w.2
    (allowed_sound (pairs r.0 r.1) s (pair w.0 w.1)
    (record { has = and_both (has_sort r.0 w.0) (has_sort r.1 w.1) w.3.has w.4.has; canonical = (w.3.canonical, w.4.canonical) }) r.3)
pair_sound Fst ss vs s p h =
    let r = one_pair_ok ss vs (λ a b. allowed a) s p h in at_values Fst vs (pair r.x r.y ∷ []) s r.are (allowed_sound r.a s r.x r.first r.gives)
pair_sound Snd ss vs s p h =
    let r = one_pair_ok ss vs (λ a b. allowed b) s p h in at_values Snd vs (pair r.x r.y ∷ []) s r.are (allowed_sound r.b s r.y r.second r.gives)
