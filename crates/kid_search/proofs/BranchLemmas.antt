-- Kids that go over the members of a pool, in their order, and what stands behind a guard.
use Rattle.std.proofs.Common.{◌≡◌, ℕ, ◌<◌, pos, Bool, true, false, cond, List, [], ◌∷◌, map, Some, None, refl, sym, ap, ◌∙◌, inl, inr, arith}
use Rattle.std.specs.Int.{int_gap}
use Rattle.std.proofs.lemmas.Int.{ints as int_rules}
use Rattle.kid_value.specs.PlainValue.{PlainValue, bool}
use Rattle.kid_value.specs.Rows.Logic.{and}
use Rattle.kid_value.specs.Rows.Parts.{truth_of}
use Rattle.kid_value.specs.ValueOrder.{Before}
use Rattle.kid_value.specs.ValueSet.{value_eq, is_member, Ascends}
use Rattle.kid_value.proofs.SortLemmas.{and_parts}
use Rattle.kid_value.proofs.ValueSetLaws.{value_eq-itself, value_eq-true, Before-member}
use Rattle.kid_search.specs.Space.{Descriptor, Space, is_leaf, any_satisfies}
use Rattle.kid_search.specs.SpaceLaws.{InOrder, AllFall}
use Rattle.kid_search.proofs.BoolLemmas.{or_cases, or_left, or_right}
use Rattle.kid_search.proofs.SetMeaning.{is_member-here}

module _ (s : Space) (f : PlainValue → Descriptor) where
  pub record UnderKid (xs : List PlainValue) (z : PlainValue) : Type 0 where
    pub item : PlainValue
    pub inside : is_member item xs ≡ true
    pub holds : s.satisfies (f item) z ≡ true

  pub under_kid : (xs : List PlainValue) (z : PlainValue) → any_satisfies s (map f xs) z ≡ true → UnderKid xs z
  under_kid [] z h = cc
  under_kid (x ∷ xs) z h =
      elim (or_cases (s.satisfies (f x) z) (any_satisfies s (map f xs) z) h) [
        | inl e ↦ record { item = x; inside = is_member-here x xs; holds = e }
        | inr e ↦ let u = under_kid xs z e in record { item = u.item; inside = or_right (value_eq u.item x) (is_member u.item xs) u.inside; holds = u.holds }
      ]

  pub kid_under : (xs : List PlainValue) (z x : PlainValue) → is_member x xs ≡ true → s.satisfies (f x) z ≡ true → any_satisfies s (map f xs) z ≡ true
  kid_under [] z x m h = cc
  kid_under (y ∷ xs) z x m h =
      elim (or_cases (value_eq x y) (is_member x xs) m) [
        | inl e ↦ or_left (s.satisfies (f y) z) (any_satisfies s (map f xs) z) (ap (λ t. s.satisfies (f t) z) (sym (value_eq-true x y e)) ∙ h)
        | inr e ↦ or_right (s.satisfies (f y) z) (any_satisfies s (map f xs) z) (kid_under xs z x e h)
      ]

  pub kids_fall_by : (in_sort : PlainValue → Bool) (n : ℕ) (xs : List PlainValue) → ((x : PlainValue) → is_member x xs ≡ true → (s.is_good (f x) ≡ true) × (s.rank (f x) < n)) → AllFall s in_sort n (map f xs)
  kids_fall_by in_sort n [] h = tt
  kids_fall_by in_sort n (x ∷ xs) h = let r = h x (is_member-here x xs) in (r.0, r.1, kids_fall_by in_sort n xs (λ y m. h y (or_right (value_eq y x) (is_member y xs) m)))

  pub kids_in_order_by : (in_sort : PlainValue → Bool) (xs : List PlainValue) → Ascends xs
      → ((x y z t : PlainValue) → is_member x xs ≡ true → is_member y xs ≡ true → Before x y → in_sort z ≡ true → in_sort t ≡ true → s.satisfies (f x) z ≡ true → s.satisfies (f y) t ≡ true → Before z t)
      → InOrder s in_sort (map f xs)
  kids_in_order_by in_sort [] a h = tt
  kids_in_order_by in_sort (x ∷ xs) a h = (
    λ z t i j p q. let u = under_kid xs t q in h x u.item z t (is_member-here x xs) (or_right (value_eq u.item x) (is_member u.item xs) u.inside) (Before-member x u.item xs a.0 u.inside) i j p u.holds,
    kids_in_order_by in_sort xs a.1 (λ y y' z t m m'. h y y' z t (or_right (value_eq y x) (is_member y xs) m) (or_right (value_eq y' x) (is_member y' xs) m')),
  )

-- what stands behind a guard
pub guarded_leaf : (b : Bool) (u z : PlainValue) → is_leaf (cond b (Some u) None) z ≡ true → (b ≡ true) × (z ≡ u)
guarded_leaf true u z h = (refl, value_eq-true z u h)
guarded_leaf false u z h = cc

pub leaf_guarded : (b : Bool) (u : PlainValue) → b ≡ true → is_leaf (cond b (Some u) None) u ≡ true
leaf_guarded true u h = value_eq-itself u
leaf_guarded false u h = cc

pub some_guarded : (b : Bool) (u z : PlainValue) → cond b (Some u) None ≡ Some z → (b ≡ true) × (u ≡ z)
some_guarded true u z h = (refl, cc)
some_guarded false u z h = cc

pub guarded_kids : (s : Space) (b : Bool) (ds : List Descriptor) (z : PlainValue) → any_satisfies s (cond b ds []) z ≡ true → (b ≡ true) × (any_satisfies s ds z ≡ true)
guarded_kids s true ds z h = (refl, h)
guarded_kids s false ds z h = cc

pub kids_guarded : (s : Space) (b : Bool) (ds : List Descriptor) (z : PlainValue) → b ≡ true → any_satisfies s ds z ≡ true → any_satisfies s (cond b ds []) z ≡ true
kids_guarded s true ds z e h = h
kids_guarded s false ds z e h = cc

-- the size of a natural number
pub gap : (n : ℕ) → int_gap (pos 0) (pos n) ≡ n
gap n = grind (arith, int_rules)

-- what a true conjunction says
pub both_true : (x y : PlainValue) → truth_of (and x y) ≡ true → (truth_of x ≡ true) × (truth_of y ≡ true)
both_true (bool p) (bool q) h = and_parts p q h
both_true x y h = cc
