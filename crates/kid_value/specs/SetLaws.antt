-- The laws of sets.
use Rattle.std.specs.Prelude.{◌≡◌, ◌↔◌, pos, ◌+ℤ◌, ◌≤ℤ◌, true, false}
use Rattle.kid_value.specs.Canonical.{IsCanonical}
use Rattle.kid_value.specs.Contents.{IsSet, has, IsWithin}
use Rattle.kid_value.specs.PlainValue.{PlainValue, none}
use Rattle.kid_value.specs.PlainValue as value
use Rattle.kid_value.specs.Rows.Parts.{truth_of, number_of}
use Rattle.kid_value.specs.Rows.Set as rows
use Rattle.kid_value.specs.ValueOrder.{Before}

abbrev pub IsSubset : PlainValue → PlainValue → Type 0
IsSubset s t = truth_of (rows.subset s t) ≡ true

pub record SetLaws : Type 0 where
  -- two canonical sets of the same members are one
  pub same : (s t : PlainValue) → IsSet s → IsSet t → IsCanonical s → IsCanonical t → ((x : PlainValue) → has x s ≡ has x t) → s ≡ t
  -- a set without members is the empty one, and a member that was taken away and put back changes nothing
  pub empty : (s : PlainValue) → IsSet s → ((x : PlainValue) → has x s ≡ false) → s ≡ value.set none
  pub with_without : (x s : PlainValue) → IsSet s → IsCanonical s → has x s ≡ true → rows.with x (rows.without x s) ≡ s
  pub member : (x s : PlainValue) → truth_of (rows.member x s) ≡ has x s
  pub subset : (s t : PlainValue) → IsSet s → IsSet t → IsSubset s t ↔ IsWithin s t
  -- the least member of a set that is not empty is one, and none is before it
  pub least : (s d : PlainValue) → IsSet s → (s ≡ value.set none → ⊥) → has (rows.least s d) s ≡ true
  pub least_first : (s d x : PlainValue) → IsCanonical s → Before x (rows.least s d) → has x s ≡ false
  -- card counts the members
  pub card_none : rows.card (value.set none) ≡ value.int (pos 0)
  pub card_with : (x s : PlainValue) → IsSet s → has x s ≡ false → number_of (rows.card (rows.with x s)) ≡ number_of (rows.card s) +ℤ pos 1
  pub card_subset : (s t : PlainValue) → IsSubset s t → IsCanonical s → IsCanonical t → number_of (rows.card s) ≤ℤ number_of (rows.card t)
  -- sum adds them up
  pub sum_none : rows.sum (value.set none) ≡ value.int (pos 0)
  pub sum_with : (x s : PlainValue) → IsSet s → has x s ≡ false → number_of (rows.sum (rows.with x s)) ≡ number_of (rows.sum s) +ℤ number_of x
  pub sum_subset : (s t : PlainValue) → IsSubset s t → IsCanonical s → IsCanonical t → ((x : PlainValue) → has x t ≡ true → pos 0 ≤ℤ number_of x) → number_of (rows.sum s) ≤ℤ number_of (rows.sum t)
  -- a set that lacks the least value in which two differ is before the other
  pub before : (s t x : PlainValue) → IsSet s → IsSet t → IsCanonical s → IsCanonical t → has x s ≡ false → has x t ≡ true → ((y : PlainValue) → Before y x → has y s ≡ has y t) → Before s t
