-- Search spaces on values: descriptors, what each stands for, and the parts into which it is split.
use Rattle.std.specs.Prelude.{ℕ, Bool, true, false, ◌&&◌, List, [], ◌∷◌, Option, Some, None}
use Rattle.std.specs.List.{list_any, list_all}
use Rattle.kid_value.specs.InSort.{in_sort}
use Rattle.kid_value.specs.PlainSort.{PlainSort}
use Rattle.kid_value.specs.PlainValue.{PlainValue, set, none}
use Rattle.kid_value.specs.Rows.Parts.{truth_of}
use Rattle.kid_value.specs.ValueSet.{value_eq}

-- the empty set
abbrev pub no_members : PlainValue
no_members = set none

-- the values of the components
abbrev pub Descriptor : Type 0
Descriptor = List PlainValue

-- whether there is a value of its sort for each component
abbrev pub fit : List PlainSort → Descriptor → Bool
fit [] [] = true
fit [] (v ∷ vs) = false
fit (s ∷ ss) [] = false
fit (s ∷ ss) (v ∷ vs) = in_sort s v && fit ss vs

-- whether all conditions are true
abbrev pub all_true : List PlainValue → Bool
all_true vs = list_all truth_of vs

pub record Space : Type 0 where
  -- whether the components have their sorts and the invariant is true
  pub is_good : Descriptor → Bool
  -- whether the value is one of those that the descriptor stands for
  pub satisfies : Descriptor → PlainValue → Bool
  -- the one value that is found at the descriptor itself
  pub leaf : Descriptor → Option PlainValue
  -- the descriptors that the others are sought at
  pub kids : Descriptor → List Descriptor
  -- a bound on how deep the search goes from the descriptor
  pub rank : Descriptor → ℕ

abbrev pub is_leaf : Option PlainValue → PlainValue → Bool
is_leaf None v = false
is_leaf (Some u) v = value_eq v u

abbrev pub any_satisfies : Space → List Descriptor → PlainValue → Bool
any_satisfies s ds v = list_any (λ d. s.satisfies d v) ds
