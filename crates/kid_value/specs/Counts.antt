-- What it means that a sort has so many values.
use Rattle.std.specs.Prelude.{◌≡◌, ℕ, min, List, length}
use Rattle.kid_value.specs.InSort.{in_sort}
use Rattle.kid_value.specs.PlainSort.{PlainSort}
use Rattle.kid_value.specs.PlainValue.{PlainValue}
use Rattle.kid_value.specs.ValueSet.{Ascends, is_member}

-- the list has each value of the sort once, in ascending order, and no other
pub record IsListOf (s : PlainSort) (vs : List PlainValue) : Type 0 where
  pub ascends : Ascends vs
  pub members : (v : PlainValue) → is_member v vs ≡ in_sort s v

-- one list has the values of the sort, and its length, or 65537 where it is longer, is the number
pub record Counts (s : PlainSort) (n : ℕ) : Type 0 where
  pub values : List PlainValue
  pub has_all : IsListOf s values
  pub only : (vs : List PlainValue) → IsListOf s vs → vs ≡ values
  pub counted : n ≡ min (length values) 65537
