-- The values that a sort has, among all plain trees.
use Rattle.std.specs.Prelude.{Bool, ◌&&◌}
use Rattle.kid_value.specs.Canonical.{is_canonical}
use Rattle.kid_value.specs.PlainSort.{PlainSort, has_sort}
use Rattle.kid_value.specs.PlainValue.{PlainValue}

abbrev pub in_sort : PlainSort → PlainValue → Bool
in_sort s v = has_sort s v && is_canonical v
