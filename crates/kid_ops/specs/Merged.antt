-- What is left of ascending values from one on.
use Rattle.std.specs.Prelude.{Bool, false, cond, List, [], ◌∷◌}
use Rattle.std.specs.Ordering.{is_eq, is_lt}
use Rattle.kid_value.specs.PlainValue.{PlainValue}
use Rattle.kid_value.specs.ValueOrder.{value_cmp}

-- the values from the first on that is not before x
abbrev pub from_on : PlainValue → List PlainValue → List PlainValue
from_on x [] = []
from_on x (y ∷ ys) = cond (is_lt (value_cmp y x)) (from_on x ys) (y ∷ ys)

abbrev pub starts_with : PlainValue → List PlainValue → Bool
starts_with x [] = false
starts_with x (y ∷ ys) = is_eq (value_cmp y x)
