-- What the order says of two different maps: the least key at which their look-ups differ decides.
use Rattle.std.specs.Prelude.{◌≡◌, List, Option, Some, None}
use Rattle.kid_value.specs.PlainValue.{PlainValue}
use Rattle.kid_value.specs.ValueMap.{lookup}
use Rattle.kid_value.specs.ValueOrder.{Before}

-- the first map lacks the key that the second has, or has the lesser value there
abbrev pub IsLowerAt : Option PlainValue → Option PlainValue → Type 0
IsLowerAt None (Some w) = Unit {0}
IsLowerAt (Some v) (Some w) = Before v w
IsLowerAt o None = ⊥

-- the first map is lower at the least key at which the two differ
pub record IsLowerFirst (m n : List (PlainValue × PlainValue)) : Type 0 where
  pub key : PlainValue
  pub lower : IsLowerAt (lookup key m) (lookup key n)
  pub agree : (k : PlainValue) → Before k key → lookup k m ≡ lookup k n
