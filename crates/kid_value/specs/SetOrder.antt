-- What the order says of two different sets: the one that lacks the least value in which they differ is smaller.
use Rattle.std.specs.Prelude.{◌≡◌, true, false, List}
use Rattle.kid_value.specs.PlainValue.{PlainValue}
use Rattle.kid_value.specs.ValueOrder.{Before}
use Rattle.kid_value.specs.ValueSet.{is_member}

-- the least value in which two sets differ is in the second alone
pub record LacksLeast (xs ys : List PlainValue) : Type 0 where
  pub least : PlainValue
  pub absent : is_member least xs ≡ false
  pub present : is_member least ys ≡ true
  pub agree : (w : PlainValue) → Before w least → is_member w xs ≡ is_member w ys
