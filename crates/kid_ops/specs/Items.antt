-- The items of a sequence by their places.
use Rattle.std.specs.Prelude.{ℕ, zero, suc, List, get_or}
use Rattle.kid_value.specs.PlainValue.{PlainValue}

-- the item at a place that counts from 1, or d where there is none
abbrev pub item_from_one : List PlainValue → ℕ → PlainValue → PlainValue
item_from_one vs zero d = d
item_from_one vs (suc n) d = get_or vs n d
