-- How many items a sequence has.
use Rattle.std.specs.Prelude.{ℕ, length}
use Rattle.kid_value.specs.PlainValue.{PlainValue}
use Rattle.kid_value.specs.Rows.Parts.{items_of}

abbrev pub item_count : PlainValue → ℕ
item_count v = length (items_of v)
