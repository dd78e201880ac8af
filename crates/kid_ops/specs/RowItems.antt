-- A row's items by their places.
use Rattle.std.specs.Prelude.{ℕ, List, Option, unwrap_or}
use Rattle.std.specs.Option.{option_and_then}
use Rattle.kid_value.specs.PlainValue.{PlainValue, seq, items}
use Rattle.kid_value.specs.Rows.Kinds.{wrong_kind, sequence_from}
use Rattle.kid_value.specs.Rows.Word.{item_value, item_of, item_set}

-- the value of the item at a place, or d where there is none
abbrev pub value_of_row : List PlainValue → Option ℕ → PlainValue → PlainValue
value_of_row gs place d = unwrap_or (option_and_then item_value (option_and_then (item_of gs) place)) d

-- a row with another item at a place
abbrev pub row_with : PlainValue → Option ℕ → PlainValue → PlainValue
row_with (seq gs) place g = sequence_from (item_set (items gs) place g)
row_with v place g = wrong_kind
