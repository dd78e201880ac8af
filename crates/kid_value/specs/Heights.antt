-- How deep lists of values and of entries are.
use Rattle.std.specs.Prelude.{ℕ, List}
use Rattle.kid_value.specs.PlainValue.{PlainValue, row, table, heights, entry_heights}

abbrev pub list_height : List PlainValue → ℕ
list_height vs = heights (row vs)

abbrev pub entries_height : List (PlainValue × PlainValue) → ℕ
entries_height es = entry_heights (table es)
