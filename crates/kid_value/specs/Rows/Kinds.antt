-- What the rows share. An operator at an argument of a kind that its row does not name has the value false.
use Rattle.std.specs.Prelude.{ℕ, ℤ, pos, negsuc, false, List}
use Rattle.kid_value.specs.PlainValue.{PlainValue, bool, set, seq, map_of, row, table}
use Rattle.kid_value.specs.ValueSet.{set_of}

abbrev pub wrong_kind : PlainValue
wrong_kind = bool false

-- the set of the members that ascend, and the set of any values
abbrev pub set_from : List PlainValue → PlainValue
set_from vs = set (row vs)

abbrev pub set_of_all : List PlainValue → PlainValue
set_of_all vs = set_from (set_of vs)

abbrev pub sequence_from : List PlainValue → PlainValue
sequence_from vs = seq (row vs)

abbrev pub map_from : List (PlainValue × PlainValue) → PlainValue
map_from es = map_of (table es)

-- a number that is not negative, and 0 for another
abbrev pub natural : ℤ → ℕ
natural (pos n) = n
natural (negsuc n) = 0
