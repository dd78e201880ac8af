-- What a value holds: its truth value, its number, its members, items or entries. A value of another kind holds false, 0
-- or none.
use Rattle.std.specs.Prelude.{ℤ, pos, ◌+ℤ◌, Bool, false, List, [], ◌∷◌}
use Rattle.kid_value.specs.PlainValue.{PlainValue, int, bool, set, seq, map_of, items, entries}

abbrev pub truth_of : PlainValue → Bool
truth_of (bool b) = b
truth_of v = false

abbrev pub number_of : PlainValue → ℤ
number_of (int n) = n
number_of v = pos 0

abbrev pub members_of : PlainValue → List PlainValue
members_of (set vs) = items vs
members_of v = []

abbrev pub items_of : PlainValue → List PlainValue
items_of (seq vs) = items vs
items_of v = []

abbrev pub entries_of : PlainValue → List (PlainValue × PlainValue)
entries_of (map_of es) = entries es
entries_of v = []

-- the sum of the values' numbers
abbrev pub total : List PlainValue → ℤ
total [] = pos 0
total (v ∷ vs) = number_of v +ℤ total vs
