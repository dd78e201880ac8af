-- How many values a sort has. The numbers are too large to be computed.
use Rattle.std.specs.Prelude.{ℕ, ◌+◌, ◌*◌, ◌^◌, length}
use Rattle.kid_value.specs.PlainSort.{PlainSort, never, bools, ints, pairs, sets, seqs, maps, enums}
use Rattle.kid_value.specs.SortCount.{interval_count, sequence_count}

unfoldable pub value_count : PlainSort → ℕ
value_count never = 0
value_count bools = 2
value_count (ints lo hi) = interval_count lo hi
value_count (pairs a b) = value_count a * value_count b
value_count (sets a) = 2 ^ value_count a
value_count (seqs a n) = sequence_count (value_count a) n
value_count (maps a b) = (value_count b + 1) ^ value_count a
value_count (enums ns) = length ns
