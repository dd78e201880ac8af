-- How many values a sort has, counted up to a cap.
use Rattle.std.specs.Prelude.{ℕ, zero, suc, ◌+◌, ◌*◌, ◌^◌, ℤ, nat_le, int_le, min, cond, length}
use Rattle.std.specs.Int.{int_gap}
use Rattle.kid_value.specs.PlainSort.{PlainSort, never, bools, ints, pairs, sets, seqs, maps, enums}

-- a count, or 65537 where it is greater
abbrev pub capped : ℕ → ℕ
capped n = min n 65537

-- how many numbers are from lo to hi
abbrev pub interval_count : ℤ → ℤ → ℕ
interval_count lo hi = cond (int_le lo hi) (int_gap lo hi + 1) 0

-- how many sequences of at most n items there are over c values
abbrev pub sequence_count : ℕ → ℕ → ℕ
sequence_count c zero = 1
sequence_count c (suc n) = 1 + c * sequence_count c n

-- a power up to the cap, which two to the 17th is past
abbrev pub capped_power : ℕ → ℕ → ℕ
capped_power b n = capped (b ^ min n 17)

-- the count of sequences up to the cap, which those of 17 items over two values are past
abbrev pub capped_sequences : ℕ → ℕ → ℕ
capped_sequences c n = capped (cond (nat_le c 1) (1 + c * n) (sequence_count c (min n 17)))

-- how many values a sort has, or 65537 where it has more
abbrev pub count_of : PlainSort → ℕ
count_of never = 0
count_of bools = 2
count_of (ints lo hi) = capped (interval_count lo hi)
count_of (pairs a b) = capped (count_of a * count_of b)
count_of (sets a) = capped_power 2 (count_of a)
count_of (seqs a n) = capped_sequences (count_of a) n
count_of (maps a b) = capped_power (count_of b + 1) (count_of a)
count_of (enums ns) = capped (length ns)
