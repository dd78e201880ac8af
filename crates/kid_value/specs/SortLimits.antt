-- Which sorts are allowed: their depth, their bounds, the counts of their parts and their names.
use Rattle.std.specs.Prelude.{ℕ, ◌+◌, ℤ, pos, negsuc, Bool, true, ◌&&◌, nat_le, int_le, max, length}
use Rattle.kid_value.specs.NameSet.{names_ascend}
use Rattle.kid_value.specs.PlainSort.{PlainSort, never, bools, ints, pairs, sets, seqs, maps, enums}
use Rattle.kid_value.specs.SortCount.{count_of}

-- how deep a sort nests
abbrev pub sort_depth : PlainSort → ℕ
sort_depth never = 1
sort_depth bools = 1
sort_depth (ints lo hi) = 1
sort_depth (pairs a b) = max (sort_depth a) (sort_depth b) + 1
sort_depth (sets a) = sort_depth a + 1
sort_depth (seqs a n) = sort_depth a + 1
sort_depth (maps a b) = max (sort_depth a) (sort_depth b) + 1
sort_depth (enums ns) = 1

-- whether a number lies within the limits of integers
abbrev pub in_limits : ℤ → Bool
in_limits n = int_le (negsuc 4611686018427387903) n && int_le n (pos 4611686018427387904)

-- whether the bounds, the counts and the names of a sort are allowed
abbrev pub is_bounded : PlainSort → Bool
is_bounded never = true
is_bounded bools = true
is_bounded (ints lo hi) = int_le lo hi && int_le (negsuc 4611686018427387903) lo && int_le hi (pos 4611686018427387904)
is_bounded (pairs a b) = is_bounded a && is_bounded b
is_bounded (sets a) = is_bounded a && nat_le (count_of a) 65536
is_bounded (seqs a n) = is_bounded a && nat_le n 65536
is_bounded (maps a b) = is_bounded a && nat_le (count_of a) 65536 && is_bounded b
is_bounded (enums ns) = nat_le 1 (length ns) && nat_le (length ns) 64 && names_ascend ns

abbrev pub is_allowed : PlainSort → Bool
is_allowed s = nat_le (sort_depth s) 8 && is_bounded s
