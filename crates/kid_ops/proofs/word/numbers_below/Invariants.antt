use Rattle.std.proofs.Common.{◌≡◌, ◌-◌, ◌++◌, map}
use Rattle.std.specs.Prelude.{filter}
use Rattle.std.specs.List.{range_with_len}
use Rattle.kid_value.specs.Rows.Word.{has_bit, bits_below, key_at}
use Rattle.kid_ops.proofs.word.numbers_below.Given as goal

abbrev pub invariant-loop-i : goal.invariant-loop-i
invariant-loop-i l = l.values ++ map (key_at l.lo) (filter (has_bit l.word) (range_with_len l.i (l.size - l.i))) ≡ map (key_at l.lo) (bits_below l.size l.word)
