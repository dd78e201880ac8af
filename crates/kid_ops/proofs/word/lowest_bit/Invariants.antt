use Rattle.std.proofs.Common.{◌≡◌, ◌-◌}
use Rattle.std.specs.Prelude.{filter}
use Rattle.std.specs.List.{range_with_len}
use Rattle.kid_value.specs.Rows.Word.{has_bit, bits_below}
use Rattle.kid_ops.specs.Bits.{first_place}
use Rattle.kid_ops.proofs.word.lowest_bit.Given as goal

abbrev pub invariant-loop-i : goal.invariant-loop-i
invariant-loop-i l = first_place (filter (has_bit l.word) (range_with_len l.i (l.size - l.i))) ≡ first_place (bits_below l.size l.word)
