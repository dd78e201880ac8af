use Rattle.std.proofs.Common.{◌≡◌, ◌+◌, ◌-◌, ◌≤◌, length}
use Rattle.std.specs.Prelude.{filter}
use Rattle.std.specs.List.{range_with_len}
use Rattle.kid_value.specs.Rows.Word.{has_bit, bits_below}
use Rattle.kid_ops.proofs.word.count_bits.Given as goal

abbrev pub invariant-loop-i : goal.invariant-loop-i
invariant-loop-i l = record {
  counted : l.count + length (filter (has_bit l.word) (range_with_len l.i (l.size - l.i))) ≡ length (bits_below l.size l.word);
  most : l.count ≤ l.i;
}
