use Rattle.std.proofs.Common.{◌+◌, ◌-◌, length, sym, ap, ◌∙◌, arith}
use Rattle.std.specs.Prelude.{filter}
use Rattle.std.specs.List.{range_with_len}
use Rattle.kid_value.specs.Rows.Word.{has_bit}
use Rattle.kid_ops.proofs.BitLemmas.{counted-more, counted-without}
use Rattle.kid_ops.proofs.word.count_bits.Goals as goal
use Rattle.kid_ops.proofs.word.count_bits.Goals.{then-has_bit, else-has_bit}

pub loop-i-preserved : goal.loop-i-preserved
loop-i-preserved c = record {
  counted = elim c.if-has_bit.branch [
    | then-has_bit w ↦
        ap (λ z. z + length (filter (has_bit c.args.word) (range_with_len (c.loop-i.i + 1) (c.args.size - (c.loop-i.i + 1))))) w.count-is
        ∙ counted-more c.args.word c.loop-i.i c.args.size c.loop-i.count _ (omega arith) c.loop-i.invariant.counted (sym c.has_bit.ensures ∙ w.if-has_bit.true)
    | else-has_bit w ↦
        ap (λ z. z + length (filter (has_bit c.args.word) (range_with_len (c.loop-i.i + 1) (c.args.size - (c.loop-i.i + 1))))) w.count-is
        ∙ counted-without c.args.word c.loop-i.i c.args.size c.loop-i.count _ (omega arith) c.loop-i.invariant.counted (sym c.has_bit.ensures ∙ w.if-has_bit.false)
  ];
  most = elim c.if-has_bit.branch [
    | then-has_bit w ↦ let e = w.count-is in let h = c.loop-i.invariant.most in omega arith
    | else-has_bit w ↦ let e = w.count-is in let h = c.loop-i.invariant.most in omega arith
  ];
}
