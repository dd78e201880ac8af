use Rattle.std.proofs.Common.{sym, ap, ◌∙◌, arith}
use Rattle.kid_ops.specs.Bits.{first_place}
use Rattle.kid_ops.proofs.BitLemmas.{later_bits}
use Rattle.kid_ops.proofs.word.lowest_bit.Goals as goal

pub loop-i-preserved : goal.loop-i-preserved
loop-i-preserved c = sym (ap first_place (later_bits c.args.word c.loop-i.i c.args.size (omega arith) (sym c.has_bit.ensures ∙ c.if-has_bit.false))) ∙ c.loop-i.invariant
