use Rattle.std.proofs.Common.{sym, arith}
use Rattle.kid_ops.proofs.BitLemmas.{has_bit-above}
use Rattle.kid_ops.proofs.word.has_bit.Goals as goal

pub returns-then-place-ge64 : goal.returns-then-place-ge64
returns-then-place-ge64 c = sym (has_bit-above c.args.word c.args.place (omega arith) (omega arith))
