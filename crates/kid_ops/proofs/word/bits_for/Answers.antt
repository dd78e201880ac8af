use Rattle.std.proofs.Common.{◌+◌, ◌*◌, ◌%◌, ◌<◌, ◌^◌, subst, sym, arith}
use Rattle.kid_value.proofs.RowMeaning.{word_of-below}
use Rattle.kid_ops.proofs.BitLemmas.{bit_fits}
use Rattle.kid_ops.proofs.word.bits_for.Goals as goal

pub overflow_add-word : goal.overflow_add-word
overflow_add-word c =
    let h : c.loop-i.word + 1 * 2 ^ c.loop-i.i % 18446744073709551616 < 18446744073709551616 = bit_fits c.loop-i.word c.loop-i.i (subst (λ z. z < 2 ^ c.loop-i.i) (sym c.loop-i.invariant) (word_of-below _ c.loop-i.i)) (omega arith) in
    omega arith
