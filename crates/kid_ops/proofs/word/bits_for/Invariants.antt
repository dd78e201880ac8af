use Rattle.std.proofs.Common.{◌≡◌}
use Rattle.kid_value.specs.ValueSet.{is_member}
use Rattle.kid_value.specs.Rows.Word.{word_of, key_at}
use Rattle.kid_ops.proofs.word.bits_for.Given as goal

abbrev pub invariant-loop-i : goal.invariant-loop-i
invariant-loop-i l = l.word ≡ word_of (λ i. is_member (key_at l.lo i) l.members) l.i
