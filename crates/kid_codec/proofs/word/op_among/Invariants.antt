use Rattle.std.proofs.Common.{◌≡◌, drop}
use Rattle.kid_codec.specs.Word.{operator_word, first_with}
use Rattle.kid_codec.proofs.word.op_among.Given as goal

abbrev pub invariant-loop-op : goal.invariant-loop-op
invariant-loop-op l = first_with operator_word (drop l.op-index l.ops) l.word ≡ first_with operator_word l.ops l.word
