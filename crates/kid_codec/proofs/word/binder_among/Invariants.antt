use Rattle.std.proofs.Common.{◌≡◌, drop}
use Rattle.kid_codec.specs.Word.{binder_word, first_with}
use Rattle.kid_codec.proofs.word.binder_among.Given as goal

abbrev pub invariant-loop-binder : goal.invariant-loop-binder
invariant-loop-binder l = first_with binder_word (drop l.binder-index l.binders) l.word ≡ first_with binder_word l.binders l.word
