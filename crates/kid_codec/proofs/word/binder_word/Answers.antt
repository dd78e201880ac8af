use Rattle.std.proofs.Common.{ap, ◌∙◌}
use Rattle.kid_codec.specs.Word.{binder_of}
use Rattle.kid_codec.proofs.Words.{binder_of-word}
use Rattle.kid_codec.proofs.word.binder_word.Goals as goal

pub returns-clause-back : goal.returns-clause-back
returns-clause-back c = ap binder_of c.word_of_binder.ensures ∙ binder_of-word c.args.binder
