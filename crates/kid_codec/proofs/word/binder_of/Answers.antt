use Rattle.kid_codec.specs.Word.{binder_of}
use Rattle.kid_codec.proofs.Words.{binder_found}
use Rattle.kid_codec.proofs.word.binder_of.Goals as goal

pub returns-clause-word : goal.returns-clause-word
unfolding binder_of
returns-clause-word c = binder_found c.binder_among.result c.args.word.now c.binder_among.ensures
