use Rattle.kid_codec.specs.Word.{op_of}
use Rattle.kid_codec.proofs.Words.{op_found}
use Rattle.kid_codec.proofs.word.op_of.Goals as goal

pub returns-clause-word : goal.returns-clause-word
unfolding op_of
returns-clause-word c = op_found c.op_among.result c.args.word.now c.op_among.ensures
