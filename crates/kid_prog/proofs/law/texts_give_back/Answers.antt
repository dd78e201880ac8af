use Rattle.kid_prog.proofs.Laws.{texts_back}
use Rattle.kid_prog.proofs.law.texts_give_back.Goals as goal

pub returns : goal.returns
returns c = texts_back
