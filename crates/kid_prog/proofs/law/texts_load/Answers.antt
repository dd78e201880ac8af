use Rattle.kid_prog.proofs.LoadBack.{text_loads}
use Rattle.kid_prog.proofs.law.texts_load.Goals as goal

pub returns : goal.returns
returns c = text_loads
