use Rattle.kid_prog.proofs.FormedTold.{loads_formed}
use Rattle.kid_prog.proofs.law.loads_are_formed.Goals as goal

pub returns : goal.returns
returns c = loads_formed
