use Rattle.kid_prog.proofs.Laws.{loads_spelled}
use Rattle.kid_prog.proofs.law.loads_are_spelled.Goals as goal

pub returns : goal.returns
returns c = loads_spelled
