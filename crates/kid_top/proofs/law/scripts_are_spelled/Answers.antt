use Rattle.kid_top.proofs.Scripts.{scripts_spelled}
use Rattle.kid_top.proofs.law.scripts_are_spelled.Goals as goal

pub returns : goal.returns
returns c = scripts_spelled
