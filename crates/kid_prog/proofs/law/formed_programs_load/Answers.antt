use Rattle.kid_prog.proofs.LoadBack.{formed_load}
use Rattle.kid_prog.proofs.law.formed_programs_load.Goals as goal

pub returns : goal.returns
returns c = formed_load
