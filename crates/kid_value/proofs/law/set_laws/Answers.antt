use Rattle.kid_value.proofs.SetMeaning.{laws}
use Rattle.kid_value.proofs.law.set_laws.Goals as goal

pub returns : goal.returns
returns c = laws
