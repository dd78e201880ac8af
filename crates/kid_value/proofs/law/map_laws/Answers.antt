use Rattle.kid_value.proofs.MapMeaning.{laws}
use Rattle.kid_value.proofs.law.map_laws.Goals as goal

pub returns : goal.returns
returns c = laws
