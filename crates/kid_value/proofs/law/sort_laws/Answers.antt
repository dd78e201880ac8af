use Rattle.kid_value.proofs.SortMeaning.{laws}
use Rattle.kid_value.proofs.law.sort_laws.Goals as goal

pub returns : goal.returns
returns c = laws
