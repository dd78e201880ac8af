use Rattle.kid_value.proofs.RowsAsMaps.{laws}
use Rattle.kid_value.proofs.law.row_laws.Goals as goal

pub returns : goal.returns
returns c = laws
