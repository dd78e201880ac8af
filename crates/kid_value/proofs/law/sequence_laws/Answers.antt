use Rattle.kid_value.proofs.SequenceMeaning.{laws}
use Rattle.kid_value.proofs.law.sequence_laws.Goals as goal

pub returns : goal.returns
returns c = laws
