use Rattle.kid_value.proofs.WordMeaning.{laws}
use Rattle.kid_value.proofs.law.word_laws.Goals as goal

pub returns : goal.returns
returns c = laws
