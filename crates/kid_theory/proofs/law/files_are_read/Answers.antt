use Rattle.kid_theory.proofs.Laws.{files_read}
use Rattle.kid_theory.proofs.law.files_are_read.Goals as goal

pub returns : goal.returns
returns c = files_read
