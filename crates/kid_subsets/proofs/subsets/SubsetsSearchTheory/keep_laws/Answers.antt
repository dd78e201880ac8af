use Rattle.kid_subsets.proofs.SubsetsTheory.{subsets_keep_laws}
use Rattle.kid_subsets.proofs.subsets.SubsetsSearchTheory.keep_laws.Goals as goal

pub returns : goal.returns
returns c = subsets_keep_laws
