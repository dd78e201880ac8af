use Rattle.kid_subsets.proofs.SubsetsLifting.{subsets_are_lawful}
use Rattle.kid_subsets.proofs.law.subsets_are_lawful.Goals as goal

pub returns : goal.returns
returns c = subsets_are_lawful
