use Rattle.kid_subsets.proofs.SubsetsCutLaws.{subsets_cuts_lose_nothing}
use Rattle.kid_subsets.proofs.law.subsets_cuts_lose_nothing.Goals as goal

pub returns : goal.returns
returns c = subsets_cuts_lose_nothing
