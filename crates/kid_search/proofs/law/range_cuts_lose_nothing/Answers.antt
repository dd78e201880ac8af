use Rattle.kid_search.proofs.RangeCutLaws.{range_cuts_lose_nothing}
use Rattle.kid_search.proofs.law.range_cuts_lose_nothing.Goals as goal

pub returns : goal.returns
returns c = range_cuts_lose_nothing
