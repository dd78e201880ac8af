use Rattle.kid_search.proofs.RangeLifting.{range_is_lawful}
use Rattle.kid_search.proofs.law.ranges_are_lawful.Goals as goal

pub returns : goal.returns
returns c = range_is_lawful
