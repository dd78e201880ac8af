use Rattle.kid_search.proofs.RangeTheory.{range_keeps_laws}
use Rattle.kid_search.proofs.range.RangeSearchTheory.keep_laws.Goals as goal

pub returns : goal.returns
returns c = range_keeps_laws
