use Rattle.kid_search.proofs.Planned.{searches_find_first}
use Rattle.kid_search.proofs.law.searches_find_first.Goals as goal

pub returns : goal.returns
returns c = searches_find_first
