use Rattle.kid_search.proofs.Planned.{searches_find_all}
use Rattle.kid_search.proofs.law.searches_find_all.Goals as goal

pub returns : goal.returns
returns c = searches_find_all
