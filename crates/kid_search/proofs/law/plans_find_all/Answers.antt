use Rattle.kid_search.proofs.PlanTheorem.{plans_find_all}
use Rattle.kid_search.proofs.law.plans_find_all.Goals as goal

pub returns : goal.returns
returns c = plans_find_all
