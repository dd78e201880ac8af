use Rattle.kid_search.proofs.PlanTheorem.{matched_is_lawful}
use Rattle.kid_search.proofs.law.matched_plans_are_lawful.Goals as goal

pub returns : goal.returns
returns c = matched_is_lawful
