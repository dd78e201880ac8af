use Rattle.kid_search.proofs.PlanTheorem.{designs_answer}
use Rattle.kid_search.proofs.law.designs_answer.Goals as goal

pub returns : goal.returns
returns c = designs_answer
