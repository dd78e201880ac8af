use Rattle.kid_scope.proofs.LawLemmas.{laws_hold}
use Rattle.kid_scope.proofs.law.laws_of_theories_hold.Goals as goal

pub returns : goal.returns
returns c = laws_hold
