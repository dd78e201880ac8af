use Rattle.kid_scope.proofs.HoldLemmas.{holds_true}
use Rattle.kid_scope.proofs.law.held_are_true.Goals as goal

pub returns : goal.returns
returns c = holds_true
