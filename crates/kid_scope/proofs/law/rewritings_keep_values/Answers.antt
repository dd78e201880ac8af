use Rattle.kid_scope.proofs.RewriteLemmas.{rewritten_keeps}
use Rattle.kid_scope.proofs.law.rewritings_keep_values.Goals as goal

pub returns : goal.returns
returns c = rewritten_keeps
