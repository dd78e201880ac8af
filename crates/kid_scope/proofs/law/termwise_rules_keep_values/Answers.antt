use Rattle.kid_scope.proofs.RuleLemmas.{termwise_keep}
use Rattle.kid_scope.proofs.law.termwise_rules_keep_values.Goals as goal

pub returns : goal.returns
returns c = termwise_keep
