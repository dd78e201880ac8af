use Rattle.kid_scope.proofs.RuleLemmas.{place_rules_keep}
use Rattle.kid_scope.proofs.law.place_rules_keep_values.Goals as goal

pub returns : goal.returns
returns c = place_rules_keep
