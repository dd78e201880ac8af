use Rattle.kid_scope.proofs.LawRuleLemmas.{law_rules_keep}
use Rattle.kid_scope.proofs.law.law_rules_keep_values.Goals as goal

pub returns : goal.returns
returns c = law_rules_keep
