use Rattle.kid_scope.proofs.ExampleProofs.{rule_examples}
use Rattle.kid_scope.proofs.law.place_rules_by_example.Goals as goal

pub returns : goal.returns
returns c = rule_examples
