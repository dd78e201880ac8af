use Rattle.kid_scope.proofs.ExampleProofs.{rewriting_examples}
use Rattle.kid_scope.proofs.law.rewritings_by_example.Goals as goal

pub returns : goal.returns
returns c = rewriting_examples
