use Rattle.kid_scope.proofs.ExampleProofs.{examples}
use Rattle.kid_scope.proofs.law.scopes_by_example.Goals as goal

pub returns : goal.returns
returns c = examples
