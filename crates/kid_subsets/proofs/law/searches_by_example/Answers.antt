use Rattle.kid_subsets.proofs.ExampleProofs.{subsets_examples}
use Rattle.kid_subsets.proofs.law.searches_by_example.Goals as goal

pub returns : goal.returns
returns c = subsets_examples
