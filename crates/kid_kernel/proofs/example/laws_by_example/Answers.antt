use Rattle.kid_kernel.proofs.TheoryExampleProofs.{law_examples}
use Rattle.kid_kernel.proofs.example.laws_by_example.Goals as goal

pub returns : goal.returns
returns c = law_examples
