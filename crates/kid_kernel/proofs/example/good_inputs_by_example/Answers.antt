use Rattle.kid_kernel.proofs.TheoryExampleProofs.{good_examples}
use Rattle.kid_kernel.proofs.example.good_inputs_by_example.Goals as goal

pub returns : goal.returns
returns c = good_examples
