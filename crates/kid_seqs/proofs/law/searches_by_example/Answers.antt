use Rattle.kid_seqs.proofs.ExampleProofs.{seqs_examples}
use Rattle.kid_seqs.proofs.law.searches_by_example.Goals as goal

pub returns : goal.returns
returns c = seqs_examples
