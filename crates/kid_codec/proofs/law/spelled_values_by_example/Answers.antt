use Rattle.kid_codec.proofs.SpelledExampleProofs.{examples}
use Rattle.kid_codec.proofs.law.spelled_values_by_example.Goals as goal

pub returns : goal.returns
returns c = examples
