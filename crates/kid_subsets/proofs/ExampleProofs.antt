-- Small searches, computed.
use Rattle.std.proofs.Common.{refl}
use Rattle.kid_subsets.specs.Examples.{SubsetsExamples}

pub subsets_examples : SubsetsExamples
subsets_examples = record { all = refl; none = refl }
