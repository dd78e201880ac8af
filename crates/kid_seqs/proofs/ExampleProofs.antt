-- Small searches, computed.
use Rattle.std.proofs.Common.{refl}
use Rattle.kid_seqs.specs.Examples.{SeqsExamples}

pub seqs_examples : SeqsExamples
seqs_examples = record { all = refl; none = refl }
