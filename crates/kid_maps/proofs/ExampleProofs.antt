-- Small searches, computed.
use Rattle.std.proofs.Common.{refl}
use Rattle.kid_maps.specs.Examples.{MapsExamples}

pub maps_examples : MapsExamples
maps_examples = record { all = refl; none = refl }
