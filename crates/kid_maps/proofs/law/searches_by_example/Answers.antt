use Rattle.kid_maps.proofs.ExampleProofs.{maps_examples}
use Rattle.kid_maps.proofs.law.searches_by_example.Goals as goal

pub returns : goal.returns
returns c = maps_examples
