use Rattle.kid_maps.proofs.MapsLifting.{maps_are_lawful}
use Rattle.kid_maps.proofs.law.maps_are_lawful.Goals as goal

pub returns : goal.returns
returns c = maps_are_lawful
