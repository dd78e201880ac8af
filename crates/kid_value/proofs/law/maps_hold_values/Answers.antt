use Rattle.kid_value.proofs.MapMeaning.{values_held}
use Rattle.kid_value.proofs.law.maps_hold_values.Goals as goal

pub returns : goal.returns
returns c = values_held
