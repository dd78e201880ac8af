use Rattle.std.proofs.Common.{◌≡◌, map, drop}
use Rattle.kid_value.specs.NameView.{plain_name}
use Rattle.kid_sorting.specs.Declaring.{are_allowed}
use Rattle.kid_sorting.proofs.names.are_allowed.Given as goal

abbrev pub invariant-loop-name : goal.invariant-loop-name
invariant-loop-name l = are_allowed (map plain_name (drop l.name-index l.name-items)) ≡ are_allowed l.names
