use Rattle.std.proofs.Common.{◌≡◌, map, drop}
use Rattle.kid_value.specs.NameView.{plain_name}
use Rattle.kid_term.specs.Names.{is_named}
use Rattle.kid_sorting.proofs.names.is_named.Given as goal

-- no name that was passed is this one
abbrev pub invariant-loop-name : goal.invariant-loop-name
invariant-loop-name l = is_named l.x (map plain_name (drop l.name-index l.names)) ≡ is_named l.x (map plain_name l.names)
