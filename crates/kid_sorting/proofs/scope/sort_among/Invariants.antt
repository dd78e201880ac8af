use Rattle.std.proofs.Common.{◌≡◌, map, drop}
use Rattle.kid_value.specs.NameView.{plain_name}
use Rattle.kid_term.specs.Sorting.{sort_at}
use Rattle.kid_sorting.proofs.scope.sort_among.Given as goal

-- no entry that was passed has the name
abbrev pub invariant-loop-entry : goal.invariant-loop-entry
invariant-loop-entry l = sort_at l.x (map plain_name (drop l.entry-index l.names)) ≡ sort_at l.x (map plain_name l.names)
