use Rattle.std.proofs.Common.{◌≡◌, map, length, take, ◌≤◌}
use Rattle.kid_term.specs.DefView.{plain_def}
use Rattle.kid_term.specs.Latest.{latest_place}
use Rattle.kid_term.proofs.definition.place_among.Given as goal

-- none of those that were passed has the name
abbrev pub invariant-loop-at : goal.invariant-loop-at
invariant-loop-at l = (l.at ≤ length l.definitions) × (latest_place l.name (take l.at (map plain_def l.definitions)) ≡ latest_place l.name (take l.count (map plain_def l.definitions)))

abbrev pub decreases-loop-at : goal.decreases-loop-at
decreases-loop-at l = l.at
