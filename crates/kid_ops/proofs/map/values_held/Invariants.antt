use Rattle.std.proofs.Common.{◌≡◌, map, length}
use Rattle.kid_value.specs.ValueSet.{union, set_of}
use Rattle.kid_ops.specs.Parts.{held_by}
use Rattle.kid_ops.proofs.map.values_held.Given as goal

abbrev pub invariant-loop-last : goal.invariant-loop-last
invariant-loop-last l = union (map held_by l.left) l.members ≡ set_of (map held_by l.entries)

abbrev pub decreases-loop-last : goal.decreases-loop-last
decreases-loop-last l = length l.left
