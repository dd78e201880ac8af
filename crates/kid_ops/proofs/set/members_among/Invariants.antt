use Rattle.std.proofs.Common.{◌≡◌, map, length}
use Rattle.kid_value.specs.ValueSet.{union, set_of}
use Rattle.kid_value.specs.ValueView.{plain}
use Rattle.kid_ops.proofs.set.members_among.Given as goal

abbrev pub invariant-loop-last : goal.invariant-loop-last
invariant-loop-last l = union (map plain l.left) l.members ≡ set_of (map plain l.values)

abbrev pub decreases-loop-last : goal.decreases-loop-last
decreases-loop-last l = length l.left
