use Rattle.std.proofs.Common.{◌≡◌, map, length}
use Rattle.kid_value.specs.ValueView.{plain}
use Rattle.kid_ops.specs.Merged.{from_on}
use Rattle.kid_ops.proofs.merge.rest_from.Given as goal

abbrev pub invariant-loop-first : goal.invariant-loop-first
invariant-loop-first l = from_on (plain l.x) (map plain l.rest) ≡ from_on (plain l.x) (map plain l.values)

abbrev pub decreases-loop-first : goal.decreases-loop-first
decreases-loop-first l = length l.rest
