use Rattle.std.proofs.Common.{◌≡◌, ◌+◌, ◌++◌, map, length}
use Rattle.kid_value.specs.ValueSet.{Ascends, union}
use Rattle.kid_value.specs.ValueView.{plain}
use Rattle.kid_ops.proofs.merge.merge.Given as goal

abbrev pub invariant-loop-least : goal.invariant-loop-least
invariant-loop-least l = record {
  first : Ascends (map plain l.left);
  second : Ascends (map plain l.right);
  merged : l.values ++ union (map plain l.left) (map plain l.right) ≡ union (map plain l.xs) (map plain l.ys);
}

abbrev pub decreases-loop-least : goal.decreases-loop-least
decreases-loop-least l = length l.left + length l.right
