use Rattle.std.proofs.Common.{◌≡◌, map, drop}
use Rattle.kid_value.specs.ValueSet.{Ascends, is_subset}
use Rattle.kid_value.specs.ValueView.{plain}
use Rattle.kid_ops.proofs.merge.is_subset.Given as goal

abbrev pub invariant-loop-x : goal.invariant-loop-x
invariant-loop-x l = record {
  ascends : Ascends (map plain l.rest);
  passed : is_subset (map plain (drop l.x-index l.xs)) (map plain l.rest) ≡ is_subset (map plain l.xs) (map plain l.ys);
}
