use Rattle.std.proofs.Common.{◌≡◌, ◌++◌, map, drop}
use Rattle.kid_value.specs.ValueSet.{Ascends}
use Rattle.kid_value.specs.ValueView.{plain}
use Rattle.kid_ops.specs.Chosen.{chosen}
use Rattle.kid_ops.proofs.merge.choose.Given as goal

abbrev pub invariant-loop-x : goal.invariant-loop-x
invariant-loop-x l = record {
  ascends : Ascends (map plain l.rest);
  passed : l.values ++ chosen l.present (map plain (drop l.x-index l.xs)) (map plain l.rest) ≡ chosen l.present (map plain l.xs) (map plain l.ys);
}
