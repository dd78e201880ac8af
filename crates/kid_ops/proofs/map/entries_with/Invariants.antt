use Rattle.std.proofs.Common.{◌≡◌, ◌++◌, map, drop}
use Rattle.kid_value.specs.ValueView.{plain}
use Rattle.kid_ops.specs.Parts.{filled}
use Rattle.kid_ops.proofs.map.entries_with.Given as goal

abbrev pub invariant-loop-k : goal.invariant-loop-k
invariant-loop-k l = l.entries ++ filled (plain l.x) (map plain (drop l.k-index l.keys)) ≡ filled (plain l.x) (map plain l.keys)
