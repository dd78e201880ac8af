use Rattle.std.proofs.Common.{◌≡◌, ◌++◌, map, take}
use Rattle.kid_value.specs.ValueView.{plain}
use Rattle.kid_ops.proofs.seq.copy_onto.Given as goal

abbrev pub invariant-loop-v : goal.invariant-loop-v
invariant-loop-v l = l.copies ≡ l.initial.copies ++ map plain (take l.v-index l.values)
