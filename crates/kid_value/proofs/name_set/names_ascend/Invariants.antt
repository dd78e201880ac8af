use Rattle.std.proofs.Common.{◌≡◌, drop}
use Rattle.kid_value.specs.NameSet.{names_ascend as ascending}
use Rattle.kid_value.proofs.name_set.names_ascend.Given as goal

abbrev pub invariant-loop-i : goal.invariant-loop-i
invariant-loop-i l = ascending l.names ≡ ascending (drop l.i l.names)
