use Rattle.std.proofs.Common.{◌≡◌, drop}
use Rattle.kid_value.specs.NameSet.{is_among}
use Rattle.kid_laws.proofs.matching.is_variable.Given as goal

abbrev pub invariant-loop-y : goal.invariant-loop-y
invariant-loop-y l = is_among l.x (drop l.y-index l.variables) ≡ is_among l.x l.variables
