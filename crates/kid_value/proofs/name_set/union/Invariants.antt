use Rattle.std.proofs.Common.{◌≡◌, drop}
use Rattle.kid_value.specs.NameSet.{names_union}
use Rattle.kid_value.proofs.name_set.union.Given as goal

abbrev pub invariant-loop-name : goal.invariant-loop-name
invariant-loop-name l = names_union l.names (drop l.name-index l.second) ≡ names_union l.first l.second
