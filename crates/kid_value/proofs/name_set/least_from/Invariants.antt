use Rattle.std.proofs.Common.{◌≡◌, drop}
use Rattle.kid_value.specs.NameSet.{least_from as least_of_all}
use Rattle.kid_value.proofs.name_set.least_from.Given as goal

abbrev pub invariant-loop-name : goal.invariant-loop-name
invariant-loop-name l = least_of_all l.first l.rest ≡ least_of_all l.least (drop l.name-index l.rest)
