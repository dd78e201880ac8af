use Rattle.std.proofs.Common.{◌≡◌, ◌++◌, map, drop}
use Rattle.kid_value.specs.NameView.{plain_name}
use Rattle.kid_scope.specs.LawRules.{names_of}
use Rattle.kid_kernel.proofs.by_law.names_of.Given as goal

-- the names so far and those that are left are all names
abbrev pub invariant-loop-variable : goal.invariant-loop-variable
invariant-loop-variable l = l.names ++ names_of (map plain_name (drop l.variable-index l.variables)) ≡ names_of (map plain_name l.variables)
