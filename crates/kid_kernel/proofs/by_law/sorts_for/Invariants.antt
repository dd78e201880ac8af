use Rattle.std.proofs.Common.{◌≡◌, ◌++◌, map, drop}
use Rattle.kid_value.specs.NameView.{plain_name}
use Rattle.kid_term.specs.TermView.{plain_term}
use Rattle.kid_scope.specs.LawInstances.{sorts_for}
use Rattle.kid_kernel.proofs.by_law.sorts_for.Given as goal

-- the terms so far and those that are left are all terms
abbrev pub invariant-loop-i : goal.invariant-loop-i
invariant-loop-i l = l.within ++ sorts_for (map plain_name (drop l.i l.variables)) (map plain_term (drop l.i l.terms)) ≡ sorts_for (map plain_name l.variables) (map plain_term l.terms)
