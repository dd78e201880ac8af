use Rattle.std.proofs.Common.{◌≡◌, ◌++◌, map, drop}
use Rattle.kid_value.specs.NameView.{plain_name}
use Rattle.kid_term.specs.TermView.{plain_term}
use Rattle.kid_scope.specs.Unfolding.{paired}
use Rattle.kid_scope.proofs.unfold.paired.Given as goal

-- the pairs so far and those of what is left are all pairs
abbrev pub invariant-loop-i : goal.invariant-loop-i
invariant-loop-i l = l.pairs ++ paired (map plain_name (drop l.i l.parameters)) (map plain_term (drop l.i l.args)) ≡ paired (map plain_name l.parameters) (map plain_term l.args)
