use Rattle.std.proofs.Common.{◌≡◌, ◌++◌, map, drop}
use Rattle.kid_term.specs.TermView.{plain_term}
use Rattle.kid_laws.specs.Applied.{zipped}
use Rattle.kid_laws.proofs.arguments.zipped.Given as goal

-- the pairs so far and those of what is left are all pairs
abbrev pub invariant-loop-i : goal.invariant-loop-i
invariant-loop-i l = l.pairs ++ zipped (drop l.i l.names) (map plain_term (drop l.i l.terms)) ≡ zipped l.names (map plain_term l.terms)
