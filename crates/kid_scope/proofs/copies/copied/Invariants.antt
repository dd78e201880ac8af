use Rattle.std.proofs.Common.{◌≡◌, ◌++◌, map, drop}
use Rattle.kid_term.specs.TermView.{plain_term}
use Rattle.kid_scope.proofs.copies.copied.Given as goal

-- the terms so far and those that are left are all terms
abbrev pub invariant-loop-term : goal.invariant-loop-term
invariant-loop-term l = l.copy ++ map plain_term (drop l.term-index l.term-items) ≡ l.terms
