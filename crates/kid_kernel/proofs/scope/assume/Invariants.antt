use Rattle.std.proofs.Common.{◌≡◌, ◌++◌, map, drop}
use Rattle.kid_term.specs.TermView.{plain_term}
use Rattle.kid_kernel.proofs.scope.assume.Given as goal

-- the terms so far with those that are left are all terms
abbrev pub invariant-loop-term : goal.invariant-loop-term
invariant-loop-term l = l.assumed ++ map plain_term (drop l.term-index l.term-items) ≡ l.initial.assumed ++ map plain_term l.term-items
