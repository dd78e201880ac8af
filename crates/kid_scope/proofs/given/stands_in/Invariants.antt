use Rattle.std.proofs.Common.{◌≡◌, map, drop}
use Rattle.kid_term.specs.TermView.{plain_term}
use Rattle.kid_scope.specs.Holds.{stands_in}
use Rattle.kid_scope.proofs.given.stands_in.Given as goal

abbrev pub invariant-loop-other : goal.invariant-loop-other
invariant-loop-other l = stands_in (plain_term l.term) (map plain_term l.terms) ≡ stands_in (plain_term l.term) (map plain_term (drop l.other-index l.terms))
