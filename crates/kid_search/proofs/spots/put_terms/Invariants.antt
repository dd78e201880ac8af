use Rattle.std.proofs.Common.{◌≡◌, ◌++◌, drop, map}
use Rattle.kid_term.specs.TermView.{plain_term}
use Rattle.kid_search.proofs.spots.put_terms.Given as goal

abbrev pub invariant-loop-term : goal.invariant-loop-term
invariant-loop-term l = l.terms ++ map plain_term (drop l.term-index l.more) ≡ l.initial.terms ++ map plain_term l.more
