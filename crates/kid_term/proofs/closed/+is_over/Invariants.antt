use Rattle.std.proofs.Common.{◌≡◌, map, drop}
use Rattle.kid_term.specs.PlainTerm.{term_row}
use Rattle.kid_term.specs.TermView.{plain_term}
use Rattle.kid_term.specs.Closed.{all_over}
use Rattle.kid_term.specs.BoundView.{names_of}
use Rattle.kid_term.proofs.closed.+is_over.Given as goal

abbrev pub invariant-all_over-loop-t : goal.invariant-all_over-loop-t
invariant-all_over-loop-t l = all_over (names_of l.bound) (term_row (map plain_term l.terms)) ≡ all_over (names_of l.bound) (term_row (map plain_term (drop l.t-index l.terms)))
