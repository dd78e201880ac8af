use Rattle.std.proofs.Common.{◌≡◌, ◌+◌, ◌*◌, ◌≤◌, drop, map}
use Rattle.kid_sexp.specs.Tree.{plains}
use Rattle.kid_term.specs.PlainTerm.{depth, depths, term_row}
use Rattle.kid_term.specs.TermView.{plain_term}
use Rattle.kid_theory.specs.Ahead.{any_calls_ahead}
use Rattle.kid_theory.proofs.ahead.+calls_ahead.Given as goal

abbrev pub decreases-calls_ahead : goal.decreases-calls_ahead
decreases-calls_ahead l = 2 * depth (plain_term l.term.now)

abbrev pub decreases-any_calls_ahead : goal.decreases-any_calls_ahead
decreases-any_calls_ahead l = 2 * depths (term_row (map plain_term l.terms.now)) + 1

abbrev pub invariant-any_calls_ahead-loop-term : goal.invariant-any_calls_ahead-loop-term
invariant-any_calls_ahead-loop-term l = record {
  told : any_calls_ahead l.place.name.now (plains l.place.later.now) (term_row (map plain_term (drop l.term-index l.terms)))
      ≡ any_calls_ahead l.place.name.now (plains l.place.later.now) (term_row (map plain_term l.terms));
  deep : depths (term_row (map plain_term (drop l.term-index l.terms))) ≤ depths (term_row (map plain_term l.terms));
}
