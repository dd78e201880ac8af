use Rattle.std.proofs.Common.{◌≡◌, Some, None, sym, subst, arith}
use Rattle.std.specs.Prelude.{MatchOption}
use Rattle.kid_term.specs.TermView.{plain_term}
use Rattle.kid_term.proofs.ReplaceLemmas.{subterm_among-at, subterm_among-past}
use Rattle.kid_term.proofs.+below.Goals as goal

pub place::below_among-returns-else-at-terms : goal.place::below_among-returns-else-at-terms
place::below_among-returns-else-at-terms t c = subterm_among-past c.args.terms.now c.args.i c.args.path.now (omega arith)

pub place::below_among-returns-then-at-terms : goal.place::below_among-returns-then-at-terms
place::below_among-returns-then-at-terms t c =
    subst (λ z. MatchOption c.below.result (z ≡ None) (λ u. z ≡ Some (plain_term u.now)))
    (sym (subterm_among-at c.args.terms.now c.args.i c.args.path.now c.index-terms-at.result (omega arith) c.index-terms-at.is)) c.below.ensures
