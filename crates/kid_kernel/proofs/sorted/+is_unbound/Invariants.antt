use Rattle.std.proofs.Common.{◌≡◌, ◌+◌, ◌*◌, ◌≤◌, drop, map}
use Rattle.kid_term.specs.PlainTerm.{depth, depths, term_row}
use Rattle.kid_term.specs.TermView.{plain_term}
use Rattle.kid_kernel.specs.SortedLaw.{are_unbound}
use Rattle.kid_kernel.proofs.sorted.+is_unbound.Given as goal

abbrev pub decreases-is_unbound : goal.decreases-is_unbound
decreases-is_unbound l = 2 * depth (plain_term l.term.now)

abbrev pub decreases-are_unbound : goal.decreases-are_unbound
decreases-are_unbound l = 2 * depths (term_row (map plain_term l.terms.now)) + 1

abbrev pub invariant-are_unbound-loop-term : goal.invariant-are_unbound-loop-term
invariant-are_unbound-loop-term l = record {
  told : are_unbound (term_row (map plain_term (drop l.term-index l.terms))) ≡ are_unbound (term_row (map plain_term l.terms));
  deep : depths (term_row (map plain_term (drop l.term-index l.terms))) ≤ depths (term_row (map plain_term l.terms));
}
