use Rattle.std.proofs.Common.{◌≡◌, ◌+◌, ◌*◌, ◌≤◌, drop, map}
use Rattle.kid_term.specs.PlainTerm.{depth, depths, term_row}
use Rattle.kid_term.specs.TermView.{plain_term}
use Rattle.kid_codec.specs.TermSpelling.{all_casts_are_allowed}
use Rattle.kid_codec.proofs.term.+allowed.Given as goal

abbrev pub decreases-casts_are_allowed : goal.decreases-casts_are_allowed
decreases-casts_are_allowed l = 2 * depth (plain_term l.term.now)

abbrev pub decreases-all_casts_are_allowed : goal.decreases-all_casts_are_allowed
decreases-all_casts_are_allowed l = 2 * depths (term_row (map plain_term l.terms.now)) + 1

abbrev pub invariant-all_casts_are_allowed-loop-term : goal.invariant-all_casts_are_allowed-loop-term
invariant-all_casts_are_allowed-loop-term l = record {
  told : all_casts_are_allowed (term_row (map plain_term (drop l.term-index l.terms))) ≡ all_casts_are_allowed (term_row (map plain_term l.terms));
  deep : depths (term_row (map plain_term (drop l.term-index l.terms))) ≤ depths (term_row (map plain_term l.terms));
}
