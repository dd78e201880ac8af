use Rattle.std.proofs.Common.{◌≡◌, ◌+◌, ◌*◌, ◌≤◌, drop, map}
use Rattle.kid_term.specs.PlainTerm.{depth, depths, term_row}
use Rattle.kid_term.specs.TermView.{plain_term}
use Rattle.kid_codec.specs.NamedValues.{terms_have_tags}
use Rattle.kid_codec.proofs.tags.+tagged.Given as goal

abbrev pub decreases-term_has_tags : goal.decreases-term_has_tags
decreases-term_has_tags l = 2 * depth (plain_term l.term.now)

abbrev pub decreases-terms_have_tags : goal.decreases-terms_have_tags
decreases-terms_have_tags l = 2 * depths (term_row (map plain_term l.terms.now)) + 1

abbrev pub invariant-terms_have_tags-loop-term : goal.invariant-terms_have_tags-loop-term
invariant-terms_have_tags-loop-term l = record {
  told : terms_have_tags (term_row (map plain_term (drop l.term-index l.terms))) ≡ terms_have_tags (term_row (map plain_term l.terms));
  deep : depths (term_row (map plain_term (drop l.term-index l.terms))) ≤ depths (term_row (map plain_term l.terms));
}
