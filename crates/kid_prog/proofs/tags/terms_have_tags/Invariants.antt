use Rattle.std.proofs.Common.{◌≡◌, map, drop}
use Rattle.kid_term.specs.PlainTerm.{term_row}
use Rattle.kid_term.specs.TermView.{plain_term}
use Rattle.kid_codec.specs.NamedValues.{terms_have_tags}
use Rattle.kid_prog.proofs.tags.terms_have_tags.Given as goal

abbrev pub invariant-loop-term : goal.invariant-loop-term
invariant-loop-term l = terms_have_tags (term_row (map plain_term (drop l.term-index l.terms))) ≡ terms_have_tags (term_row (map plain_term l.terms))
