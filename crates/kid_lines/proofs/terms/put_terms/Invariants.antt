use Rattle.std.proofs.Common.{◌≡◌, drop, map}
use Rattle.kid_sexp.specs.Plain.{join}
use Rattle.kid_term.specs.PlainTerm.{term_row}
use Rattle.kid_term.specs.TermView.{plain_term}
use Rattle.kid_codec.specs.TermSpelling.{term_spellings}
use Rattle.kid_lines.proofs.terms.put_terms.Given as goal

abbrev pub invariant-loop-term : goal.invariant-loop-term
invariant-loop-term l = join l.trees (term_spellings (term_row (map plain_term (drop l.term-index l.terms)))) ≡ join l.initial.trees (term_spellings (term_row (map plain_term l.terms)))
