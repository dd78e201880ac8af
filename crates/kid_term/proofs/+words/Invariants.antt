use Rattle.std.proofs.Common.{◌≡◌, map, drop}
use Rattle.kid_term.specs.TermView.{plain_term}
use Rattle.kid_term.specs.PlainTerm.{term_row}
use Rattle.kid_term.specs.WordTerms.{some_hold_word_operator}
use Rattle.kid_term.proofs.+words.Given as goal

abbrev pub invariant-word::some_hold_word_operator-loop-t : goal.invariant-word::some_hold_word_operator-loop-t
invariant-word::some_hold_word_operator-loop-t l =
    some_hold_word_operator (term_row (map plain_term l.terms)) ≡ some_hold_word_operator (term_row (map plain_term (drop l.t-index l.terms)))
