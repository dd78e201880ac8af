use Rattle.std.proofs.Common.{◌≡◌, max, map, drop}
use Rattle.kid_term.specs.TermView.{plain_term}
use Rattle.kid_term.specs.PlainTerm.{term_row}
use Rattle.kid_term.specs.CallDepth.{deepest_of}
use Rattle.kid_term.proofs.call_depth.CallDepths.+deepest_call.Given as goal

abbrev pub invariant-deepest_of-loop-term : goal.invariant-deepest_of-loop-term
invariant-deepest_of-loop-term l =
    max l.most (deepest_of l.self (term_row (map plain_term (drop l.term-index l.terms)))) ≡ deepest_of l.self (term_row (map plain_term l.terms))
