use Rattle.std.proofs.Common.{◌≡◌, drop, map}
use Rattle.kid_term.specs.TermView.{plain_term}
use Rattle.kid_search.specs.Judged.{all_fit}
use Rattle.kid_search.proofs.judging.all_fit.Given as goal

abbrev pub invariant-loop-term : goal.invariant-loop-term
invariant-loop-term l = all_fit (map plain_term (drop l.term-index l.terms)) ≡ all_fit (map plain_term l.terms)
