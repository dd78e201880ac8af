use Rattle.std.proofs.Common.{◌≡◌, map, drop}
use Rattle.kid_term.specs.TermView.{plain_term}
use Rattle.kid_scope.specs.LawRules.{some_bound}
use Rattle.kid_kernel.proofs.by_law.some_bound.Given as goal

abbrev pub invariant-loop-term : goal.invariant-loop-term
invariant-loop-term l = some_bound l.pairs (map plain_term l.terms) ≡ some_bound l.pairs (map plain_term (drop l.term-index l.terms))
