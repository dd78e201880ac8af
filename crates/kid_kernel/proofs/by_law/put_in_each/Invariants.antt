use Rattle.std.proofs.Common.{◌≡◌, map, take}
use Rattle.kid_term.specs.Simultaneous.{substituted}
use Rattle.kid_term.specs.TermView.{plain_term}
use Rattle.kid_kernel.proofs.by_law.put_in_each.Given as goal

abbrev pub invariant-loop-term : goal.invariant-loop-term
invariant-loop-term l = l.put ≡ map (substituted l.pairs) (map plain_term (take l.term-index l.terms))
