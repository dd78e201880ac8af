use Rattle.std.proofs.Common.{◌≡◌, map, drop}
use Rattle.kid_term.specs.TermView.{plain_term}
use Rattle.kid_term.specs.Simultaneous.{some_captured}
use Rattle.kid_term.specs.SubstView.{plain_pair}
use Rattle.kid_term.proofs.substitute_all.some_captured.Given as goal

abbrev pub invariant-loop-item : goal.invariant-loop-item
invariant-loop-item l = some_captured l.subst (plain_term l.term) (map plain_pair l.items) ≡ some_captured l.subst (plain_term l.term) (map plain_pair (drop l.item-index l.items))
