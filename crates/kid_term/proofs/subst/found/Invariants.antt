use Rattle.std.proofs.Common.{◌≡◌, map, drop}
use Rattle.kid_term.specs.Simultaneous.{term_at}
use Rattle.kid_term.specs.SubstView.{plain_pair}
use Rattle.kid_term.proofs.subst.found.Given as goal

abbrev pub invariant-loop-item : goal.invariant-loop-item
invariant-loop-item l = term_at l.x (map plain_pair l.items) ≡ term_at l.x (map plain_pair (drop l.item-index l.items))
