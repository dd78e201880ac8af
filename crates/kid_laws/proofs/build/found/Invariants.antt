use Rattle.std.proofs.Common.{◌≡◌, ◌∷◌, [], map, drop}
use Rattle.kid_term.specs.Simultaneous.{term_for}
use Rattle.kid_term.specs.SubstView.{plain_pair}
use Rattle.kid_laws.proofs.build.found.Given as goal

abbrev pub invariant-loop-item : goal.invariant-loop-item
invariant-loop-item l = term_for (l.letter ∷ []) (map plain_pair (drop l.item-index l.items)) ≡ term_for (l.letter ∷ []) (map plain_pair l.items)
