use Rattle.std.proofs.Common.{◌≡◌, ◌∷◌, [], map, drop}
use Rattle.std.specs.Prelude.{is_some}
use Rattle.kid_term.specs.Simultaneous.{term_at}
use Rattle.kid_term.specs.SubstView.{plain_pair}
use Rattle.kid_laws.proofs.laws.has.Given as goal

abbrev pub invariant-loop-item : goal.invariant-loop-item
invariant-loop-item l = is_some (term_at (l.letter ∷ []) (map plain_pair (drop l.item-index l.items))) ≡ is_some (term_at (l.letter ∷ []) (map plain_pair l.items))
