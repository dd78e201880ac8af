use Rattle.std.proofs.Common.{◌≡◌, map, take}
use Rattle.kid_term.specs.SubstView.{plain_pair}
use Rattle.kid_laws.proofs.matching.copied.Given as goal

abbrev pub invariant-loop-item : goal.invariant-loop-item
invariant-loop-item l = l.copy ≡ map plain_pair (take l.item-index l.items)
