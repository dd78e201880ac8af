use Rattle.std.proofs.Common.{◌∷◌, [], ◌++◌, subst, sym, arith}
use Rattle.kid_value.specs.ValueMap.{keys}
use Rattle.kid_value.specs.ValueSet.{Ascends}
use Rattle.kid_ops.proofs.EntryViews.{narrowed-pushes}
use Rattle.kid_ops.proofs.map.narrowed_by.Goals as goal

pub push-requires : goal.push-requires
push-requires c =
    subst (λ z. Ascends (keys c.loop-e.cut ++ z ∷ [])) (sym c.in_ok-copy.ensures)
    (narrowed-pushes c.args.entries.now c.loop-e.e-index c.e-item.result c.loop-e.cut (omega arith) c.e-item.is c.requires c.args.map.now c.loop-e.invariant)
