use Rattle.std.proofs.Common.{◌∷◌, [], ◌++◌, subst, sym, arith}
use Rattle.kid_value.specs.ValueMap.{keys}
use Rattle.kid_value.specs.ValueSet.{Ascends}
use Rattle.kid_value.specs.ValueView.{plain}
use Rattle.kid_ops.proofs.EntryViews.{filled-pushes}
use Rattle.kid_ops.proofs.map.entries_with.Goals as goal

pub push-requires : goal.push-requires
push-requires c =
    subst (λ z. Ascends (keys c.loop-k.entries ++ z ∷ [])) (sym c.in_ok-copy.ensures)
    (filled-pushes (plain c.args.x.now) c.args.keys.now c.loop-k.k-index c.k-item.result c.loop-k.entries (omega arith) c.k-item.is c.requires c.loop-k.invariant)
