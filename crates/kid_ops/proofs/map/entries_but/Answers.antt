use Rattle.std.proofs.Common.{◌≡◌, false, ◌∷◌, [], ◌++◌, subst, sym, ap, ◌∙◌, arith}
use Rattle.std.specs.Ordering.{is_eq}
use Rattle.kid_value.specs.ValueMap.{keys}
use Rattle.kid_value.specs.ValueSet.{Ascends, value_eq}
use Rattle.kid_value.specs.ValueView.{plain}
use Rattle.kid_ops.proofs.EntryViews.{without-pushes}
use Rattle.kid_ops.proofs.map.entries_but.Goals as goal

pub push-requires : goal.push-requires
push-requires c =
    let p : value_eq (plain c.e-item.result.0) (plain c.args.x.now) ≡ false = sym (c.is_eq.ensures ∙ ap is_eq c.cmp.ensures.value) ∙ c.if-not-is_eq.true in
    subst (λ z. Ascends (keys c.loop-e.others ++ z ∷ [])) (sym c.in_ok-copy.ensures)
    (without-pushes c.args.entries.now c.loop-e.e-index c.e-item.result c.loop-e.others (omega arith) c.e-item.is c.requires (plain c.args.x.now) p c.loop-e.invariant)
