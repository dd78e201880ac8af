use Rattle.std.proofs.Common.{◌≡◌, ◌∷◌, [], ◌++◌, sym, ap, ◌∙◌, arith}
use Rattle.std.proofs.Math.Bool.{beq}
use Rattle.kid_value.specs.ValueView.{plain}
use Rattle.kid_ops.proofs.MergeLemmas.{later-ascends, chosen-more, chosen-without, same-is}
use Rattle.kid_ops.proofs.merge.choose.Goals as goal
use Rattle.kid_ops.proofs.merge.choose.Goals.{then-starts_with-present+in_ok-copy+in_ok-push, else-starts_with-present}

pub loop-x-preserved : goal.loop-x-preserved
loop-x-preserved c = record {
  ascends = later-ascends c.args.xs.now c.loop-x.rest.now c.rest_from-rest.result.now c.loop-x.x-index c.x-item.result c.requires.first c.loop-x.invariant.ascends (omega arith) c.x-item.is c.rest_from-rest.ensures;
  passed = elim c.if-starts_with-present.branch [
    | then-starts_with-present+in_ok-copy+in_ok-push w ↦
        let e : c.if-starts_with-present.values ≡ c.loop-x.values ++ plain c.x-item.result ∷ [] = w.values-is ∙ w.in_ok-push.ensures.ok ∙ ap (λ z. c.loop-x.values ++ z ∷ []) w.in_ok-copy.ensures in
        rw e
        (chosen-more c.args.xs.now c.loop-x.rest.now c.rest_from-rest.result.now c.loop-x.x-index c.x-item.result c.requires.first c.loop-x.invariant.ascends (omega arith) c.x-item.is c.rest_from-rest.ensures
        c.args.present c.loop-x.values _ c.loop-x.invariant.passed (sym (same-is c.args.present _) ∙ ap (λ z. beq z c.args.present) (sym c.starts_with.ensures) ∙ w.if-starts_with-present.true))
    | else-starts_with-present w ↦
        rw w.values-is
        (chosen-without c.args.xs.now c.loop-x.rest.now c.rest_from-rest.result.now c.loop-x.x-index c.x-item.result c.requires.first c.loop-x.invariant.ascends (omega arith) c.x-item.is c.rest_from-rest.ensures
        c.args.present c.loop-x.values _ c.loop-x.invariant.passed (sym (same-is c.args.present _) ∙ ap (λ z. beq z c.args.present) (sym c.starts_with.ensures) ∙ w.if-starts_with-present.false))
  ];
}
