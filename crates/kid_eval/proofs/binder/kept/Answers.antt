use Rattle.std.proofs.Common.{◌≡◌, ◌<◌, length, sym, ap, ◌∙◌, arith}
use Rattle.kid_value.specs.ValueView.{plain}
use Rattle.kid_value.specs.ValueSet.{put}
use Rattle.kid_eval.proofs.BindingLemmas.{kept_more, kept_without}
use Rattle.kid_eval.proofs.binder.kept.Goals as goal
use Rattle.kid_eval.proofs.binder.kept.Goals.{then-is_true+in_ok-copy+in_ok-put, else-is_true}

pub loop-i-preserved : goal.loop-i-preserved
loop-i-preserved c =
    let p : c.loop-i.i < length c.args.members.now = omega arith in
    elim c.if-is_true.branch [
      | then-is_true+in_ok-copy+in_ok-put w ↦
          let e : c.if-is_true.set ≡ put (plain c.index-members-i.result) c.loop-i.set = w.set-is ∙ w.in_ok-put.ensures.ok ∙ ap (λ z. put z c.loop-i.set) w.in_ok-copy.ensures in
          rw e
          (kept_more c.args.members.now c.args.truths.now c.loop-i.i c.index-members-i.result c.index-truths-i.result p c.requires.paired c.index-members-i.is c.index-truths-i.is
          c.loop-i.set c.loop-i.invariant c.requires.ascends (sym c.is_true.ensures ∙ w.if-is_true.true))
      | else-is_true w ↦
          rw w.set-is
          (kept_without c.args.members.now c.args.truths.now c.loop-i.i c.index-members-i.result c.index-truths-i.result p c.requires.paired c.index-members-i.is c.index-truths-i.is
          c.loop-i.set c.loop-i.invariant (sym c.is_true.ensures ∙ w.if-is_true.false))
    ]
