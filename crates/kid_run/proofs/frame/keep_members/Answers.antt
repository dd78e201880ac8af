use Rattle.std.proofs.Common.{◌≡◌, arith, sym, ap, ◌∙◌, length, map}
use Rattle.std.proofs.lemmas.List.{length-map}
use Rattle.kid_value.specs.ValueView.{plain}
use Rattle.kid_value.specs.Rows.Parts.{members_of}
use Rattle.kid_run.specs.FrameView.{plain_stmts, plain_frames}
use Rattle.kid_run.proofs.FrameLemmas.{pushed_first, overs-some}
use Rattle.kid_run.proofs.frame.keep_members.Goals as goal

pub returns-in_ok-push : goal.returns-in_ok-push
returns-in_ok-push c =
    let w = c.args.walk in
    let e : length (map plain c.members.result.now) ≡ length (members_of (plain w.set)) = ap length c.members.ensures in
    pushed_first _ _ _ c.in_ok-push.ensures.items
    ∙ sym (overs-some w.names w.name.now w.next (members_of (plain w.set)) (plain_stmts w.body.now) (plain_frames c.args.frames.now.items)
    (omega (arith, c.if-walk-members.true, e, length-map c.members.result.now plain)))
