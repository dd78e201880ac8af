use Rattle.std.proofs.Common.{rules, sym, ◌∙◌}
use Rattle.kid_run.specs.FrameView.{plain_frames}
use Rattle.kid_run.proofs.FrameLemmas.{pushed_first, keeping-some}
use Rattle.kid_run.proofs.frame.keep.Goals as goal

pub returns-in_ok-push : goal.returns-in_ok-push
returns-in_ok-push c =
    pushed_first _ _ _ c.in_ok-push.ensures.items ∙ sym (keeping-some c.args.names c.args.stmts.now (plain_frames c.args.frames.now.items) (search rules))
