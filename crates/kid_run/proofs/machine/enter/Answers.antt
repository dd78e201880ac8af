use Rattle.std.proofs.Common.{◌≡◌, ◌++◌, ap, ◌∙◌, map, length}
use Rattle.kid_value.specs.ValueView.{plain}
use Rattle.kid_term.specs.Eval.{bound}
use Rattle.kid_prog.specs.PlainStmt.{stmt_row}
use Rattle.kid_prog.specs.ProgramView.{plain_program}
use Rattle.kid_run.specs.Frames.{machine, keeping, waiting}
use Rattle.kid_run.specs.FrameView.{plain_frames, plain_stmts}
use Rattle.kid_prog.specs.Events.{search_env}
use Rattle.kid_run.proofs.machine.enter.Goals as goal

pub returns : goal.returns
returns c =
    let p = plain_program c.args.program.now in
    let m = c.args.machine.now in
    let vs = map plain c.args.values.items in
    let x = bound p.inputs (map plain c.args.inputs.now) in
    let env : c.replace-caller.new.dest ≡ search_env p x vs
    = c.replace-caller.ensures.after ∙ c.in_ok-push_all.ensures ∙ (λ i. bound (c.items.ensures i) vs ++ c.input_env-env.ensures i) in
    let kept : plain_frames c.keep.new.frames.items ≡ keeping (length m.env) (plain_stmts m.stmts.now) (plain_frames m.frames.items)
    = c.in_ok-keep.ensures ∙ ap (λ n. keeping n (plain_stmts m.stmts.now) (plain_frames m.frames.items)) c.len.ensures in
    let frames : plain_frames c.keep_caller.new.frames.items ≡ waiting m.env (keeping (length m.env) (plain_stmts m.stmts.now) (plain_frames m.frames.items))
    = c.in_ok-keep_caller.ensures ∙ (λ i. waiting (c.replace-caller.ensures.value i) (kept i)) in
    λ i. machine (env i) (stmt_row (c.items-machine.ensures i)) (frames i)
