use Rattle.std.proofs.Common.{rules, ◌≡◌, ◌∷◌, ◌+◌, drop, ◌∙◌}
use Rattle.kid_value.specs.ValueView.{plain}
use Rattle.kid_value.specs.Rows.Parts.{members_of}
use Rattle.kid_run.specs.FrameView.{plain_machine, plain_stmts, plain_frames, members_left}
use Rattle.kid_run.proofs.FrameLemmas.{left-first, next-some}
use Rattle.kid_run.proofs.moves.next_member.Goals as goal

pub returns : goal.returns
returns c =
    let w = c.args.walk in
    let ms = members_of (plain w.set) in
    let l : drop w.next ms ≡ plain c.in-Some.member.now ∷ drop (w.next + 1) ms = left-first c.members.result.now ms w.next c.in-Some.member.now c.members.ensures (search rules) (search rules) in
    next-some w.names w.name.now (members_left w) (plain c.in-Some.member.now) (drop (w.next + 1) ms) (plain_stmts w.body.now) (plain_machine c.args.machine.now) c.push.new.self
    (plain_frames c.keep_members.new.frames.items) l
    (c.in_ok-push.ensures.ok ∙ (λ i. (w.name.now, c.in_ok-copy.ensures i) ∷ c.args.machine.now.env)) c.in_ok-keep_members.ensures
