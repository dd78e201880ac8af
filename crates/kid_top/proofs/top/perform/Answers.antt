use Rattle.std.proofs.Common.{Option, IfOk, map, subst}
use Rattle.std.specs.String.{string_bytes}
use Rattle.kid_outer.specs.Held.{Held}
use Rattle.kid_top.specs.Finishing.{Finishes, FinishKeeps, FinishWhole}
use Rattle.kid_top.specs.Words.{plain_command}
use Rattle.kid_top.specs.WorkView.{plain_work}
use Rattle.kid_top.proofs.Performed.{front-of_work, front-untouched, gives_work, files-by, derived-by}
use Rattle.kid_top.specs.Command.{command_of}
use Rattle.kid_top.proofs.Whole.{whole-untouched, whole-by, leaves-untouched, leaves-by}
use Rattle.kid_top.proofs.Silent.{silent-by}
use Rattle.kid_top.proofs.top.perform.Goals as goal

pub returns-in_err-work-clause-front : goal.returns-in_err-work-clause-front
returns-in_err-work-clause-front g c = front-untouched (map string_bytes c.args.words.now) (g.S.Store.held c.args.store.now) (g.O.Sink.written c.args.out.now)

pub returns-clause-front : goal.returns-clause-front
returns-clause-front g c =
    front-of_work (map string_bytes c.args.words.now) (plain_command c.in-Some.command) (plain_work c.in_ok-work.work) (g.S.Store.held c.args.store.now)
    (g.O.Sink.written c.args.out.now) (g.O.Sink.written c.finish.new.out) c.in-Some.ensures.command
    (gives_work (plain_command c.in-Some.command) (g.S.Store.held c.args.store.now) c.in_ok-work.work c.in_ok-work.ensures.outcome) c.finish.ensures.front

pub returns-clause-files : goal.returns-clause-files
returns-clause-files g c =
    let w = plain_work c.in_ok-work.work in
    let old = g.O.Sink.written c.args.out.now in
    let new = g.O.Sink.written c.finish.new.out in
    let after = g.S.Store.held c.finish.new.store in
    files-by (map string_bytes c.args.words.now) (plain_command c.in-Some.command) w c.finish.result old new (g.S.Store.held c.args.store.now) after
    c.in-Some.ensures.command c.in_ok-work.ensures.suits (gives_work (plain_command c.in-Some.command) (g.S.Store.held c.args.store.now) c.in_ok-work.work c.in_ok-work.ensures.outcome)
    (subst (λ (h : Option Held). IfOk c.finish.result (λ status. Finishes w status old new h after)) c.in_ok-work.ensures.held c.finish.ensures.done)
    c.finish.ensures.late (subst (λ (h : Option Held). FinishKeeps w h after) c.in_ok-work.ensures.held c.finish.ensures.kept)

pub returns-clause-derived : goal.returns-clause-derived
returns-clause-derived g c =
    let w = plain_work c.in_ok-work.work in
    let old = g.O.Sink.written c.args.out.now in
    let new = g.O.Sink.written c.finish.new.out in
    let after = g.S.Store.held c.finish.new.store in
    derived-by (map string_bytes c.args.words.now) (plain_command c.in-Some.command) c.in_ok-work.work c.finish.result old new (g.S.Store.held c.args.store.now) after
    c.in-Some.ensures.command c.in_ok-work.ensures.outcome
    (subst (λ (h : Option Held). IfOk c.finish.result (λ status. Finishes w status old new h after)) c.in_ok-work.ensures.held c.finish.ensures.done)

pub returns-in_err-work-clause-whole : goal.returns-in_err-work-clause-whole
returns-in_err-work-clause-whole g c =
    whole-untouched (command_of (map string_bytes c.args.words.now)) (g.S.Store.faults c.args.store.now) (g.S.Store.faults c.work_of.new.store) (g.S.Store.held c.args.store.now)
    (g.S.Store.held c.work_of.new.store) c.work_of.ensures.held

pub returns-clause-whole : goal.returns-clause-whole
returns-clause-whole g c =
    let w = plain_work c.in_ok-work.work in
    let mid = g.S.Store.faults c.work_of.new.store in
    let now = g.S.Store.faults c.finish.new.store in
    let after = g.S.Store.held c.finish.new.store in
    whole-by (map string_bytes c.args.words.now) (plain_command c.in-Some.command) w (g.S.Store.faults c.args.store.now) mid now (g.S.Store.held c.args.store.now) after
    c.in-Some.ensures.command c.in_ok-work.ensures.suits (gives_work (plain_command c.in-Some.command) (g.S.Store.held c.args.store.now) c.in_ok-work.work c.in_ok-work.ensures.outcome)
    c.work_of.ensures.later (subst (λ (h : Option Held). FinishWhole w mid now h after) c.in_ok-work.ensures.held c.finish.ensures.whole)

pub returns-in_err-work-clause-intact : goal.returns-in_err-work-clause-intact
returns-in_err-work-clause-intact g c = λ _.
    leaves-untouched (command_of (map string_bytes c.args.words.now)) (g.S.Store.faults c.args.store.now) (g.S.Store.faults c.work_of.new.store) (g.S.Store.held c.args.store.now)
    (g.S.Store.held c.work_of.new.store) c.work_of.ensures.held

pub returns-clause-intact : goal.returns-clause-intact
returns-clause-intact g c = λ e.
    leaves-by (map string_bytes c.args.words.now) (plain_command c.in-Some.command) (plain_work c.in_ok-work.work) (g.S.Store.faults c.args.store.now)
    (g.S.Store.faults c.work_of.new.store) (g.S.Store.faults c.finish.new.store) (g.O.Sink.faults c.args.out.now) (g.O.Sink.faults c.finish.new.out)
    (g.S.Store.held c.args.store.now) (g.S.Store.held c.finish.new.store) c.in-Some.ensures.command c.in_ok-work.ensures.suits c.work_of.ensures.later (c.finish.ensures.failed e)

pub returns-clause-silent : goal.returns-clause-silent
returns-clause-silent g c =
    silent-by (map string_bytes c.args.words.now) (plain_command c.in-Some.command) (plain_work c.in_ok-work.work) (g.O.Sink.written c.args.out.now)
    (g.O.Sink.written c.finish.new.out) c.in-Some.ensures.command c.in_ok-work.ensures.suits c.finish.ensures.front
