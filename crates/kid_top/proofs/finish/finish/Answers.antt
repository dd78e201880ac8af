use Rattle.std.proofs.Common.{refl, ap, ◌∙◌}
use Rattle.kid_top.specs.Finishing.{report_status}
use Rattle.kid_top.specs.Outcome.{work_text}
use Rattle.kid_top.specs.WorkView.{plain_work}
use Rattle.kid_run.proofs.Fronts.{front_none}
use Rattle.kid_top.proofs.Finished.{run-finishes}
use Rattle.kid_top.proofs.finish.finish.Goals as goal

pub returns-in_err-save_both-in-Save-clause-front : goal.returns-in_err-save_both-in-Save-clause-front
returns-in_err-save_both-in-Save-clause-front g c = front_none (work_text (plain_work c.args.work.now)) (g.O.Sink.written c.args.out.now) (g.O.Sink.written c.args.out.now) refl

pub returns-in-Ok-clause-done : goal.returns-in-Ok-clause-done
returns-in-Ok-clause-done g c =
    run-finishes c.args.work.now c.in-Run.program c.in-Run.inputs c.in-Run.fuel c.in-Ok.report.entries.items c.report_status.result (g.O.Sink.written c.args.out.now)
    (g.O.Sink.written c.run.new.out) (g.S.Store.held c.args.store.now) c.in-Run.is c.in-Ok.ensures.report (c.report_status.ensures ∙ ap report_status c.deref.ensures.value)
    c.in-Ok.ensures.text
