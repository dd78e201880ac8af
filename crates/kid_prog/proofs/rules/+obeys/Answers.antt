use Rattle.std.proofs.Common.{sym, ◌∙◌}
use Rattle.kid_prog.specs.SettingView.{plain_setting}
use Rattle.kid_prog.proofs.Obeying.{obey-next, obey-refused, obey-end, depth-next}
use Rattle.kid_prog.proofs.rules.+obeys.Goals as goal

pub obeys-returns : goal.obeys-returns
obeys-returns t c = obey-end (plain_setting c.args.setting.now) c.loop-statement.scope c.args.statements.now c.loop-statement.statement-index _ c.loop-statement-test.false c.loop-statement.invariant.told

pub obeys-loop-statement-preserved : goal.obeys-loop-statement-preserved
obeys-loop-statement-preserved t c = record {
  told = obey-next (plain_setting c.args.setting.now) c.loop-statement.scope c.in-Some.more c.args.statements.now c.loop-statement.statement-index c.statement-item.result _ c.loop-statement-test.true c.statement-item.is
      (sym c.in-Some.is ∙ c.in_ok-more.ensures) c.loop-statement.invariant.told;
  depth = depth-next c.args.statements.now c.loop-statement.statement-index c.statement-item.result _ c.loop-statement-test.true c.statement-item.is c.loop-statement.invariant.depth;
}

pub obeys-returns-in-None : goal.obeys-returns-in-None
obeys-returns-in-None t c = obey-refused (plain_setting c.args.setting.now) c.loop-statement.scope c.args.statements.now c.loop-statement.statement-index c.statement-item.result _ c.loop-statement-test.true c.statement-item.is
    (sym c.in-None.is ∙ c.in_ok-more.ensures) c.loop-statement.invariant.told
