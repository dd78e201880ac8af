use Rattle.std.proofs.Common.{arith, ap, sym, ◌∙◌}
use Rattle.kid_run.specs.Frames.{kept}
use Rattle.kid_run.proofs.Steps.{kept-few, kept-drop}
use Rattle.kid_run.proofs.frame.cut.Goals as goal

pub returns : goal.returns
returns c = sym (kept-few c.args.names c.loop-env.env (omega (arith, c.loop-env-test.false, c.len.ensures))) ∙ c.loop-env.invariant

pub loop-env-preserved : goal.loop-env-preserved
loop-env-preserved c =
    ap (kept c.args.names) c.pop.ensures ∙ kept-drop c.args.names c.loop-env.env (omega (arith, c.loop-env-test.true, c.len.ensures)) ∙ c.loop-env.invariant
