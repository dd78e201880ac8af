use Rattle.std.proofs.Common.{map}
use Rattle.kid_term.specs.TermView.{plain_term}
use Rattle.kid_kernel.specs.Placed.{top_scope}
use Rattle.kid_kernel.specs.TheoryView.{plain_theory}
use Rattle.kid_kernel.proofs.StepLemmas.{after_line}
use Rattle.kid_kernel.proofs.moving.after_lines.Goals as goal

pub loop-line-preserved : goal.loop-line-preserved
loop-line-preserved c =
    after_line (plain_theory c.args.theory.now) (top_scope c.args.names.now (map plain_term c.args.facts.now)) c.args.lines.now c.loop-line.line-index c.line-item.result _ (plain_term c.loop-line.whole)
    (plain_term c.in-Ok.new) c.loop-line-test.true c.line-item.is c.loop-line.invariant.1 c.in-Ok.ensures.exact
