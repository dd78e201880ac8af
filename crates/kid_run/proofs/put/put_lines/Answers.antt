use Rattle.std.proofs.Common.{List, ℕ, subst}
use Rattle.kid_outer.specs.Written.{AppendsPrefix}
use Rattle.kid_run.proofs.Fronts.{front_at}
use Rattle.kid_run.proofs.put.put_lines.Goals as goal

pub returns-in_err-put_line-clause-front : goal.returns-in_err-put_line-clause-front
returns-in_err-put_line-clause-front g c =
    front_at c.args.lines.now c.loop-line.line-index c.line-item.result _ _ _ c.loop-line-test.true c.line-item.is c.loop-line.invariant.put
    (subst (λ (line : List ℕ). AppendsPrefix line (g.O.Sink.written c.loop-line.out) (g.O.Sink.written c.put_line.new.out)) c.as_slice.ensures c.put_line.ensures.front)
