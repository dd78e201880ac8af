use Rattle.kid_sexp.specs.Tree.{plain}
use Rattle.kid_codec.proofs.Each.{print-step, print-end}
use Rattle.kid_lines.proofs.ListLemmas.{lines_print}
use Rattle.kid_lines.proofs.line.put_lines.Goals as goal

pub loop-line-preserved : goal.loop-line-preserved
loop-line-preserved c =
    print-step lines_print c.loop-line.trees c.push.new.self _ c.args.lines.now c.loop-line.line-index c.line-item.result (plain c.in_ok-tree_of_line.field-0)
    c.loop-line-test.true c.line-item.is c.in_ok-tree_of_line.ensures c.in_ok-push.ensures.ok c.loop-line.invariant

pub returns : goal.returns
returns c = print-end lines_print c.loop-line.trees _ c.args.lines.now c.loop-line.line-index c.loop-line-test.false c.loop-line.invariant
