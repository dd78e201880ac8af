use Rattle.std.proofs.Common.{◌++◌, Some, ◌∙◌}
use Rattle.kid_codec.proofs.Each.{read-step, read-end}
use Rattle.kid_codec.proofs.Taken.{pushed, ended}
use Rattle.kid_moves.specs.RuleView.{plain_line}
use Rattle.kid_lines.proofs.ListLemmas.{lines_each}
use Rattle.kid_lines.proofs.line.lines_of.Goals as goal

pub loop-tree-preserved : goal.loop-tree-preserved
loop-tree-preserved c =
    let x = plain_line c.in_ok-read_line.field-0 in
    read-step lines_each (λ ls. Some (c.loop-tree.lines ++ ls)) (λ ls. Some (c.push.new.self ++ ls)) c.args.trees.now c.loop-tree.tree-index c.tree-item.result x _
    c.loop-tree-test.true c.tree-item.is c.in_ok-read_line.ensures (λ ls. pushed c.loop-tree.lines c.push.new.self x ls c.in_ok-push.ensures.ok) c.loop-tree.invariant

pub returns : goal.returns
returns c = read-end lines_each (λ ls. Some (c.loop-tree.lines ++ ls)) c.args.trees.now c.loop-tree.tree-index _ c.loop-tree-test.false c.loop-tree.invariant ∙ ended c.loop-tree.lines
