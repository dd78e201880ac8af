use Rattle.std.proofs.Common.{◌++◌, map, Some, ◌∙◌}
use Rattle.kid_codec.proofs.Each.{read-step, read-end}
use Rattle.kid_codec.proofs.Taken.{ended}
use Rattle.kid_form.proofs.ListLemmas.{reads, seen}
use Rattle.kid_form.proofs.lists.read_each.Goals as goal

pub loop-tree-preserved : goal.loop-tree-preserved
loop-tree-preserved g c =
    let view = g.F.TreeForm.view in
    read-step (reads g.F.TreeForm.form) (λ others. Some (map view c.loop-tree.items.items ++ others)) (λ others. Some (map view c.push.new.self.items ++ others)) c.args.trees.now c.loop-tree.tree-index c.tree-item.result (view c.in_ok-read.field-0) _
    c.loop-tree-test.true c.tree-item.is c.in_ok-read.ensures (λ others. seen view c.loop-tree.items.items c.push.new.self.items c.in_ok-read.field-0 others c.in_ok-push.ensures.items) c.loop-tree.invariant

pub returns : goal.returns
returns g c = read-end (reads g.F.TreeForm.form) (λ others. Some (map g.F.TreeForm.view c.loop-tree.items.items ++ others)) c.args.trees.now c.loop-tree.tree-index _ c.loop-tree-test.false c.loop-tree.invariant ∙ ended (map g.F.TreeForm.view c.loop-tree.items.items)
