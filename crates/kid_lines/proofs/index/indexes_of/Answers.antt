use Rattle.std.proofs.Common.{◌++◌, Some, ◌∙◌}
use Rattle.kid_codec.proofs.Each.{read-step, read-end}
use Rattle.kid_codec.proofs.Taken.{pushed, ended}
use Rattle.kid_lines.proofs.ListLemmas.{indexes_each}
use Rattle.kid_lines.proofs.index.indexes_of.Goals as goal

pub loop-tree-preserved : goal.loop-tree-preserved
loop-tree-preserved c =
    read-step indexes_each (λ ns. Some (c.loop-tree.path ++ ns)) (λ ns. Some (c.push.new.self ++ ns)) c.args.trees.now c.loop-tree.tree-index c.tree-item.result c.in_ok-index_of.field-0 _
    c.loop-tree-test.true c.tree-item.is c.in_ok-index_of.ensures (λ ns. pushed c.loop-tree.path c.push.new.self c.in_ok-index_of.field-0 ns c.in_ok-push.ensures.ok) c.loop-tree.invariant

pub returns : goal.returns
returns c = read-end indexes_each (λ ns. Some (c.loop-tree.path ++ ns)) c.args.trees.now c.loop-tree.tree-index _ c.loop-tree-test.false c.loop-tree.invariant ∙ ended c.loop-tree.path
