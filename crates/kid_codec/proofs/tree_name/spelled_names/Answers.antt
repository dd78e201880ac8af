use Rattle.std.proofs.Common.{◌++◌, Some, ◌∙◌}
use Rattle.kid_codec.proofs.Each.{read-step, read-end}
use Rattle.kid_codec.proofs.Taken.{names_each, pushed, ended}
use Rattle.kid_codec.proofs.tree_name.spelled_names.Goals as goal

pub loop-tree-preserved : goal.loop-tree-preserved
loop-tree-preserved c =
    read-step names_each (λ ns. Some (c.loop-tree.names ++ ns)) (λ ns. Some (c.push.new.self ++ ns)) c.args.trees.now c.loop-tree.tree-index c.tree-item.result c.in_ok-spelled_name.field-0 _
    c.loop-tree-test.true c.tree-item.is c.in_ok-spelled_name.ensures (λ ns. pushed c.loop-tree.names c.push.new.self c.in_ok-spelled_name.field-0 ns c.in_ok-push.ensures.ok) c.loop-tree.invariant

pub returns : goal.returns
returns c = read-end names_each (λ ns. Some (c.loop-tree.names ++ ns)) c.args.trees.now c.loop-tree.tree-index _ c.loop-tree-test.false c.loop-tree.invariant ∙ ended c.loop-tree.names
