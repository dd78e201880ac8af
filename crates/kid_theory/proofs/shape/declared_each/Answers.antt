use Rattle.kid_value.specs.NameView.{plain_name}
use Rattle.kid_theory.proofs.NameRows.{names-step}
use Rattle.kid_theory.proofs.shape.declared_each.Goals as goal

pub loop-tree-preserved : goal.loop-tree-preserved
loop-tree-preserved c = names-step c.loop-tree.names c.push.new.self c.args.trees.now c.loop-tree.tree-index c.tree-item.result (plain_name (c.in_ok-word.word, c.in_ok-word.sort)) _
    c.loop-tree-test.true c.tree-item.is c.in_ok-word.ensures c.in_ok-push.ensures.ok c.loop-tree.invariant
