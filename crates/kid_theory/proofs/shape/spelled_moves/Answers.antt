use Rattle.std.proofs.Common.{◌++◌, Some, ◌∙◌}
use Rattle.kid_codec.proofs.Each.{read-step, read-end}
use Rattle.kid_codec.proofs.Taken.{pushed, ended}
use Rattle.kid_moves.specs.MoveView.{plain_move}
use Rattle.kid_theory.proofs.TermRows.{moves_each}
use Rattle.kid_theory.proofs.shape.spelled_moves.Goals as goal

pub loop-tree-preserved : goal.loop-tree-preserved
loop-tree-preserved c =
    let x = plain_move c.in_ok-read_move.field-0 in
    read-step moves_each (λ ms. Some (c.loop-tree.moves ++ ms)) (λ ms. Some (c.push.new.self ++ ms)) c.args.trees.now c.loop-tree.tree-index c.tree-item.result x _
    c.loop-tree-test.true c.tree-item.is c.in_ok-read_move.ensures (λ ms. pushed c.loop-tree.moves c.push.new.self x ms c.in_ok-push.ensures.ok) c.loop-tree.invariant

pub returns : goal.returns
returns c = read-end moves_each (λ ms. Some (c.loop-tree.moves ++ ms)) c.args.trees.now c.loop-tree.tree-index _ c.loop-tree-test.false c.loop-tree.invariant ∙ ended c.loop-tree.moves
