use Rattle.std.proofs.Common.{◌≡◌, Some, ap, ◌∙◌}
use Rattle.std.proofs.lemmas.Result.{IfOk-weaker}
use Rattle.kid_sexp.specs.Tree.{plain}
use Rattle.kid_sexp.specs.declared.tree.Tree.{Tree}
use Rattle.kid_moves.specs.MoveView.{plain_move}
use Rattle.kid_lines.specs.LineReading.{spelled_move}
use Rattle.kid_lines.specs.LineSpelling.{move_spelling}
use Rattle.kid_lines.proofs.MovesRead.{move_back}
use Rattle.kid_lines.proofs.step.move_tree.Goals as goal

pub returns-clause-back : goal.returns-clause-back
returns-clause-back c =
    IfOk-weaker c.tree_of_move.result (λ (t : Tree). plain t ≡ move_spelling (plain_move c.args.step.now)) (λ (t : Tree). spelled_move (plain t) ≡ Some (plain_move c.args.step.now))
    (λ t p. ap spelled_move p ∙ move_back (plain_move c.args.step.now) c.requires) c.tree_of_move.ensures
