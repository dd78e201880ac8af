use Rattle.std.proofs.Common.{rules, ◌≡◌, None}
use Rattle.kid_sexp.specs.Tree.{plain}
use Rattle.kid_moves.specs.MoveView.{plain_move}
use Rattle.kid_lines.proofs.MovesRead.{move_told, move_missed}
use Rattle.kid_lines.specs.LineReading.{spelled_move}
use Rattle.kid_lines.proofs.step.move_of.Goals as goal

pub returns-in-Ok-clause-spelling : goal.returns-in-Ok-clause-spelling
returns-in-Ok-clause-spelling c = move_told (plain c.args.tree.now) (plain_move c.in-Ok.step) c.in-Ok.ensures

pub returns-in-Err : goal.returns-in-Err
returns-in-Err c =
    let r : spelled_move (plain c.args.tree.now) ≡ None = search rules in
    record { reading = r; spelling = move_missed (plain c.args.tree.now) r }
