use Rattle.std.proofs.Common.{rules, ◌≡◌, None}
use Rattle.kid_sexp.specs.Tree.{plain}
use Rattle.kid_moves.specs.RuleView.{plain_line}
use Rattle.kid_lines.proofs.LinesRead.{line_told, line_missed}
use Rattle.kid_lines.specs.LineReading.{spelled_line}
use Rattle.kid_lines.proofs.line.line_of.Goals as goal

pub returns-in-Ok-clause-spelling : goal.returns-in-Ok-clause-spelling
returns-in-Ok-clause-spelling c = line_told (plain c.args.tree.now) (plain_line c.in-Ok.line) c.in-Ok.ensures

pub returns-in-Err : goal.returns-in-Err
returns-in-Err c =
    let r : spelled_line (plain c.args.tree.now) ≡ None = search rules in
    record { reading = r; spelling = line_missed (plain c.args.tree.now) r }
