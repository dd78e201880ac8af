use Rattle.std.proofs.Common.{List, ap, ◌∙◌}
use Rattle.kid_prog.specs.PlainStmt.{PlainStmt, stmt_row}
use Rattle.kid_prog.specs.ProgramView.{plain_program}
use Rattle.kid_prog.specs.Spelling.{are_spelled_stmts}
use Rattle.kid_prog.proofs.ProgramParts.{spelled_parts}
use Rattle.kid_prog.proofs.printer.search_tree.Goals as goal

pub with_statements-requires : goal.with_statements-requires
with_statements-requires c =
    ap (λ (l : List PlainStmt). are_spelled_stmts (stmt_row l)) c.items-2.ensures ∙ (spelled_parts (plain_program c.args.program.now) c.requires).search
