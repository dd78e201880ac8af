use Rattle.std.proofs.Common.{◌≡◌, ◌+◌, ◌*◌, ◌≤◌, map, drop}
use Rattle.kid_prog.specs.PlainStmt.{stmt_depth, stmts_depth, stmt_row}
use Rattle.kid_prog.specs.StmtView.{plain_stmt}
use Rattle.kid_prog.specs.Tags.{stmts_have_tags}
use Rattle.kid_prog.proofs.tags.+tags.Given as goal

abbrev pub decreases-statement_has_tags : goal.decreases-statement_has_tags
decreases-statement_has_tags l = 2 * stmt_depth (plain_stmt l.statement.now)

abbrev pub decreases-statements_have_tags : goal.decreases-statements_have_tags
decreases-statements_have_tags l = 2 * stmts_depth (stmt_row (map plain_stmt l.statements.now)) + 1

abbrev pub invariant-statements_have_tags-loop-statement : goal.invariant-statements_have_tags-loop-statement
invariant-statements_have_tags-loop-statement l = record {
  told : stmts_have_tags (stmt_row (map plain_stmt (drop l.statement-index l.statements))) ≡ stmts_have_tags (stmt_row (map plain_stmt l.statements));
  deep : stmts_depth (stmt_row (map plain_stmt (drop l.statement-index l.statements))) ≤ stmts_depth (stmt_row (map plain_stmt l.statements));
}
