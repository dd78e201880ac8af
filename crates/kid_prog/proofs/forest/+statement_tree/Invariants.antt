use Rattle.std.proofs.Common.{◌≡◌, ◌+◌, ◌*◌, ◌≤◌, true, drop, map}
use Rattle.kid_sexp.specs.Plain.{join}
use Rattle.kid_prog.specs.PlainStmt.{stmt_depth, stmts_depth, stmt_row}
use Rattle.kid_prog.specs.StmtView.{plain_stmt}
use Rattle.kid_prog.specs.Spelling.{stmt_spellings, are_spelled_stmts}
use Rattle.kid_prog.proofs.forest.+statement_tree.Given as goal

abbrev pub decreases-statement_tree : goal.decreases-statement_tree
decreases-statement_tree l = 2 * stmt_depth (plain_stmt l.statement.now)

abbrev pub decreases-with_statements : goal.decreases-with_statements
decreases-with_statements l = 2 * stmts_depth (stmt_row (map plain_stmt l.statements.now)) + 1

abbrev pub invariant-with_statements-loop-statement : goal.invariant-with_statements-loop-statement
invariant-with_statements-loop-statement l = record {
  told : join l.trees (stmt_spellings (stmt_row (map plain_stmt (drop l.statement-index l.statements)))) ≡ join l.initial.trees (stmt_spellings (stmt_row (map plain_stmt l.statements)));
  spelled : are_spelled_stmts (stmt_row (map plain_stmt (drop l.statement-index l.statements))) ≡ true;
  deep : stmts_depth (stmt_row (map plain_stmt (drop l.statement-index l.statements))) ≤ stmts_depth (stmt_row (map plain_stmt l.statements));
}
