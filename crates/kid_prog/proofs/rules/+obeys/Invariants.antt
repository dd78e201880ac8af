use Rattle.std.proofs.Common.{◌≡◌, ◌+◌, ◌*◌, ◌≤◌, map, drop}
use Rattle.kid_prog.specs.PlainStmt.{stmt_depth, stmts_depth, stmt_row}
use Rattle.kid_prog.specs.StmtView.{plain_stmt}
use Rattle.kid_prog.specs.SettingView.{plain_setting}
use Rattle.kid_prog.specs.Rules.{obey}
use Rattle.kid_prog.proofs.rules.+obeys.Given as goal

abbrev pub decreases-if_obeys : goal.decreases-if_obeys
decreases-if_obeys l = 3 * stmts_depth (stmt_row (map plain_stmt l.body.now)) + 2

abbrev pub decreases-for_obeys : goal.decreases-for_obeys
decreases-for_obeys l = 3 * stmts_depth (stmt_row (map plain_stmt l.body.now)) + 2

abbrev pub decreases-step : goal.decreases-step
decreases-step l = 3 * stmt_depth (plain_stmt l.statement.now)

abbrev pub decreases-obeys : goal.decreases-obeys
decreases-obeys l = 3 * stmts_depth (stmt_row (map plain_stmt l.statements.now)) + 1

abbrev pub invariant-obeys-loop-statement : goal.invariant-obeys-loop-statement
invariant-obeys-loop-statement l = record {
  told : obey (plain_setting l.setting) l.scope (stmt_row (map plain_stmt (drop l.statement-index l.statements))) ≡ obey (plain_setting l.setting) l.fn.names (stmt_row (map plain_stmt l.statements));
  depth : stmts_depth (stmt_row (map plain_stmt (drop l.statement-index l.statements))) ≤ stmts_depth (stmt_row (map plain_stmt l.statements));
}
