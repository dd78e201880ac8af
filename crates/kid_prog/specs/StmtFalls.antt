-- A statement is deeper than the statements in it.
use Rattle.std.specs.Prelude.{◌≤◌, List, [], ◌∷◌, map}
use Rattle.std.proofs.Common.{arith}
use denote.Param.Weighed.{most}
use Rattle.kid_prog.specs.PlainStmt.{stmt_depth, stmts_depth, stmt_row}
use Rattle.kid_prog.specs.StmtView.{plain_stmt}
use Rattle.kid_prog.specs.declared.statement.Stmt.{Stmt}
use Rattle.kid_prog.specs.declared.statement.Stmt.TheVariants.{Let, If, For, Emit, Call}
use Rattle.kid_prog.specs.declared.statement.Stmts.TheDeep.{deep-Stmt}

pub deep-le-depth : (s : Stmt) → deep-Stmt s ≤ stmt_depth (plain_stmt s)
deep-le-depth (Let x t) = omega arith
deep-le-depth (If t ss) = omega arith
deep-le-depth (For x t ss) = omega arith
deep-le-depth (Emit t) = omega arith
deep-le-depth (Call ts) = omega arith

pub most_le-depths : (ss : List Stmt) → most deep-Stmt ss ≤ stmts_depth (stmt_row (map plain_stmt ss))
most_le-depths [] = omega arith
most_le-depths (s ∷ ss) = omega (arith, most_le-depths ss, deep-le-depth s)
