-- A statement of the program as a plain tree.
use Rattle.kid_term.specs.TermView.{plain_term}
use Rattle.kid_prog.specs.PlainStmt.{PlainStmt, assign, when, each, emit, call, stmt_row}
use Rattle.kid_prog.specs.declared.statement.Stmt.{Stmt}
use Rattle.kid_prog.specs.declared.statement.Stmt.TheVariants.{Let, If, For, Emit, Call}

abbrev pub plain_stmt : Stmt → PlainStmt
plain_stmt (Let x t) = assign x (plain_term t)
plain_stmt (If t ss) = when (plain_term t) (stmt_row ss)
plain_stmt (For x t ss) = each x (plain_term t) (stmt_row ss)
plain_stmt (Emit t) = emit (plain_term t)
plain_stmt (Call ts) = call ts
