use Rattle.std.proofs.Common.{◌≡◌, ◌+◌, List, ap, arith}
use Rattle.kid_prog.specs.PlainStmt.{PlainStmt, stmt_depth, stmts_depth, stmt_row}
use Rattle.kid_prog.specs.StmtView.{plain_stmt}
use Rattle.kid_prog.specs.declared.statement.Stmt.{Stmt}
use Rattle.kid_prog.proofs.TagLemmas.{tags-next}
use Rattle.kid_prog.proofs.Trees.{stmts_deep, stmt_item}
use Rattle.kid_prog.proofs.tags.+tags.Goals as goal

pub statement_has_tags-statements_have_tags-requires : goal.statement_has_tags-statements_have_tags-requires
statement_has_tags-statements_have_tags-requires t c =
    let d : stmt_depth (plain_stmt c.args.statement.now) ≡ stmts_depth (stmt_row c.in-If.body) + 1 = ap (λ (s : Stmt). stmt_depth (plain_stmt s)) c.in-If.is in
    let e = ap (λ (l : List PlainStmt). stmts_depth (stmt_row l)) c.items.ensures in
    omega (arith, d, e, c.decreases)

pub statement_has_tags-statements_have_tags-requires-else-term_has_tags-2 : goal.statement_has_tags-statements_have_tags-requires-else-term_has_tags-2
statement_has_tags-statements_have_tags-requires-else-term_has_tags-2 t c =
    let d : stmt_depth (plain_stmt c.args.statement.now) ≡ stmts_depth (stmt_row c.in-For.body) + 1 = ap (λ (s : Stmt). stmt_depth (plain_stmt s)) c.in-For.is in
    let e = ap (λ (l : List PlainStmt). stmts_depth (stmt_row l)) c.items-else-term_has_tags-2.ensures in
    omega (arith, d, e, c.decreases)

pub statements_have_tags-statement_has_tags-requires : goal.statements_have_tags-statement_has_tags-requires
statements_have_tags-statement_has_tags-requires t c =
    let item = stmt_item c.args.statements.now c.loop-statement.statement-index c.statement-item.result _ c.loop-statement-test.true c.statement-item.is c.loop-statement.invariant.deep in
    omega (arith, item, c.decreases)

pub statements_have_tags-loop-statement-preserved : goal.statements_have_tags-loop-statement-preserved
statements_have_tags-loop-statement-preserved t c = record {
  told = tags-next c.args.statements.now c.loop-statement.statement-index c.statement-item.result c.statement_has_tags.result _ c.loop-statement-test.true c.statement-item.is
      c.statement_has_tags.ensures c.if-statement_has_tags.false c.loop-statement.invariant.told;
  deep = stmts_deep c.args.statements.now c.loop-statement.statement-index c.statement-item.result _ c.loop-statement-test.true c.statement-item.is c.loop-statement.invariant.deep;
}
