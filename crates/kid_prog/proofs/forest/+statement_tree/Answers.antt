use Rattle.std.proofs.Common.{◌≡◌, ◌+◌, List, arith, sym, ap, ◌∙◌}
use Rattle.std.specs.Prelude.{◌&&◌}
use Rattle.kid_sexp.specs.Tree.{plain as plain_tree}
use Rattle.kid_value.proofs.SortLemmas.{and_parts}
use Rattle.kid_term.specs.TermView.{plain_term}
use Rattle.kid_codec.specs.Name.{is_name}
use Rattle.kid_codec.specs.TermSpelling.{is_spelled_term}
use Rattle.kid_codec.proofs.Each.{print-step, print-end}
use Rattle.kid_prog.specs.PlainStmt.{PlainStmt, stmt_depth, stmts_depth, stmt_row}
use Rattle.kid_prog.specs.StmtView.{plain_stmt}
use Rattle.kid_prog.specs.Spelling.{is_spelled_stmt, are_spelled_stmts}
use Rattle.kid_prog.specs.declared.statement.Stmt.{Stmt}
use Rattle.kid_prog.proofs.Trees.{stmts_print, stmts_test, stmts_deep, stmt_item, test-step}
use Rattle.kid_prog.proofs.forest.+statement_tree.Goals as goal

pub statement_tree-term_tree-requires : goal.statement_tree-term_tree-requires
statement_tree-term_tree-requires t c =
    let h = ap (λ (s : Stmt). is_spelled_stmt (plain_stmt s)) (sym c.in-Let.is) ∙ c.requires in
    (and_parts (is_name c.in-Let.name) (is_spelled_term (plain_term c.in-Let.term)) h).1

pub statement_tree-with_statements-requires : goal.statement_tree-with_statements-requires
statement_tree-with_statements-requires t c =
    let h = ap (λ (s : Stmt). is_spelled_stmt (plain_stmt s)) (sym c.in-If.is) ∙ c.requires in
    let k = (and_parts (is_spelled_term (plain_term c.in-If.condition)) (are_spelled_stmts (stmt_row c.in-If.body)) h).1 in
    let d : stmt_depth (plain_stmt c.args.statement.now) ≡ stmts_depth (stmt_row c.in-If.body) + 1 = ap (λ (s : Stmt). stmt_depth (plain_stmt s)) c.in-If.is in
    let e = ap (λ (l : List PlainStmt). stmts_depth (stmt_row l)) c.items.ensures in
    (omega (arith, d, e, c.decreases), ap (λ (l : List PlainStmt). are_spelled_stmts (stmt_row l)) c.items.ensures ∙ k)

pub statement_tree-term_tree-requires-in-For : goal.statement_tree-term_tree-requires-in-For
statement_tree-term_tree-requires-in-For t c =
    let h = ap (λ (s : Stmt). is_spelled_stmt (plain_stmt s)) (sym c.in-For.is) ∙ c.requires in
    let k = and_parts (is_name c.in-For.name && is_spelled_term (plain_term c.in-For.set)) (are_spelled_stmts (stmt_row c.in-For.body)) h in
    (and_parts (is_name c.in-For.name) (is_spelled_term (plain_term c.in-For.set)) k.0).1

pub statement_tree-with_statements-requires-in-For : goal.statement_tree-with_statements-requires-in-For
statement_tree-with_statements-requires-in-For t c =
    let h = ap (λ (s : Stmt). is_spelled_stmt (plain_stmt s)) (sym c.in-For.is) ∙ c.requires in
    let k = (and_parts (is_name c.in-For.name && is_spelled_term (plain_term c.in-For.set)) (are_spelled_stmts (stmt_row c.in-For.body)) h).1 in
    let d : stmt_depth (plain_stmt c.args.statement.now) ≡ stmts_depth (stmt_row c.in-For.body) + 1 = ap (λ (s : Stmt). stmt_depth (plain_stmt s)) c.in-For.is in
    let e = ap (λ (l : List PlainStmt). stmts_depth (stmt_row l)) c.items-in-For.ensures in
    (omega (arith, d, e, c.decreases), ap (λ (l : List PlainStmt). are_spelled_stmts (stmt_row l)) c.items-in-For.ensures ∙ k)

pub with_statements-statement_tree-requires : goal.with_statements-statement_tree-requires
with_statements-statement_tree-requires t c =
    let item = stmt_item c.args.statements.now c.loop-statement.statement-index c.statement-item.result _ c.loop-statement-test.true c.statement-item.is c.loop-statement.invariant.deep in
    (omega (arith, item, c.decreases), (test-step stmts_test c.args.statements.now c.loop-statement.statement-index c.statement-item.result c.loop-statement-test.true c.statement-item.is c.loop-statement.invariant.spelled).0)

pub with_statements-loop-statement-preserved : goal.with_statements-loop-statement-preserved
with_statements-loop-statement-preserved t c = record {
  told = print-step stmts_print c.loop-statement.trees c.push.new.self _ c.args.statements.now c.loop-statement.statement-index c.statement-item.result (plain_tree c.in_ok-statement_tree.field-0)
      c.loop-statement-test.true c.statement-item.is c.in_ok-statement_tree.ensures c.in_ok-push.ensures.ok c.loop-statement.invariant.told;
  spelled = (test-step stmts_test c.args.statements.now c.loop-statement.statement-index c.statement-item.result c.loop-statement-test.true c.statement-item.is c.loop-statement.invariant.spelled).1;
  deep = stmts_deep c.args.statements.now c.loop-statement.statement-index c.statement-item.result _ c.loop-statement-test.true c.statement-item.is c.loop-statement.invariant.deep;
}

pub with_statements-returns : goal.with_statements-returns
with_statements-returns t c = print-end stmts_print c.loop-statement.trees _ c.args.statements.now c.loop-statement.statement-index c.loop-statement-test.false c.loop-statement.invariant.told
