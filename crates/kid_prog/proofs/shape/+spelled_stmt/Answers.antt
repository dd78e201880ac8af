use Rattle.std.proofs.Common.{◌≡◌, List, Option, arith, subst, sym}
use Rattle.kid_sexp.specs.Tree.{plains}
use Rattle.kid_prog.specs.PlainStmt.{PlainStmt}
use Rattle.kid_prog.specs.StmtShape.{spelled_stmts}
use Rattle.kid_prog.specs.StmtView.{plain_stmt}
use Rattle.kid_codec.specs.Reading.{Finds}
use Rattle.kid_codec.proofs.Each.{size-step}
use Rattle.kid_prog.proofs.Rows.{listed, stmts_after, stmts-step, stmts-end, stmts-begin}
use Rattle.kid_prog.proofs.shape.+spelled_stmt.Goals as goal

pub spelled_stmts-loop-tree-preserved : goal.spelled_stmts-loop-tree-preserved
spelled_stmts-loop-tree-preserved t c = record {
  told = stmts-step c.loop-tree.statements c.push.new.self c.args.trees.now c.loop-tree.tree-index c.tree-item.result (plain_stmt c.in_ok-spelled_stmt.field-0) _
      c.loop-tree-test.true c.tree-item.is c.in_ok-spelled_stmt.ensures c.in_ok-push.ensures.ok c.loop-tree.invariant.told;
  size = size-step c.args.trees.now c.loop-tree.tree-index c.tree-item.result _ c.loop-tree-test.true c.tree-item.is c.loop-tree.invariant.size;
}

pub spelled_stmts-returns : goal.spelled_stmts-returns
spelled_stmts-returns t c = stmts-end c.loop-tree.statements c.args.trees.now c.loop-tree.tree-index _ c.loop-tree-test.false c.loop-tree.invariant.told

pub spelled_stmts-loop-tree-init : goal.spelled_stmts-loop-tree-init
spelled_stmts-loop-tree-init t c = record {
  told = subst (λ (ss : List PlainStmt). stmts_after ss (spelled_stmts (plains c.args.trees.now)) ≡ spelled_stmts (plains c.args.trees.now)) (sym c.new-statements.ensures) (stmts-begin (spelled_stmts (plains c.args.trees.now)));
  size = omega arith;
}

pub stmt_of_list-returns-in-Some-Atom-default : goal.stmt_of_list-returns-in-Some-Atom-default
stmt_of_list-returns-in-Some-Atom-default t c =
    let e = listed c.args.trees.now c.in-Some-Atom-default.field-0-0.now c.in-Some-Atom-default.parts.now c.in-Some-Atom-default.word c.in-Some-Atom-default.ensures.cases.0 c.in-Some-Atom-default.field-0-0-is in
    subst (λ (o : Option PlainStmt). Finds plain_stmt c.stmt_of_word.result o) (sym e) c.stmt_of_word.ensures
