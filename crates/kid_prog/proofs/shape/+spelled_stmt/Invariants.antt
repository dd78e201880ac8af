use Rattle.std.proofs.Common.{◌≡◌, ◌+◌, ◌*◌, ◌≤◌, drop}
use Rattle.kid_sexp.specs.TreeSize.{tree_size, forest_size}
use Rattle.kid_sexp.specs.Tree.{plain, plains}
use Rattle.kid_prog.specs.StmtShape.{spelled_stmts}
use Rattle.kid_prog.proofs.Rows.{stmts_after}
use Rattle.kid_prog.proofs.shape.+spelled_stmt.Given as goal

abbrev pub decreases-spelled_stmt : goal.decreases-spelled_stmt
decreases-spelled_stmt l = 2 * tree_size (plain l.tree.now)

abbrev pub decreases-stmt_of_list : goal.decreases-stmt_of_list
decreases-stmt_of_list l = 2 * forest_size (plains l.trees.now)

abbrev pub decreases-stmt_of_word : goal.decreases-stmt_of_word
decreases-stmt_of_word l = 2 * forest_size (plains l.parts.now) + 1

abbrev pub decreases-if_from : goal.decreases-if_from
decreases-if_from l = 2 * forest_size (plains l.trees.now)

abbrev pub decreases-for_from : goal.decreases-for_from
decreases-for_from l = 2 * forest_size (plains l.trees.now)

abbrev pub decreases-spelled_stmts : goal.decreases-spelled_stmts
decreases-spelled_stmts l = 2 * forest_size (plains l.trees.now)

abbrev pub invariant-spelled_stmts-loop-tree : goal.invariant-spelled_stmts-loop-tree
invariant-spelled_stmts-loop-tree l = record {
  told : stmts_after l.statements (spelled_stmts (plains (drop l.tree-index l.trees))) ≡ spelled_stmts (plains l.trees);
  size : forest_size (plains (drop l.tree-index l.trees)) ≤ forest_size (plains l.trees);
}
