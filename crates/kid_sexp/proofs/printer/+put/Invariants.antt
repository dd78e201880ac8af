use Rattle.std.proofs.Common.{◌≡◌, ◌≤◌, ◌++◌, drop}
use Rattle.kid_sexp.specs.TreeSize.{tree_size, forest_size}
use Rattle.kid_sexp.specs.Printing.{further}
use Rattle.kid_sexp.specs.Tree.{plain, plains}
use Rattle.kid_sexp.proofs.printer.+put.Given as goal

abbrev pub decreases-put_tree : goal.decreases-put_tree
decreases-put_tree l = tree_size (plain l.tree.now)

abbrev pub decreases-put_members : goal.decreases-put_members
decreases-put_members l = forest_size (plains l.trees.now)

abbrev pub decreases-put_further : goal.decreases-put_further
decreases-put_further l = forest_size (plains l.trees.now)

abbrev pub invariant-put_further-loop-tree : goal.invariant-put_further-loop-tree
invariant-put_further-loop-tree l = record {
  told : l.out.items ++ further (plains (drop l.tree-index l.trees)) ≡ l.initial.out.items ++ further (plains l.trees);
  size : forest_size (plains (drop l.tree-index l.trees)) ≤ forest_size (plains l.trees);
}
