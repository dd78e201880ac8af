use Rattle.std.proofs.Common.{◌≡◌, ◌++◌, drop}
use Rattle.kid_sexp.specs.Printing.{text}
use Rattle.kid_sexp.specs.Tree.{plains}
use Rattle.kid_sexp.proofs.printer.print.Given as goal

abbrev pub invariant-loop-tree : goal.invariant-loop-tree
invariant-loop-tree l = l.out.items ++ text (plains (drop l.tree-index l.tree-items)) ≡ text l.forest
