use Rattle.std.proofs.Common.{◌≡◌, drop}
use Rattle.kid_sexp.specs.Printing.{is_printable}
use Rattle.kid_sexp.specs.Tree.{plains}
use Rattle.kid_sexp.proofs.tree.+printable.Given as goal

abbrev pub invariant-Forest::is_printable-loop-tree : goal.invariant-Forest::is_printable-loop-tree
invariant-Forest::is_printable-loop-tree l = is_printable (plains (drop l.tree-index l.tree-items)) ≡ is_printable l.self
