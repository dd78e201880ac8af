use Rattle.std.proofs.Common.{◌≡◌, drop}
use Rattle.kid_sexp.specs.Tree.{plains}
use Rattle.kid_prog.specs.Forms.{spelled_names}
use Rattle.kid_prog.proofs.Rows.{names_after}
use Rattle.kid_prog.proofs.shape.spelled_names.Given as goal

abbrev pub invariant-loop-tree : goal.invariant-loop-tree
invariant-loop-tree l = names_after l.names (spelled_names (plains (drop l.tree-index l.trees))) ≡ spelled_names (plains l.trees)
