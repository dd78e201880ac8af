use Rattle.std.proofs.Common.{◌≡◌, drop}
use Rattle.kid_sexp.specs.Tree.{plains}
use Rattle.kid_theory.specs.Shapes.{declared_each}
use Rattle.kid_theory.proofs.NameRows.{names_after}
use Rattle.kid_theory.proofs.shape.declared_each.Given as goal

abbrev pub invariant-loop-tree : goal.invariant-loop-tree
invariant-loop-tree l = names_after l.names (declared_each (plains (drop l.tree-index l.trees))) ≡ declared_each (plains l.trees)
