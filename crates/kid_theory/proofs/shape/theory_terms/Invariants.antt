use Rattle.std.proofs.Common.{◌≡◌, ◌++◌, drop, Some}
use Rattle.kid_sexp.specs.Tree.{plains}
use Rattle.kid_codec.specs.Reading.{◌>>=◌}
use Rattle.kid_theory.specs.Shapes.{theory_terms}
use Rattle.kid_theory.proofs.shape.theory_terms.Given as goal

abbrev pub invariant-loop-tree : goal.invariant-loop-tree
invariant-loop-tree l = (theory_terms (plains (drop l.tree-index l.trees)) >>= λ ts. Some (l.terms ++ ts)) ≡ theory_terms (plains l.trees)
