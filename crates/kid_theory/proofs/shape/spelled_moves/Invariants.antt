use Rattle.std.proofs.Common.{◌≡◌, ◌++◌, drop, Some}
use Rattle.kid_sexp.specs.Tree.{plains}
use Rattle.kid_codec.specs.Reading.{◌>>=◌}
use Rattle.kid_theory.specs.Shapes.{spelled_moves}
use Rattle.kid_theory.proofs.shape.spelled_moves.Given as goal

abbrev pub invariant-loop-tree : goal.invariant-loop-tree
invariant-loop-tree l = (spelled_moves (plains (drop l.tree-index l.trees)) >>= λ ms. Some (l.moves ++ ms)) ≡ spelled_moves (plains l.trees)
