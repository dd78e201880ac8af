use Rattle.std.proofs.Common.{◌≡◌, ◌++◌, drop, Some}
use Rattle.kid_sexp.specs.Tree.{plains}
use Rattle.kid_codec.specs.Reading.{◌>>=◌}
use Rattle.kid_lines.specs.LineReading.{spelled_indexes}
use Rattle.kid_lines.proofs.index.indexes_of.Given as goal

abbrev pub invariant-loop-tree : goal.invariant-loop-tree
invariant-loop-tree l = (spelled_indexes (plains (drop l.tree-index l.trees)) >>= λ ns. Some (l.path ++ ns)) ≡ spelled_indexes (plains l.trees)
