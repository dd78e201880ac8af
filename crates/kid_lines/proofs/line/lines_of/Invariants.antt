use Rattle.std.proofs.Common.{◌≡◌, ◌++◌, drop, Some}
use Rattle.kid_sexp.specs.Tree.{plains}
use Rattle.kid_codec.specs.Reading.{◌>>=◌}
use Rattle.kid_lines.specs.LineReading.{spelled_lines}
use Rattle.kid_lines.proofs.line.lines_of.Given as goal

abbrev pub invariant-loop-tree : goal.invariant-loop-tree
invariant-loop-tree l = (spelled_lines (plains (drop l.tree-index l.trees)) >>= λ ls. Some (l.lines ++ ls)) ≡ spelled_lines (plains l.trees)
