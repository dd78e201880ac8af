use Rattle.std.proofs.Common.{◌≡◌, drop}
use Rattle.kid_sexp.specs.Plain.{join}
use Rattle.kid_lines.specs.LineSpelling.{index_spellings}
use Rattle.kid_lines.proofs.index.path_tree.Given as goal

abbrev pub invariant-loop-step : goal.invariant-loop-step
invariant-loop-step l = join l.trees (index_spellings (drop l.step-index l.path)) ≡ index_spellings l.path
