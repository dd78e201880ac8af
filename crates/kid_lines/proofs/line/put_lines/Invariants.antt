use Rattle.std.proofs.Common.{◌≡◌, drop, map}
use Rattle.kid_sexp.specs.Plain.{join}
use Rattle.kid_moves.specs.RuleView.{plain_line}
use Rattle.kid_lines.specs.LineSpelling.{line_spellings}
use Rattle.kid_lines.proofs.line.put_lines.Given as goal

abbrev pub invariant-loop-line : goal.invariant-loop-line
invariant-loop-line l = join l.trees (line_spellings (map plain_line (drop l.line-index l.lines))) ≡ join l.initial.trees (line_spellings (map plain_line l.lines))
