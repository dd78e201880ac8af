use Rattle.std.proofs.Common.{◌≡◌, true, map, drop}
use Rattle.kid_term.specs.Sorting.{sort_of}
use Rattle.kid_term.specs.TermView.{plain_term}
use Rattle.kid_moves.specs.RuleView.{plain_line}
use Rattle.kid_scope.specs.Holds.{has_a_sort}
use Rattle.kid_kernel.specs.Placed.{top_scope}
use Rattle.kid_kernel.specs.Rules.{lines_rewritten}
use Rattle.kid_kernel.specs.TheoryView.{plain_theory}
use Rattle.kid_kernel.proofs.moving.after_lines.Given as goal

-- the term has a sort, and what is left makes of it what all lines make of the first
abbrev pub invariant-loop-line : goal.invariant-loop-line
invariant-loop-line l =
    (has_a_sort (sort_of l.theory.signature.definitions l.names (plain_term l.whole)) ≡ true)
    × (lines_rewritten (plain_theory l.theory) (top_scope l.names (map plain_term l.facts)) (map plain_line l.lines) (plain_term l.fn.term)
    ≡ lines_rewritten (plain_theory l.theory) (top_scope l.names (map plain_term l.facts)) (map plain_line (drop l.line-index l.lines)) (plain_term l.whole))
