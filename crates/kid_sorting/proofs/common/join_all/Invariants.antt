use Rattle.std.proofs.Common.{◌≡◌, Some, map, length}
use Rattle.kid_value.specs.SortView.{plain_sort}
use Rattle.kid_term.specs.Sorted.{join_all}
use Rattle.kid_sorting.proofs.JoinLemmas.{joined_onto}
use Rattle.kid_sorting.proofs.common.join_all.Given as goal

abbrev pub decreases-loop-last : goal.decreases-loop-last
decreases-loop-last l = length l.rest

-- what is left onto the whole so far is the sort above all
abbrev pub invariant-loop-last : goal.invariant-loop-last
invariant-loop-last l = joined_onto (map plain_sort l.rest) (Some (plain_sort l.whole)) ≡ join_all (map plain_sort l.sorts)
