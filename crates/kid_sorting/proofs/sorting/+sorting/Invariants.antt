use Rattle.std.proofs.Common.{◌≡◌, ◌≤◌, ◌+◌, ◌*◌, map, drop}
use Rattle.kid_value.specs.SortView.{plain_sort}
use Rattle.kid_term.specs.DefView.{plain_def}
use Rattle.kid_term.specs.Names.{latest_first}
use Rattle.kid_term.specs.PlainTerm.{node_count, node_counts, term_row}
use Rattle.kid_term.specs.TermView.{plain_term}
use Rattle.kid_term.specs.Sorting.{least_sorts}
use Rattle.kid_sorting.specs.ScopeView.{names_of}
use Rattle.kid_sorting.proofs.Fronts.{with_front}
use Rattle.kid_sorting.proofs.sorting.+sorting.Given as goal

abbrev pub decreases-least_sort : goal.decreases-least_sort
decreases-least_sort l = 2 * node_count (plain_term l.term.now)

abbrev pub decreases-least_sorts : goal.decreases-least_sorts
decreases-least_sorts l = 2 * node_counts (term_row (map plain_term l.terms.now)) + 1

abbrev pub decreases-over_set : goal.decreases-over_set
decreases-over_set l = 2 * node_count (plain_term l.body.now) + 1

abbrev pub invariant-least_sorts-loop-t : goal.invariant-least_sorts-loop-t
invariant-least_sorts-loop-t l = record {
  told : with_front (map plain_sort l.sorts.items) (least_sorts (latest_first (map plain_def l.definitions)) (names_of l.scope) (term_row (map plain_term (drop l.t-index l.terms))))
      ≡ least_sorts (latest_first (map plain_def l.definitions)) (names_of l.scope) (term_row (map plain_term l.terms));
  size : node_counts (term_row (map plain_term (drop l.t-index l.terms))) ≤ node_counts (term_row (map plain_term l.terms));
}
