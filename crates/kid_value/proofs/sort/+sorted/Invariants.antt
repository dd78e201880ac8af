use Rattle.std.proofs.Common.{◌≡◌, ◌&&◌, map, drop, ◌+◌, ◌*◌, max}
use Rattle.std.specs.List.{list_all}
use Rattle.kid_value.specs.PlainSort.{has_sort}
use Rattle.kid_value.specs.SortView.{plain_sort}
use Rattle.kid_value.specs.ValueView.{plain, plain_entry}
use Rattle.kid_value.specs.declared.sort.Sort.{size-Sort}
use Rattle.kid_value.proofs.sort.+sorted.Given as goal

abbrev pub decreases-is_of : goal.decreases-is_of
decreases-is_of l = 2 * size-Sort l.s.now

abbrev pub decreases-all_are_of : goal.decreases-all_are_of
decreases-all_are_of l = 2 * size-Sort l.s.now + 1

abbrev pub decreases-entries_are_of : goal.decreases-entries_are_of
decreases-entries_are_of l = 2 * max (size-Sort l.a.now) (size-Sort l.b.now) + 1

abbrev pub invariant-all_are_of-loop-v : goal.invariant-all_are_of-loop-v
invariant-all_are_of-loop-v l = list_all (has_sort (plain_sort l.s)) (map plain l.vs) ≡ list_all (has_sort (plain_sort l.s)) (map plain (drop l.v-index l.vs))

abbrev pub invariant-entries_are_of-loop-e : goal.invariant-entries_are_of-loop-e
invariant-entries_are_of-loop-e l =
    list_all (λ e. has_sort (plain_sort l.a) e.0 && has_sort (plain_sort l.b) e.1) (map plain_entry l.es) ≡
    list_all (λ e. has_sort (plain_sort l.a) e.0 && has_sort (plain_sort l.b) e.1) (map plain_entry (drop l.e-index l.es))
