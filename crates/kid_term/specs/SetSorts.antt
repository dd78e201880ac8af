-- The sorts of the operators on sets.
use Rattle.std.specs.Prelude.{ℤ, pos, int_le, cond, List, Ok}
use Rattle.kid_value.specs.PlainSort.{PlainSort, never, bools, ints, sets}
use Rattle.kid_value.specs.SortOrder.{join}
use Rattle.kid_value.specs.SortCount.{count_of}
use Rattle.kid_term.specs.Sorted.{Sorted, allowed, with_one, with_two, with_set, with_join, join_all}
use Rattle.kid_term.specs.NumberSorts.{two_ints}
use Rattle.kid_term.specs.SumSort.{sum_sort}
use Rattle.kid_term.specs.declared.operator.SetOp.{SetOp}
use Rattle.kid_term.specs.declared.operator.SetOp.TheVariants.{Set, Range, In, Subset, Union, With, Inter, Diff, Without, Card, Sum, Least}

-- two sets whose members have a common sort: the sorts of the first's and of all members
abbrev pub two_sets : List PlainSort → (PlainSort → PlainSort → Sorted) → Sorted
two_sets ss k = with_two ss (λ s t. with_set s (λ a. with_set t (λ b. with_join (join a b) (k a))))

-- a value and a set that have a common sort: the sorts of the members and of both
abbrev pub value_and_set : List PlainSort → (PlainSort → PlainSort → Sorted) → Sorted
value_and_set ss k = with_two ss (λ x s. with_set s (λ a. with_join (join x a) (k a)))

-- the set of the integers from a to d, which may be none
abbrev pub range_sort : ℤ → ℤ → Sorted
range_sort a d = cond (int_le a d) (allowed (sets (ints a d))) (Ok (sets never))

abbrev pub set_sort : SetOp → List PlainSort → Sorted
set_sort Set ss = with_join (join_all ss) (λ a. allowed (sets a))
set_sort Range ss = two_ints ss (λ a b c d. range_sort a d)
set_sort In ss = value_and_set ss (λ a e. Ok bools)
set_sort Subset ss = two_sets ss (λ a e. Ok bools)
set_sort Union ss = two_sets ss (λ a e. allowed (sets e))
set_sort With ss = value_and_set ss (λ a e. allowed (sets e))
set_sort Inter ss = two_sets ss (λ a e. allowed (sets a))
set_sort Diff ss = two_sets ss (λ a e. allowed (sets a))
set_sort Without ss = value_and_set ss (λ a e. allowed (sets a))
set_sort Card ss = with_one ss (λ s. with_set s (λ a. allowed (ints (pos 0) (pos (count_of a)))))
set_sort Sum ss = with_one ss (λ s. with_set s (λ a. sum_sort (count_of a) a))
set_sort Least ss = with_two ss (λ s d. with_set s (λ a. with_join (join a d) allowed))
