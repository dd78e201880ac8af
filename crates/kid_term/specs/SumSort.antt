-- The sort of a sum.
use Rattle.std.specs.Prelude.{ℕ, pos, ◌*ℤ◌, Ok, Err}
use Rattle.std.specs.Int.{int_min, int_max}
use Rattle.kid_value.specs.PlainSort.{PlainSort, never, ints}
use Rattle.kid_term.specs.Sorted.{Kind, Sorted, allowed}

-- of at most num numbers
abbrev pub sum_sort : ℕ → PlainSort → Sorted
sum_sort num (ints lo hi) = allowed (ints (pos num *ℤ int_min (pos 0) lo) (pos num *ℤ int_max (pos 0) hi))
sum_sort num never = Ok (ints (pos 0) (pos 0))
sum_sort num s = Err Kind
