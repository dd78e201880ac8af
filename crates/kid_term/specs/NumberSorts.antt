-- The sorts of the operators on integers: by the bounds of the arguments an interval that holds each result.
use Rattle.std.specs.Prelude.{ℕ, ◌-◌, max, ℤ, pos, ◌+ℤ◌, ◌-ℤ◌, ◌*ℤ◌, int_le, unsigned_abs, cond, List, Ok}
use Rattle.std.specs.Int.{int_min, int_max, int_div_euclid}
use Rattle.kid_value.specs.PlainSort.{PlainSort, bools, ints}
use Rattle.kid_term.specs.Sorted.{Sorted, allowed, with_one, with_two, with_ints}
use Rattle.kid_term.specs.declared.operator.NumberOp.{NumberOp}
use Rattle.kid_term.specs.declared.operator.NumberOp.TheVariants.{Le, Lt, Add, Sub, Neg, Mul, Div, Mod, Min, Max}

abbrev pub least_of_four : ℤ → ℤ → ℤ → ℤ → ℤ
least_of_four a b c d = int_min (int_min a b) (int_min c d)

abbrev pub greatest_of_four : ℤ → ℤ → ℤ → ℤ → ℤ
greatest_of_four a b c d = int_max (int_max a b) (int_max c d)

-- the greatest size of two bounds
abbrev pub greatest_size : ℤ → ℤ → ℕ
greatest_size lo hi = max (unsigned_abs lo) (unsigned_abs hi)

-- from a to b by c to d
abbrev pub product_sort : ℤ → ℤ → ℤ → ℤ → PlainSort
product_sort a b c d = ints (least_of_four (a *ℤ c) (a *ℤ d) (b *ℤ c) (b *ℤ d)) (greatest_of_four (a *ℤ c) (a *ℤ d) (b *ℤ c) (b *ℤ d))

-- for a divisor from 1 on the floors at its bounds, else anything up to the size of the dividend
abbrev pub quotient_sort : ℤ → ℤ → ℤ → ℤ → PlainSort
quotient_sort a b c d =
    cond (int_le (pos 1) c) (ints (int_min (int_div_euclid a c) (int_div_euclid a d)) (int_max (int_div_euclid b c) (int_div_euclid b d)))
    (ints (pos 0 -ℤ pos (greatest_size a b)) (pos (greatest_size a b)))

-- a rest is less than the size of the divisor
abbrev pub rest_sort : ℤ → ℤ → PlainSort
rest_sort c d = ints (pos 0) (pos (greatest_size c d - 1))

abbrev pub two_ints : List PlainSort → (ℤ → ℤ → ℤ → ℤ → Sorted) → Sorted
two_ints ss k = with_two ss (λ s t. with_ints s (λ a b. with_ints t (λ c d. k a b c d)))

abbrev pub number_sort : NumberOp → List PlainSort → Sorted
number_sort Le ss = two_ints ss (λ a b c d. Ok bools)
number_sort Lt ss = two_ints ss (λ a b c d. Ok bools)
number_sort Add ss = two_ints ss (λ a b c d. allowed (ints (a +ℤ c) (b +ℤ d)))
number_sort Sub ss = two_ints ss (λ a b c d. allowed (ints (a -ℤ d) (b -ℤ c)))
number_sort Neg ss = with_one ss (λ s. with_ints s (λ a b. allowed (ints (pos 0 -ℤ b) (pos 0 -ℤ a))))
number_sort Mul ss = two_ints ss (λ a b c d. allowed (product_sort a b c d))
number_sort Div ss = two_ints ss (λ a b c d. allowed (quotient_sort a b c d))
number_sort Mod ss = two_ints ss (λ a b c d. allowed (rest_sort c d))
number_sort Min ss = two_ints ss (λ a b c d. allowed (ints (int_min a c) (int_min b d)))
number_sort Max ss = two_ints ss (λ a b c d. allowed (ints (int_max a c) (int_max b d)))
