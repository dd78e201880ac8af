-- Sums of which each part stays within the limits of integers.
use Rattle.std.specs.Prelude.{ℤ, ◌+ℤ◌, Bool, ◌&&◌, List, [], ◌∷◌}
use Rattle.kid_value.specs.PlainValue.{PlainValue}
use Rattle.kid_value.specs.SortLimits.{in_limits}
use Rattle.kid_value.specs.Rows.Parts.{number_of}

-- whether n and each sum of it with the first few numbers lies within the limits
abbrev pub sums_small : ℤ → List PlainValue → Bool
sums_small n [] = in_limits n
sums_small n (v ∷ vs) = in_limits n && sums_small (n +ℤ number_of v) vs
