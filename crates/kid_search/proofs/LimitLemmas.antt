-- Counts that stand still at the greatest number of a machine word.
use Rattle.std.proofs.Common.{◌≡◌, ℕ, ◌<◌, arith}
use Rattle.std.specs.Prelude.{nat_le, min}

pub at_most : (n m k : ℕ) → m < k → nat_le (min n k) m ≡ nat_le n m
at_most n m k l = grind arith
