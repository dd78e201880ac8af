use Rattle.std.proofs.Common.{◌≡◌, ◌++◌}
use Rattle.kid_value.specs.SortCount.{interval_count}
use Rattle.kid_value.specs.Rows.Set.{numbers}
use Rattle.kid_ops.proofs.set.numbers.Given as goal

abbrev pub invariant-loop-n : goal.invariant-loop-n
invariant-loop-n l = l.values ++ numbers l.n (interval_count l.n l.b) ≡ numbers l.a (interval_count l.a l.b)
