use Rattle.std.proofs.Common.{ℤ, sym, subst, to_z, of_z, w64}
use Rattle.kid_value.specs.SortCount.{interval_count}
use Rattle.kid_value.specs.PlainValue.{int}
use Rattle.kid_value.specs.ValueSet.{Ascends}
use Rattle.kid_value.specs.Rows.Set.{numbers}
use Rattle.kid_value.proofs.CanonicalLemmas.{ascends-set}
use Rattle.kid_value.proofs.RowCanonical.{IsCanonical-range}
use Rattle.kid_ops.proofs.set.range.Goals as goal

pub from_ascending-requires : goal.from_ascending-requires
from_ascending-requires c =
    let a : ℤ = to_z w64 (of_z w64 c.args.a) in
    let b : ℤ = to_z w64 (of_z w64 c.args.b) in
    subst Ascends (sym c.in_ok-values.ensures) (ascends-set (numbers a (interval_count a b)) (IsCanonical-range (int a) (int b)))
