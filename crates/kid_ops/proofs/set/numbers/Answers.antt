use Rattle.std.proofs.Common.{◌≡◌, ℤ, pos, ◌+ℤ◌, ◌<ℤ◌, ◌∷◌, [], ◌++◌, to_z, of_z, w64, FitsSigned, sym, ap, ◌∙◌, append_assoc, arith, rules}
use Rattle.std.proofs.lemmas.Int.{to_z-of_z, ints as int_rules}
use Rattle.kid_value.specs.SortCount.{interval_count}
use Rattle.kid_value.specs.PlainValue.{int}
use Rattle.kid_value.specs.Rows.Set.{numbers}
use Rattle.kid_ops.proofs.NumberLemmas.{numbers-next}
use Rattle.kid_ops.proofs.set.numbers.Goals as goal

pub loop-n-preserved : goal.loop-n-preserved
loop-n-preserved c =
    let n : ℤ = to_z w64 c.loop-n.n-bits in
    let b : ℤ = to_z w64 (of_z w64 c.args.b) in
    let next : ℤ = to_z w64 (of_z w64 (n +ℤ pos 1)) in
    let l : n <ℤ b = omega (arith, int_rules) in
    let f : FitsSigned w64 (n +ℤ pos 1) = search rules in
    let e : next ≡ n +ℤ pos 1 = simp to_z-of_z in
    ap (λ z. z ++ numbers next (interval_count next b)) c.in_ok-push.ensures.ok
    ∙ append_assoc c.loop-n.values (int n ∷ []) _
    ∙ ap (λ z. c.loop-n.values ++ z) (sym (numbers-next n b next e l))
    ∙ c.loop-n.invariant
