use Rattle.std.proofs.Common.{◌≡◌, ◌+◌, ◌+ℤ◌, true, map, drop, to_z, of_z, w64, FitsSigned, refl, sym, ap, ◌∙◌, subst, arith, rules}
use Rattle.std.proofs.lemmas.Int.{to_z-of_z}
use Rattle.kid_value.specs.Rows.Parts.{number_of, total as total_of}
use Rattle.kid_value.specs.ValueView.{plain}
use Rattle.kid_value.specs.Rows.Sums.{sums_small}
use Rattle.kid_ops.proofs.SumLemmas.{added_small}
use Rattle.kid_ops.proofs.set.total_of.Goals as goal

pub added-sum-requires : goal.added-sum-requires
added-sum-requires c =
    (added_small c.args.values.now c.loop-v.v-index (c.loop-v.v-index + 1) c.v-item.result (to_z w64 c.loop-v.sum-bits) refl (omega arith) c.v-item.is c.loop-v.invariant.small).fits

pub loop-v-preserved : goal.loop-v-preserved
loop-v-preserved c =
    let f : FitsSigned w64 c.added-sum.result = search rules in
    let e : to_z w64 (of_z w64 c.added-sum.result) ≡ to_z w64 c.loop-v.sum-bits +ℤ number_of (plain c.v-item.result) = simp to_z-of_z c.added-sum.ensures in
    let s = added_small c.args.values.now c.loop-v.v-index (c.loop-v.v-index + 1) c.v-item.result (to_z w64 c.loop-v.sum-bits) refl (omega arith) c.v-item.is c.loop-v.invariant.small in
    record {
      small = subst (λ z. sums_small z (map plain (drop (c.loop-v.v-index + 1) c.args.values.now)) ≡ true) (sym e) s.small;
      sums = ap (λ z. z +ℤ total_of (map plain (drop (c.loop-v.v-index + 1) c.args.values.now))) e ∙ s.sums ∙ c.loop-v.invariant.sums;
    }
