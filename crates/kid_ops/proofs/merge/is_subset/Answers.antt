use Rattle.std.proofs.Common.{◌≡◌, true, false, sym, ap, ◌∙◌, arith, map, drop, ◌+◌}
use Rattle.std.specs.Prelude.{◌&&◌}
use Rattle.kid_value.specs.ValueSet.{is_subset}
use Rattle.kid_value.specs.ValueView.{plain}
use Rattle.kid_ops.specs.Merged.{starts_with}
use Rattle.kid_ops.proofs.MergeLemmas.{later-ascends, subset-step}
use Rattle.kid_ops.proofs.merge.is_subset.Goals as goal

pub returns-then-not-starts_with : goal.returns-then-not-starts_with
returns-then-not-starts_with c =
    let p : starts_with (plain c.x-item.result) (map plain c.rest_from-rest.result.now) ≡ false = sym c.starts_with.ensures ∙ c.if-not-starts_with.true in
    let s = subset-step c.args.xs.now c.loop-x.rest.now c.rest_from-rest.result.now c.loop-x.x-index c.x-item.result c.requires.first c.loop-x.invariant.ascends (omega arith) c.x-item.is c.rest_from-rest.ensures in
    sym (ap (λ b. b && is_subset (map plain (drop (c.loop-x.x-index + 1) c.args.xs.now)) (map plain c.rest_from-rest.result.now)) p) ∙ sym s ∙ c.loop-x.invariant.passed

pub loop-x-preserved : goal.loop-x-preserved
loop-x-preserved c =
    let p : starts_with (plain c.x-item.result) (map plain c.rest_from-rest.result.now) ≡ true = sym c.starts_with.ensures ∙ c.if-not-starts_with.false in
    let s = subset-step c.args.xs.now c.loop-x.rest.now c.rest_from-rest.result.now c.loop-x.x-index c.x-item.result c.requires.first c.loop-x.invariant.ascends (omega arith) c.x-item.is c.rest_from-rest.ensures in
    record {
      ascends = later-ascends c.args.xs.now c.loop-x.rest.now c.rest_from-rest.result.now c.loop-x.x-index c.x-item.result c.requires.first c.loop-x.invariant.ascends (omega arith) c.x-item.is c.rest_from-rest.ensures;
      passed = sym (ap (λ b. b && is_subset (map plain (drop (c.loop-x.x-index + 1) c.args.xs.now)) (map plain c.rest_from-rest.result.now)) p) ∙ sym s ∙ c.loop-x.invariant.passed;
    }
