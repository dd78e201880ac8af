use Rattle.std.proofs.Common.{ap, ◌∙◌, sym, length, arith}
use Rattle.kid_theory.specs.Before.{laws_with, axioms_with}
use Rattle.kid_theory.specs.ClaimView.{plain_claim}
use Rattle.kid_theory.proofs.ClaimLemmas.{none_parted, one_parted, taken_next, none_left, parted_all}
use Rattle.kid_theory.proofs.file.parted.Goals as goal

pub loop-claim-init : goal.loop-claim-init
loop-claim-init c =
    let gives = c.into_iter-claim-iterator.ensures.into_iter_gives in
    record {
      parted = none_parted c.new-laws.result c.new-axioms.result c.new-laws.ensures c.new-axioms.ensures;
      all = gives.0;
      left = ap length gives.0 ∙ sym c.args.claims.ok.0 ∙ sym gives.1;
    }

pub loop-claim-preserved-in-Continue-1 : goal.loop-claim-preserved-in-Continue-1
loop-claim-preserved-in-Continue-1 c =
    let steps = c.in-Some.ensures.steps in
    let shorter = ap length steps.0 in
    record {
      parted = one_parted c.loop-claim.yielded c.in-Some.claim c.loop-claim.laws c.loop-claim.axioms c.loop-claim.laws c.push.new.self c.loop-claim.invariant.parted
          (ap (λ k. laws_with c.loop-claim.laws (plain_claim k)) (sym c.in-Assumed.is)) (c.in_ok-push-in-Assumed.ensures.ok ∙ ap (λ k. axioms_with c.loop-claim.axioms (plain_claim k)) (sym c.in-Assumed.is));
      all = taken_next c.loop-claim.yielded c.loop-claim.claim-iterator.rest.items c.next.new.self.rest.items c.args.claims.items c.in-Some.claim c.loop-claim.invariant.all steps.0;
      left = omega (arith, shorter, steps.1, c.loop-claim.invariant.left);
    }

pub loop-claim-preserved : goal.loop-claim-preserved
loop-claim-preserved c =
    let steps = c.in-Some.ensures.steps in
    let shorter = ap length steps.0 in
    record {
      parted = one_parted c.loop-claim.yielded c.in-Some.claim c.loop-claim.laws c.loop-claim.axioms c.push-in-Proved.new.self c.loop-claim.axioms c.loop-claim.invariant.parted
          (c.in_ok-push-in-Proved.ensures.ok ∙ ap (λ k. laws_with c.loop-claim.laws (plain_claim k)) (sym c.in-Proved.is)) (ap (λ k. axioms_with c.loop-claim.axioms (plain_claim k)) (sym c.in-Proved.is));
      all = taken_next c.loop-claim.yielded c.loop-claim.claim-iterator.rest.items c.next.new.self.rest.items c.args.claims.items c.in-Some.claim c.loop-claim.invariant.all steps.0;
      left = omega (arith, shorter, steps.1, c.loop-claim.invariant.left);
    }

pub returns : goal.returns
returns c =
    let done = none_left c.loop-claim.yielded c.loop-claim.claim-iterator.rest.items c.args.claims.items c.loop-claim.claim-iterator.rest.len c.loop-claim.invariant.all c.loop-claim.invariant.left c.in-None.ensures.steps.0 in
    parted_all c.loop-claim.yielded c.args.claims.items c.loop-claim.laws c.loop-claim.axioms c.loop-claim.invariant.parted done
