use Rattle.std.proofs.Common.{sym, ap, ◌∙◌, ◌+◌, length, subst, arith}
use Rattle.kid_theory.specs.FileView.{plain_file}
use Rattle.kid_theory.specs.Answers.{Reads}
use Rattle.kid_theory.proofs.KnownAfter.{claim_after}
use Rattle.kid_sexp.specs.Tree.{plain, plains}
use Rattle.kid_theory.specs.FrontView.{plain_front}
use Rattle.kid_theory.specs.Reading.{after_condition}
use Rattle.kid_theory.proofs.StageLemmas.{claim-next, claim-refused, output-next, output-refused, handed}
use Rattle.kid_theory.proofs.reader.+after_condition.Goals as goal

pub returns-in_ok-front : goal.returns-in_ok-front
returns-in_ok-front t c =
    let e = claim-next c.args.before (c.args.before + 1) (plain_front c.args.front) (plain_front c.in_ok-front.front) c.args.trees.now c.in-Some.rest.now c.in-Some.tree.now
    c.claim_after.result c.in_ok-claim.claim
    (omega arith) c.in-Some.ensures.cases.0 (sym c.is_claim.ensures ∙ c.if-is_claim.true) c.claim_after.ensures (sym c.at.ensures ∙ c.in_ok-claim.was) c.in_ok-front.ensures in
    subst (λ o. Reads plain_file c.after_condition.result o) (sym e) c.after_condition.ensures

pub returns-in_ok-output : goal.returns-in_ok-output
returns-in_ok-output t c =
    let e = output-next c.args.before (c.args.before + 1) (plain_front c.args.front) c.args.trees.now c.in-Some.rest.now c.in-Some.tree.now
    c.output_after.result (c.in_ok-output.output, c.in_ok-output.sort)
    (omega arith) c.in-Some.ensures.cases.0 (sym c.is_claim.ensures ∙ c.if-is_claim.false) c.output_after.ensures (sym c.at-else-is_claim.ensures ∙ c.in_ok-output.was) in
    subst (λ o. Reads plain_file c.after_output.result o) (sym e) c.after_output.ensures

pub returns-in_err-output : goal.returns-in_err-output
returns-in_err-output t c =
    let fails = output-refused c.args.before (c.args.before + 1) (plain_front c.args.front) c.args.trees.now c.in-Some.rest.now c.in-Some.tree.now
    c.output_after.result c.in_err-output.field-0.0
    (omega arith) c.in-Some.ensures.cases.0 (sym c.is_claim.ensures ∙ c.if-is_claim.false) c.output_after.ensures (sym c.at-else-is_claim.ensures ∙ c.in_err-output.was) in
    handed plain_file c.from_residual-in_err-output.result c.in_err-output.field-0.0 (after_condition c.args.before (plain_front c.args.front) (plains c.args.trees.now))
    c.from_residual-in_err-output.ensures.1 fails

pub returns-in_err-claim : goal.returns-in_err-claim
returns-in_err-claim t c =
    let fails = claim-refused c.args.before (c.args.before + 1) (plain_front c.args.front) c.args.trees.now c.in-Some.rest.now c.in-Some.tree.now
    c.claim_after.result c.in_err-claim.field-0.0
    (omega arith) c.in-Some.ensures.cases.0 (sym c.is_claim.ensures ∙ c.if-is_claim.true) c.claim_after.ensures (sym c.at.ensures ∙ c.in_err-claim.was) in
    handed plain_file c.from_residual.result c.in_err-claim.field-0.0 (after_condition c.args.before (plain_front c.args.front) (plains c.args.trees.now)) c.from_residual.ensures.1 fails

pub after_condition-requires : goal.after_condition-requires
after_condition-requires t c =
    let l = ap length c.in-Some.ensures.cases.0 in
    let known = claim_after (c.args.before + 1) (plain_front c.args.front) (plain_front c.in_ok-front.front) (plain c.in-Some.tree.now) c.claim_after.result c.in_ok-claim.claim
    c.requires.known c.claim_after.ensures (sym c.at.ensures ∙ c.in_ok-claim.was) c.in_ok-front.ensures in
    (omega (arith, l), (omega (arith, l, c.requires.count), known))
