use Rattle.std.proofs.Common.{sym, ◌∙◌, ◌+◌, subst, arith}
use Rattle.kid_prog.specs.ProgramView.{plain_program}
use Rattle.kid_prog.specs.Loading.{Loads}
use Rattle.kid_prog.proofs.StageLemmas.{input-next, require-next}
use Rattle.kid_prog.proofs.loader.+after_inputs.Goals as goal

pub returns-in_ok-add_input : goal.returns-in_ok-add_input
returns-in_ok-add_input t c =
    let e = input-next c.args.before (c.args.before + 1) c.args.format c.args.signature c.add_input.new.self c.args.trees.now c.in-Some.rest.now c.in-Some.tree.now
    c.input_form.result (c.in_ok-name.name, c.in_ok-name.sort)
    (omega arith) c.in-Some.ensures.cases.0 (sym c.is_input.ensures ∙ c.if-is_input.true) c.input_form.ensures (sym c.at.ensures ∙ c.in_ok-name.was) c.in_ok-add_input.ensures.ok in
    subst (λ o. Loads plain_program c.after_inputs.result o) (sym e) c.after_inputs.ensures

pub returns-in_ok-condition : goal.returns-in_ok-condition
returns-in_ok-condition t c =
    let e = require-next c.args.before (c.args.before + 1) c.args.format c.args.signature c.args.trees.now c.in-Some.rest.now c.in-Some.tree.now
    c.require_form.result c.in_ok-condition.condition
    (omega arith) c.in-Some.ensures.cases.0 (sym c.is_input.ensures ∙ c.if-is_input.false) c.require_form.ensures (sym c.at-else-is_input.ensures ∙ c.in_ok-condition.was) in
    subst (λ o. Loads plain_program c.after_condition.result o) (sym e) c.after_condition.ensures
