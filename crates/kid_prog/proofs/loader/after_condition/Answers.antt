use Rattle.std.proofs.Common.{sym, ◌∙◌, ◌+◌, subst, arith}
use Rattle.kid_term.specs.TermView.{plain_term}
use Rattle.kid_prog.specs.ProgramView.{plain_program}
use Rattle.kid_prog.specs.Loading.{Loads}
use Rattle.kid_prog.proofs.StageLemmas.{condition-next}
use Rattle.kid_prog.proofs.loader.after_condition.Goals as goal

pub returns : goal.returns
returns c =
    let e = condition-next c.args.before (c.args.before + 1) c.args.format c.args.signature (plain_term c.args.condition) c.args.trees.now c.in-Some.rest.now c.in-Some.tree.now
    c.output_form.result (c.in_ok-output.output, c.in_ok-output.sort)
    (omega arith) c.in-Some.ensures.cases.0 c.output_form.ensures (sym c.at.ensures ∙ c.in_ok-output.was) in
    subst (λ o. Loads plain_program c.after_output.result o) (sym e) c.after_output.ensures
