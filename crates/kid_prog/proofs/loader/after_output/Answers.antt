use Rattle.std.proofs.Common.{sym, ◌∙◌, ◌+◌, subst, arith}
use Rattle.kid_prog.specs.ProgramView.{plain_program}
use Rattle.kid_prog.specs.HeadingView.{plain_heading}
use Rattle.kid_prog.specs.Loading.{Loads}
use Rattle.kid_prog.proofs.StageLemmas.{first-next}
use Rattle.kid_prog.proofs.loader.after_output.Goals as goal

pub returns-in_ok-count : goal.returns-in_ok-count
returns-in_ok-count c =
    let e = first-next c.args.before (c.args.before + 1) (plain_heading c.args.heading) (plain_heading c.with_first.result) c.args.trees.now c.in-Some.rest.now c.in-Some.tree.now
    c.first_form.result c.in_ok-count.count
    (omega arith) c.in-Some.ensures.cases.0 (sym c.is_first.ensures ∙ c.if-is_first.true) c.first_form.ensures (sym c.at.ensures ∙ c.in_ok-count.was) c.with_first.ensures in
    subst (λ o. Loads plain_program c.after_first.result o) (sym e) c.after_first.ensures
