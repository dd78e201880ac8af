use Rattle.std.proofs.Common.{sym, ◌∙◌, ◌+◌, subst, arith}
use Rattle.kid_prog.specs.PlainStmt.{stmt_row}
use Rattle.kid_prog.specs.ProgramView.{plain_program}
use Rattle.kid_prog.specs.HeadingView.{plain_heading}
use Rattle.kid_prog.specs.Loading.{Loads}
use Rattle.kid_prog.proofs.StageLemmas.{main-next}
use Rattle.kid_prog.proofs.loader.after_main.Goals as goal

pub returns : goal.returns
returns c =
    let e = main-next c.args.before (c.args.before + 1) (plain_heading c.args.heading) (stmt_row c.args.main) c.args.trees.now c.in-Some.rest.now c.in-Some.tree.now
    c.search_form-found.result (c.in_ok-parameters.parameters, c.in_ok-parameters.search) (plain_program c.program_with-program.result)
    (omega arith) c.in-Some.ensures.cases.0 c.search_form-found.ensures (sym c.at.ensures ∙ c.in_ok-parameters.was) c.program_with-program.ensures in
    subst (λ o. Loads plain_program c.at_end.result o) (sym e) c.at_end.ensures
