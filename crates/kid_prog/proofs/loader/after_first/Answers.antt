use Rattle.std.proofs.Common.{sym, ◌∙◌, ◌+◌, subst, arith}
use Rattle.kid_prog.specs.ProgramView.{plain_program}
use Rattle.kid_prog.specs.HeadingView.{plain_heading}
use Rattle.kid_prog.specs.Loading.{Loads}
use Rattle.kid_prog.proofs.StageLemmas.{search-next}
use Rattle.kid_prog.proofs.loader.after_first.Goals as goal

pub returns : goal.returns
returns c =
    let e = search-next c.args.before (c.args.before + 1) (plain_heading c.args.heading) c.args.trees.now c.in-Some.rest.now c.in-Some.tree.now c.main_before.result c.in_ok-main.main
    (omega arith) c.in-Some.ensures.cases.0 c.main_before.ensures (sym c.at.ensures ∙ c.in_ok-main.was) in
    subst (λ o. Loads plain_program c.after_main.result o) (sym e) c.after_main.ensures
