use Rattle.std.proofs.Common.{sym, subst}
use Rattle.kid_sexp.specs.Tree.{plains}
use Rattle.kid_prog.specs.Loading.{Fails, at_end}
use Rattle.kid_prog.specs.ProgramView.{plain_program}
use Rattle.kid_prog.proofs.StageLemmas.{ended_not}
use Rattle.kid_prog.proofs.loader.at_end.Goals as goal

pub returns-else-is_empty : goal.returns-else-is_empty
returns-else-is_empty c =
    let e = ended_not c.args.before (plain_program c.args.program) c.args.trees.now c.if-is_empty.ensures in
    subst (λ f. Fails f f.code (at_end c.args.before (plain_program c.args.program) (plains c.args.trees.now))) (sym c.fault_at.ensures) e
