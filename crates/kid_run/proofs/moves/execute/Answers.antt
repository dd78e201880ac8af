use Rattle.std.proofs.Common.{◌≡◌, true, List, subst, sym}
use Rattle.kid_term.specs.PlainTerm.{PlainTerm, term_row}
use Rattle.kid_term.specs.TermView.{plain_term}
use Rattle.kid_term.specs.Eval.{calls_of}
use Rattle.kid_term.specs.Small.{all_stay_small, checks_of}
use Rattle.kid_prog.specs.ProgramView.{plain_program}
use Rattle.kid_prog.specs.StmtView.{plain_stmt}
use Rattle.kid_prog.specs.declared.statement.Stmt.{Stmt}
use Rattle.kid_run.specs.FrameView.{plain_machine, plain_stmts}
use Rattle.kid_run.specs.MoveView.{CanDo}
use Rattle.kid_run.proofs.Steps.{emit-small, call-small}
use Rattle.kid_run.proofs.moves.execute.Goals as goal

pub value_of-requires : goal.value_of-requires
value_of-requires c =
    let p = plain_program c.args.program.now in
    let can = subst (λ (s : Stmt). CanDo p (plain_stmt s) (plain_machine c.args.machine.now)) c.in-Emit.is c.requires.can in
    emit-small p c.requires.runs c.args.machine.now.env (plain_term c.in-Emit.term) (plain_stmts c.args.machine.now.stmts.now) can.0

pub values_of-requires : goal.values_of-requires
values_of-requires c =
    let p = plain_program c.args.program.now in
    let can = subst (λ (s : Stmt). CanDo p (plain_stmt s) (plain_machine c.args.machine.now)) c.in-Call.is c.requires.can in
    subst (λ (ts : List PlainTerm). all_stay_small (calls_of p.definitions) (checks_of p.definitions) c.args.machine.now.env (term_row ts) ≡ true) (sym c.items-in-Call.ensures)
    (call-small p c.requires.runs c.args.machine.now.env c.in-Call.terms (plain_stmts c.args.machine.now.stmts.now) can.0)
