use Rattle.kid_term.specs.TermView.{plain_term}
use Rattle.kid_prog.specs.ProgramView.{plain_program}
use Rattle.kid_run.specs.FrameView.{plain_stmts}
use Rattle.kid_run.proofs.Steps.{assign-small}
use Rattle.kid_run.proofs.moves.assign.Goals as goal

pub value_of-requires : goal.value_of-requires
value_of-requires c =
    assign-small (plain_program c.args.program.now) c.requires.runs c.args.machine.now.env c.args.name.now (plain_term c.args.term.now) (plain_stmts c.args.machine.now.stmts.now) c.requires.can.0
