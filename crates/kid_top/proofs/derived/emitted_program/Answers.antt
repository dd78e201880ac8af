use Rattle.kid_kernel.specs.TheoryView.{plain_theory}
use Rattle.kid_prog.specs.ProgramView.{plain_program}
use Rattle.kid_top.proofs.EmittedSpelled.{emitted_spelled}
use Rattle.kid_top.proofs.derived.emitted_program.Goals as goal

pub reloaded-requires : goal.reloaded-requires
reloaded-requires c = emitted_spelled (plain_theory c.args.theory.now) (plain_program c.in-Ok.program) c.requires c.in-Ok.ensures
