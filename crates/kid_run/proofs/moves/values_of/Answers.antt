use Rattle.std.proofs.Common.{arith}
use Rattle.kid_term.specs.Eval.{calls_of}
use Rattle.kid_term.specs.Small.{checks_of}
use Rattle.kid_prog.specs.ProgramView.{plain_program}
use Rattle.kid_eval.proofs.SmallLemmas.{small_at}
use Rattle.kid_run.proofs.moves.values_of.Goals as goal

pub value_of-requires : goal.value_of-requires
value_of-requires c =
    small_at (calls_of (plain_program c.args.program.now).definitions) (checks_of (plain_program c.args.program.now).definitions) c.args.env.now c.args.terms.now c.loop-term.term-index
    c.term-item.result (omega arith) c.term-item.is c.loop-term.invariant.small
