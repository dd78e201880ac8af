use Rattle.std.proofs.Common.{◌≡◌, ℕ}
use Rattle.kid_term.specs.Eval.{calls_of}
use Rattle.kid_prog.specs.ProgramView.{plain_program}
use Rattle.kid_run.specs.Account.{with_events}
use Rattle.kid_run.specs.Frames.{doing}
use Rattle.kid_run.specs.FrameView.{plain_machine}
use Rattle.kid_prog.specs.Events.{Procedure}
use Rattle.kid_run.specs.Scope.{MachineCanRun}
use Rattle.kid_run.proofs.Steps.{machine_work}
use Rattle.kid_run.proofs.machine.advance.Given as goal

abbrev pub invariant-loop-alloc : goal.invariant-loop-alloc
invariant-loop-alloc l = record {
  same : (f : Procedure) (n : ℕ) → with_events l.fn.tally n (doing (calls_of (plain_program l.program).definitions) f (plain_machine l.fn.machine))
      ≡ with_events l.tally n (doing (calls_of (plain_program l.program).definitions) f (plain_machine l.machine));
  can : MachineCanRun (plain_program l.program) (plain_machine l.machine);
  splits : l.tally.splits ≡ l.fn.tally.splits;
}

abbrev pub decreases-loop-alloc : goal.decreases-loop-alloc
decreases-loop-alloc l = machine_work (calls_of (plain_program l.program).definitions) (plain_machine l.machine)
