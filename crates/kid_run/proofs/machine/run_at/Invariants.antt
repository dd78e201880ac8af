use Rattle.std.proofs.Common.{◌≡◌, ◌+◌, [], map}
use Rattle.kid_value.specs.ValueView.{plain}
use Rattle.kid_term.specs.Eval.{bound, calls_of}
use Rattle.kid_prog.specs.ProgramView.{plain_program}
use Rattle.kid_run.specs.Account.{account, with_events}
use Rattle.kid_run.specs.Frames.{doing}
use Rattle.kid_run.specs.FrameView.{plain_machine}
use Rattle.kid_prog.specs.Events.{procedure}
use Rattle.kid_prog.specs.Running.{run_of}
use Rattle.kid_run.specs.Scope.{MachineCanRun}
use Rattle.kid_run.proofs.machine.run_at.Given as goal

abbrev pub invariant-loop-tally : goal.invariant-loop-tally
invariant-loop-tally l =
    let p = plain_program l.program in
    let x = bound p.inputs (map plain l.inputs) in
    record {
      same : with_events l.tally l.left (doing (calls_of p.definitions) (procedure p x l.fuel) (plain_machine l.machine)) ≡ account [] 0 0 (run_of p x l.fuel);
      can : MachineCanRun p (plain_machine l.machine);
      count : l.tally.splits + l.left ≡ l.fuel;
    }

abbrev pub decreases-loop-tally : goal.decreases-loop-tally
decreases-loop-tally l = l.left
