use Rattle.std.proofs.Common.{◌≡◌, ◌++◌, take, option_map}
use Rattle.kid_prog.specs.ProgramView.{plain_program}
use Rattle.kid_run.specs.InputReading.{envs_of}
use Rattle.kid_run.specs.Reporting.{report_of}
use Rattle.kid_run.proofs.Runs.{inputs_text}
use Rattle.kid_run.proofs.runner.run.Given as goal

abbrev pub invariant-loop-input : goal.invariant-loop-input
invariant-loop-input g l = record {
  put : g.O.Sink.written l.out ≡ option_map (λ w. w ++ inputs_text (plain_program l.program) l.fuel (take l.input-index l.input-items)) (g.O.Sink.written l.fn.out);
  reported : l.entries.items ≡ report_of (plain_program l.program) l.fuel (envs_of (plain_program l.program).inputs (take l.input-index l.input-items));
  still : g.O.Sink.faults l.out ≡ g.O.Sink.faults l.fn.out;
}
