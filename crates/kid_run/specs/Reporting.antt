-- What is reported of each run.
use Rattle.std.specs.Prelude.{ℕ, List, length, map, if◌then◌else◌}
use Rattle.kid_term.specs.Eval.{Env}
use Rattle.kid_prog.specs.PlainProgram.{PlainProgram}
use Rattle.kid_prog.specs.Running.{Run, run_of}
use Rattle.kid_run.specs.Lines.{shown, is_inside}
use Rattle.kid_run.specs.declared.report.Outcome.TheVariants.{Done, Fuel, Outside}
use Rattle.kid_run.specs.declared.report.RunEntry.{RunEntry}

-- of an input that meets the input condition
abbrev pub run_entry : Run → RunEntry
run_entry r = record { answers = shown (length r.values); splits = r.calls; outcome = if r.whole then Done else Fuel }

abbrev pub input_entry : PlainProgram → ℕ → Env → RunEntry
input_entry p fuel x = if is_inside p x then run_entry (run_of p x fuel) else record { answers = 0; splits = 0; outcome = Outside }

abbrev pub report_of : PlainProgram → ℕ → List Env → List RunEntry
report_of p fuel xs = map (input_entry p fuel) xs
