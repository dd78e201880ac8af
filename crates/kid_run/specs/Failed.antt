-- Which ends of a run say that a put failed.
use Rattle.std.specs.Prelude.{Bool, true, false, Result, Ok, Err}
use Rattle.kid_run.specs.declared.runner.RunFault.{RunFault}
use Rattle.kid_run.specs.declared.runner.RunFault.TheVariants as run_fault

abbrev pub put_failed : {T : Type 0} → Result T RunFault → Bool
put_failed (Ok _) = false
put_failed (Err run_fault.PutFailed) = true
put_failed (Err run_fault.Memory) = false
