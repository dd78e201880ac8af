use Rattle.kid_prog.proofs.RunDepths.{run_of-more}
use Rattle.kid_run.proofs.law.whole_runs_stay.Goals as goal

pub returns : goal.returns
returns c = run_of-more
