use Rattle.kid_run.proofs.InputsTold.{spelled_inputs_read}
use Rattle.kid_run.proofs.law.spelled_inputs_are_read.Goals as goal

pub returns : goal.returns
returns c = spelled_inputs_read
