use Rattle.kid_run.proofs.InputsTold.{read_inputs_spelled}
use Rattle.kid_run.proofs.law.inputs_are_spelled.Goals as goal

pub returns : goal.returns
returns c = read_inputs_spelled
