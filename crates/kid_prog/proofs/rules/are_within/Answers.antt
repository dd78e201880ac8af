use Rattle.std.proofs.Common.{sym, ◌∙◌, arith}
use Rattle.kid_sorting.proofs.Calls.{fit_parameters-rest}
use Rattle.kid_prog.proofs.rules.are_within.Goals as goal

pub returns : goal.returns
returns c = sym (fit_parameters-rest c.args.parameters.now c.args.sorts.now c.loop-i.i (omega arith) c.loop-i.invariant.within) ∙ c.loop-i.invariant.told
