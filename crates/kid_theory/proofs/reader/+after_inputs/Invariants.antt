use Rattle.std.proofs.Common.{length}
use Rattle.kid_theory.proofs.reader.+after_inputs.Given as goal

abbrev pub decreases-after_inputs : goal.decreases-after_inputs
decreases-after_inputs l = length l.trees.now
