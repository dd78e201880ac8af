use Rattle.std.proofs.Common.{length}
use Rattle.kid_run.proofs.inputs.+values_after.Given as goal

abbrev pub decreases-values_after : goal.decreases-values_after
decreases-values_after l = length l.trees.now
