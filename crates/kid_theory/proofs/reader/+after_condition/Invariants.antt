use Rattle.std.proofs.Common.{length}
use Rattle.kid_theory.proofs.reader.+after_condition.Given as goal

abbrev pub decreases-after_condition : goal.decreases-after_condition
decreases-after_condition l = length l.trees.now
