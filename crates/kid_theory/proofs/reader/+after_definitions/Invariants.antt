use Rattle.std.proofs.Common.{length}
use Rattle.kid_theory.proofs.reader.+after_definitions.Given as goal

abbrev pub decreases-after_definitions : goal.decreases-after_definitions
decreases-after_definitions l = length l.trees.now
