use Rattle.std.proofs.Common.{length}
use Rattle.kid_eval.proofs.set.+members_of.Given as goal

abbrev pub decreases-members_of : goal.decreases-members_of
decreases-members_of l = length l.values.now
