use Rattle.std.proofs.Common.{length}
use Rattle.kid_eval.proofs.env.+given.Given as goal

abbrev pub decreases-given : goal.decreases-given
decreases-given l = length l.names.now
