use Rattle.std.proofs.Common.{length}
use Rattle.kid_eval.proofs.env.+latest.Given as goal

abbrev pub decreases-latest : goal.decreases-latest
decreases-latest l = length l.items.now
