use Rattle.std.proofs.Common.{length}
use Rattle.kid_eval_tests.proofs.sorted.+are_given.Given as goal

abbrev pub decreases-are_given : goal.decreases-are_given
decreases-are_given l = length l.names.now
