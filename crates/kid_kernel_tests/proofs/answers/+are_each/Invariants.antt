use Rattle.std.proofs.Common.{length}
use Rattle.kid_kernel_tests.proofs.answers.+are_each.Given as goal

abbrev pub decreases-are_each : goal.decreases-are_each
decreases-are_each l = length l.terms.now
