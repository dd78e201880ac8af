use Rattle.std.proofs.Common.{◌+◌, ◌*◌, length}
use Rattle.kid_kernel.proofs.scope.+descend.Given as goal

abbrev pub decreases-descend : goal.decreases-descend
decreases-descend l = 2 * length l.path.now

abbrev pub decreases-descend_among : goal.decreases-descend_among
decreases-descend_among l = 2 * length l.path.now + 1
