use Rattle.std.proofs.Common.{◌+◌, ◌*◌}
use Rattle.kid_term.specs.PlainTerm.{node_count}
use Rattle.kid_term.specs.TermView.{plain_term}
use Rattle.kid_kernel.proofs.holding.+held.Given as goal

abbrev pub decreases-is_held : goal.decreases-is_held
decreases-is_held l = 2 * node_count (plain_term l.condition.now)

abbrev pub decreases-both_held : goal.decreases-both_held
decreases-both_held l = 2 * (node_count (plain_term l.first.now) + node_count (plain_term l.second.now)) + 1
