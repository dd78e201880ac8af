use Rattle.std.proofs.Common.{◌+◌, ◌*◌, map}
use Rattle.kid_term.specs.TermView.{plain_term}
use Rattle.kid_term.specs.PlainTerm.{term_row, node_count, node_counts}
use Rattle.kid_term.proofs.equality.+equal.Given as goal

abbrev pub decreases-same : goal.decreases-same
decreases-same l = 2 * node_count (plain_term l.a.now)

abbrev pub decreases-all_same : goal.decreases-all_same
decreases-all_same l = 2 * node_counts (term_row (map plain_term l.a.now)) + 1
