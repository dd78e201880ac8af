use Rattle.std.proofs.Common.{◌+◌, ◌*◌, map}
use Rattle.kid_term.specs.TermView.{plain_term}
use Rattle.kid_term.specs.PlainTerm.{term_row, node_count, node_counts}
use Rattle.kid_laws.proofs.matching.+walk.Given as goal

abbrev pub decreases-walk : goal.decreases-walk
decreases-walk l = 2 * node_count (plain_term l.pattern.now)

abbrev pub decreases-walk_all : goal.decreases-walk_all
decreases-walk_all l = 2 * node_counts (term_row (map plain_term l.patterns.now)) + 1
