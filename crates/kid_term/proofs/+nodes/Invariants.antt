use Rattle.std.proofs.Common.{◌≡◌, ◌+◌, ◌≤◌, min, map, drop}
use Rattle.kid_term.specs.TermView.{plain_term}
use Rattle.kid_term.specs.PlainTerm.{term_row, node_counts}
use Rattle.kid_term.proofs.+nodes.Given as goal

abbrev pub invariant-size::all_nodes-loop-t : goal.invariant-size::all_nodes-loop-t
invariant-size::all_nodes-loop-t l =
    (l.total ≤ 18446744073709551615)
    × (min (l.total + node_counts (term_row (map plain_term (drop l.t-index l.terms)))) 18446744073709551615 ≡ min (node_counts (term_row (map plain_term l.terms))) 18446744073709551615)
