use Rattle.std.proofs.Common.{◌≡◌, ◌≤◌, max, min, map, drop}
use Rattle.kid_term.specs.TermView.{plain_term}
use Rattle.kid_term.specs.PlainTerm.{term_row, depths}
use Rattle.kid_term.proofs.+depth.Given as goal

abbrev pub invariant-size::deepest-loop-t : goal.invariant-size::deepest-loop-t
invariant-size::deepest-loop-t l =
    (l.most ≤ 18446744073709551615)
    × (min (max l.most (depths (term_row (map plain_term (drop l.t-index l.terms))))) 18446744073709551615 ≡ min (depths (term_row (map plain_term l.terms))) 18446744073709551615)
