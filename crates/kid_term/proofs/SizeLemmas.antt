-- What is left to count at the end of a list.
use Rattle.std.proofs.Common.{◌≡◌, ℕ, ◌+◌, ◌≤◌, max, min, List, map, drop, length, ap, arith}
use Rattle.std.proofs.lemmas.List.{drop_all}
use Rattle.kid_term.specs.PlainTerm.{term_row, node_counts, depths}
use Rattle.kid_term.specs.TermView.{plain_term}
use Rattle.kid_term.specs.declared.Term.{Term}

pub all_counted : (ts : List Term) (i total : ℕ) → length ts ≤ i → total ≤ 18446744073709551615
    → min (total + node_counts (term_row (map plain_term (drop i ts)))) 18446744073709551615 ≡ min (node_counts (term_row (map plain_term ts))) 18446744073709551615
    → total ≡ min (node_counts (term_row (map plain_term ts))) 18446744073709551615
all_counted ts i total p q h =
    let e : node_counts (term_row (map plain_term (drop i ts))) ≡ 0 = ap (λ us. node_counts (term_row (map plain_term us))) (drop_all i ts p) in
    omega (arith, h, e)

pub all_measured : (ts : List Term) (i most : ℕ) → length ts ≤ i → most ≤ 18446744073709551615
    → min (max most (depths (term_row (map plain_term (drop i ts))))) 18446744073709551615 ≡ min (depths (term_row (map plain_term ts))) 18446744073709551615
    → most ≡ min (depths (term_row (map plain_term ts))) 18446744073709551615
all_measured ts i most p q h =
    let e : depths (term_row (map plain_term (drop i ts))) ≡ 0 = ap (λ us. depths (term_row (map plain_term us))) (drop_all i ts p) in
    omega (arith, h, e)
