-- What the search of subsets answers.
use Rattle.std.specs.Prelude.{ℕ, true, cond, List, [], ◌∷◌, Err, Result}
use Rattle.kid_value.specs.Least.{least_value}
use Rattle.kid_value.specs.PlainSort.{PlainSort, sets}
use Rattle.kid_value.specs.SortOrder.{is_subsort}
use Rattle.kid_term.specs.Names.{Names}
use Rattle.kid_term.specs.PlainTerm.{PlainTerm}
use Rattle.kid_term.specs.Quote.{quote}
use Rattle.kid_term.specs.declared.why.Why.{Why}
use Rattle.kid_term.specs.declared.why.Why.TheVariants.{Outside, IllSorted}
use Rattle.kid_search.specs.Judged.{judged}
use Rattle.kid_search.specs.Pieces.{PlainPieces}
use Rattle.kid_search.specs.TheoryLaws.{Answering}
use Rattle.kid_subsets.specs.SubsetsPieces.{subsets_pieces}

-- The components have the output's sort, which is allowed. What the search procedure takes is never refused for its sorts: it is made of these
-- sets and the least value of their members, whose sorts join to the output's unless that holds the sort without values.
abbrev pub subsets_within : PlainSort → List ℕ → List ℕ × PlainSort → List ℕ → PlainTerm → Result PlainPieces Why
subsets_within a z u w s = cond (is_subsort u.1 (sets a)) (judged true (subsets_pieces a (quote (least_value a)) u.0 w z s)) (Err IllSorted)

-- two names and one term, which stands beside the first, for an output that is a set
abbrev pub subsets_of_one : PlainSort → List ℕ → Names → List PlainTerm → Result PlainPieces Why
subsets_of_one a z (u ∷ w ∷ []) (s ∷ []) = subsets_within a z u w.0 s
subsets_of_one a z names ts = Err Outside

abbrev pub subsets_answer : Answering
subsets_answer (sets a) z names ts = subsets_of_one a z names ts
subsets_answer r z names ts = Err Outside
