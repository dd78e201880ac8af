-- The cuts of subsets lose nothing.
use Rattle.std.specs.Prelude.{◌≡◌, ℕ, true, false, List, [], ◌∷◌, map}
use Rattle.kid_value.specs.InSort.{in_sort}
use Rattle.kid_value.specs.Least.{least_value}
use Rattle.kid_value.specs.PlainSort.{PlainSort, sets}
use Rattle.kid_term.specs.Eval.{Env, Calls, eval}
use Rattle.kid_term.specs.PlainTerm.{PlainTerm}
use Rattle.kid_term.specs.Substitution.{mentions}
use Rattle.kid_search.specs.CutBy.{has_cut}
use Rattle.kid_search.specs.Pieces.{space_of, at_descriptor, are_apart}
use Rattle.kid_search.specs.RangeCuts.{cut_at, fact_at, is_good_in}
use Rattle.kid_search.specs.Space.{Descriptor}
use Rattle.kid_search.specs.SpaceLaws.{IsCut}
use Rattle.kid_search.specs.declared.cut_kind.CutKind.{CutKind}
use Rattle.kid_subsets.specs.SubsetsPieces.{subsets_components, subsets_pieces}

-- at each good descriptor, by a term whose value there is a set and in which the output does not stand
abbrev pub SubsetsCutsLoseNothing : Type 0
SubsetsCutsLoseNothing =
    (a : PlainSort) (least : PlainTerm) (u w z : List ℕ) (s : PlainTerm) (calls : Calls) (input : Env) → ((env : Env) → eval calls env least ≡ least_value a)
    → are_apart (z ∷ u ∷ w ∷ []) ≡ true → (kind : CutKind) → has_cut kind (map (λ n. n.1) (subsets_components a u w)) ≡ true → (c : PlainTerm) → mentions z c ≡ false
    → (b : PlainSort) (d : Descriptor) → is_good_in calls input z (subsets_pieces a least u w z s) d ≡ true
    → in_sort (sets b) (eval calls (at_descriptor calls input z (subsets_pieces a least u w z s) d) c) ≡ true
    → IsCut (space_of calls input z (subsets_pieces a least u w z s)) (in_sort (sets a)) (fact_at calls input z (subsets_pieces a least u w z s) kind c d) d
    (cut_at calls input z (subsets_pieces a least u w z s) kind c d)
