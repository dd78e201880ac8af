-- The pieces of the search of subsets, and what holds of them.
use Rattle.std.specs.Prelude.{◌≡◌, ℕ, true, List, [], ◌∷◌, None}
use Rattle.kid_value.specs.InSort.{in_sort}
use Rattle.kid_value.specs.Least.{least_value}
use Rattle.kid_value.specs.PlainSort.{PlainSort, sets}
use Rattle.kid_term.specs.Names.{Names}
use Rattle.kid_term.specs.PlainTerm.{PlainTerm, var}
use Rattle.kid_term.specs.Eval.{Env, Calls, eval}
use Rattle.kid_term.specs.declared.operator.LogicOp.TheVariants.{Not, Eq}
use Rattle.kid_term.specs.declared.operator.SetOp.TheVariants.{Set, Subset, Union, With, Inter, Without, Card, Least}
use Rattle.kid_search.specs.Operators.{on_sets, on_truths}
use Rattle.kid_search.specs.Pieces.{PlainPieces, AreLawful, lacks, are_apart}

abbrev pub no_open : List ℕ → PlainTerm
no_open w = on_truths Eq (var w ∷ on_sets Set [] ∷ [])

-- the least open member, where `least` is a term with the least value of the members' sort
abbrev pub chosen : PlainTerm → List ℕ → PlainTerm
chosen least w = on_sets Least (var w ∷ least ∷ [])

abbrev pub fewer_open : PlainTerm → List ℕ → PlainTerm
fewer_open least w = on_sets Without (chosen least w ∷ var w ∷ [])

abbrev pub subsets_components : PlainSort → List ℕ → List ℕ → Names
subsets_components a u w = (u, sets a) ∷ (w, sets a) ∷ []

abbrev pub subsets_inv : List ℕ → List ℕ → PlainTerm
subsets_inv u w = on_truths Eq (on_sets Inter (var u ∷ var w ∷ []) ∷ on_sets Set [] ∷ [])

abbrev pub subsets_sat : List ℕ → List ℕ → List ℕ → List PlainTerm
subsets_sat u w z = on_sets Subset (var u ∷ var z ∷ []) ∷ on_sets Subset (var z ∷ on_sets Union (var u ∷ var w ∷ []) ∷ []) ∷ []

abbrev pub subsets_goal_term : List ℕ → PlainTerm → PlainTerm
subsets_goal_term z s = on_sets Subset (var z ∷ s ∷ [])

abbrev pub kid_without : PlainTerm → List ℕ → List ℕ → List PlainTerm
kid_without least u w = var u ∷ fewer_open least w ∷ []

abbrev pub kid_with : PlainTerm → List ℕ → List ℕ → List PlainTerm
kid_with least u w = on_sets With (chosen least w ∷ var u ∷ []) ∷ fewer_open least w ∷ []

module _ (a : PlainSort) (least : PlainTerm) (u w z : List ℕ) (s : PlainTerm) where
  -- subsets of s: a descriptor has the members that are taken, and those that are still open; the least open one is left out or taken
  abbrev pub subsets_pieces : PlainPieces
  subsets_pieces = record {
    components = subsets_components a u w;
    start = on_sets Set [] ∷ s ∷ [];
    inv = subsets_inv u w;
    sat = subsets_sat u w z;
    goal = subsets_goal_term z s;
    leaf_guard = no_open w;
    leaf = var u;
    kid_guard = on_truths Not (no_open w ∷ []);
    branch = None;
    kids = kid_without least u w ∷ kid_with least u w ∷ [];
    measure = on_sets Card (var w ∷ []);
  }

-- where the names differ, the output does not stand in the set, and this has a value of the output's sort
abbrev pub SubsetsAreLawful : Type 0
SubsetsAreLawful =
    (a : PlainSort) (least : PlainTerm) (u w z : List ℕ) (s : PlainTerm) (calls : Calls) (input : Env) → ((env : Env) → eval calls env least ≡ least_value a)
    → are_apart (z ∷ u ∷ w ∷ []) ≡ true → lacks s (z ∷ []) ≡ true → in_sort (sets a) (eval calls input s) ≡ true
    → AreLawful calls input z (subsets_pieces a least u w z s) (sets a)
