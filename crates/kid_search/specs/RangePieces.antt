-- The pieces of the search of an interval, and what holds of them.
use Rattle.std.specs.Prelude.{◌≡◌, ℕ, ℤ, pos, ◌+ℤ◌, ◌-ℤ◌, true, List, [], ◌∷◌, None}
use Rattle.kid_value.specs.InSort.{in_sort}
use Rattle.kid_value.specs.PlainSort.{ints}
use Rattle.kid_term.specs.PlainTerm.{cast, PlainTerm, var, number, truth, app, term_row}
use Rattle.kid_term.specs.Names.{Names}
use Rattle.kid_term.specs.Eval.{Env, Calls, eval}
use Rattle.kid_term.specs.declared.operator.LogicOp.TheVariants.{And, Eq}
use Rattle.kid_term.specs.declared.operator.NumberOp.TheVariants.{Le, Lt, Add, Sub, Div, Max}
use Rattle.kid_search.specs.Operators.{on_numbers, on_truths}
use Rattle.kid_search.specs.Pieces.{PlainPieces, AreLawful, lacks, are_apart}

abbrev pub range_components : ℤ → ℤ → List ℕ → List ℕ → Names
range_components lo hi l h = (l, ints lo (hi +ℤ pos 1)) ∷ (h, ints (lo -ℤ pos 1) hi) ∷ []

abbrev pub range_sat : List ℕ → List ℕ → List ℕ → List PlainTerm
range_sat l h z = on_numbers Le (var l ∷ var z ∷ []) ∷ on_numbers Le (var z ∷ var h ∷ []) ∷ []

abbrev pub range_goal_term : List ℕ → PlainTerm → PlainTerm → PlainTerm
range_goal_term z a b = on_truths And (on_numbers Le (a ∷ var z ∷ []) ∷ on_numbers Le (var z ∷ b ∷ []) ∷ [])

abbrev pub range_leaf_guard : List ℕ → List ℕ → PlainTerm
range_leaf_guard l h = on_truths Eq (var l ∷ var h ∷ [])

abbrev pub range_kid_guard : List ℕ → List ℕ → PlainTerm
range_kid_guard l h = on_numbers Lt (var l ∷ var h ∷ [])

abbrev pub range_leaf_term : ℤ → ℤ → List ℕ → PlainTerm
range_leaf_term lo hi l = app (cast (ints lo hi)) (term_row (var l ∷ []))

abbrev pub middle : List ℕ → List ℕ → PlainTerm
middle l h = on_numbers Div (on_numbers Add (var l ∷ var h ∷ []) ∷ number (pos 2) ∷ [])

abbrev pub after_middle : List ℕ → List ℕ → PlainTerm
after_middle l h = on_numbers Add (middle l h ∷ number (pos 1) ∷ [])

abbrev pub low_kid : List ℕ → List ℕ → List PlainTerm
low_kid l h = var l ∷ middle l h ∷ []

abbrev pub high_kid : List ℕ → List ℕ → List PlainTerm
high_kid l h = after_middle l h ∷ var h ∷ []

abbrev pub range_measure : List ℕ → List ℕ → PlainTerm
range_measure l h = on_numbers Max (number (pos 0) ∷ on_numbers Sub (var h ∷ var l ∷ []) ∷ [])

module _ (lo hi : ℤ) (l h z : List ℕ) (a b : PlainTerm) where
  -- numbers from a to b: a descriptor has the least and the greatest, and is split in the middle
  abbrev pub range_pieces : PlainPieces
  range_pieces = record {
    components = range_components lo hi l h;
    start = a ∷ b ∷ [];
    inv = truth true;
    sat = range_sat l h z;
    goal = range_goal_term z a b;
    leaf_guard = range_leaf_guard l h;
    leaf = range_leaf_term lo hi l;
    kid_guard = range_kid_guard l h;
    branch = None;
    kids = low_kid l h ∷ high_kid l h ∷ [];
    measure = range_measure l h;
  }

-- where the names differ and the output stands in neither bound, and both have values of the output's sort
abbrev pub RangeIsLawful : Type 0
RangeIsLawful =
    (lo hi : ℤ) (l h z : List ℕ) (a b : PlainTerm) (calls : Calls) (input : Env) → are_apart (z ∷ l ∷ h ∷ []) ≡ true → lacks a (z ∷ []) ≡ true → lacks b (z ∷ []) ≡ true
    → in_sort (ints lo hi) (eval calls input a) ≡ true → in_sort (ints lo hi) (eval calls input b) ≡ true
    → AreLawful calls input z (range_pieces lo hi l h z a b) (ints lo hi)
