-- What a search theory answers for an output, names and terms, and the laws that it keeps.
use Rattle.std.specs.Prelude.{◌≡◌, ℕ, Bool, true, false, List, [], ◌∷◌, Option, Some, None, Result, Ok, map}
use Rattle.kid_value.specs.InSort.{in_sort}
use Rattle.kid_value.specs.PlainSort.{PlainSort}
use Rattle.kid_term.specs.Eval.{Env, Calls, eval}
use Rattle.kid_term.specs.Names.{Names}
use Rattle.kid_term.specs.PlainTerm.{PlainTerm}
use Rattle.kid_term.specs.declared.why.Why.{Why}
use Rattle.kid_search.specs.Pieces.{PlainBranch, PlainPieces, AreLawful, lacks, are_apart}

-- the pieces for the output's sort and name, the names of a step with the sorts of its terms, and these terms; or why there are none
abbrev pub Answering : Type 0
Answering = PlainSort → List ℕ → Names → List PlainTerm → Result PlainPieces Why

-- one kid for each member of a pool, or two kids
abbrev pub has_kids : Option PlainBranch → List (List PlainTerm) → Bool
has_kids (Some b) (k ∷ []) = true
has_kids None (k ∷ l ∷ []) = true
has_kids branch ks = false

-- the names of a step
abbrev pub step_names : Names → List (List ℕ)
step_names ns = map (λ n. n.0) ns

module _ (calls : Calls) (x : Env) (z : List ℕ) (names : Names) where
  -- each term has a value of the sort beside its name, and none of the step's names and the output's stands in it
  abbrev pub AreGiven : Names → List PlainTerm → Type 0
  AreGiven ns [] = Unit {0}
  AreGiven [] (t ∷ ts) = Unit {0}
  AreGiven (n ∷ ns) (t ∷ ts) = (in_sort n.1 (eval calls x t) ≡ true) × (lacks t (z ∷ step_names names) ≡ true) × AreGiven ns ts

-- Whatever pieces there are, at each input where the terms have their values they make a lawful search space with one kid and a branch or
-- with two kids and none, whose start holds each value of which the goal is true.
abbrev pub IsSearchTheory : Answering → Type 0
IsSearchTheory answers =
    (sort : PlainSort) (z : List ℕ) (names : Names) (ts : List PlainTerm) (p : PlainPieces) → answers sort z names ts ≡ Ok p → are_apart (z ∷ step_names names) ≡ true
    → (has_kids p.branch p.kids ≡ true) × ((calls : Calls) (x : Env) → AreGiven calls x z names names ts → AreLawful calls x z p sort)
