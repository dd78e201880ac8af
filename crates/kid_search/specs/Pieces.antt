-- The pieces of a search theory as terms, and the space that their values make at an input.
use Rattle.std.specs.Prelude.{ℕ, pos, Bool, true, ◌&&◌, not, cond, List, [], ◌∷◌, ◌++◌, Option, Some, None, map}
use Rattle.std.specs.List.{flat_map}
use Rattle.std.specs.Int.{int_gap}
use Rattle.kid_value.specs.PlainSort.{PlainSort}
use Rattle.kid_value.specs.PlainValue.{PlainValue}
use Rattle.kid_value.specs.InSort.{in_sort}
use Rattle.kid_value.specs.Rows.Parts.{truth_of, number_of, members_of}
use Rattle.kid_term.specs.PlainTerm.{PlainTerm}
use Rattle.kid_term.specs.Names.{Names, same_name}
use Rattle.kid_term.specs.Substitution.{mentions}
use Rattle.kid_term.specs.Eval.{Env, Calls, bound, eval}
use Rattle.kid_search.specs.Space.{Descriptor, Space, fit, all_true}
use Rattle.kid_search.specs.SpaceLaws.{IsLawful, IsJustOne, Starts}

-- kids for each member of a pool, under a name
pub record PlainBranch : Type 0 where
  pub name : List ℕ
  pub sort : PlainSort
  pub pool : PlainTerm

-- The terms of a search theory for one problem, over the inputs and the components. The goal, which the terms of `sat` at the start follow
-- from, and these terms themselves see the output too; kids see the name of the branch.
pub record PlainPieces : Type 0 where
  pub components : Names
  pub start : List PlainTerm
  pub inv : PlainTerm
  pub sat : List PlainTerm
  pub goal : PlainTerm
  pub leaf_guard : PlainTerm
  pub leaf : PlainTerm
  pub kid_guard : PlainTerm
  pub branch : Option PlainBranch
  pub kids : List (List PlainTerm)
  pub measure : PlainTerm

module _ (calls : Calls) where
  abbrev pub values_in : Env → List PlainTerm → List PlainValue
  values_in env ts = map (eval calls env) ts

  abbrev pub true_in : Env → PlainTerm → Bool
  true_in env t = truth_of (eval calls env t)

  -- the environments of the kids: one without a branch, and else one for each member of the pool
  abbrev pub branches : Option PlainBranch → Env → List Env
  branches None env = env ∷ []
  branches (Some b) env = map (λ v. (b.name, v) ∷ env) (members_of (eval calls env b.pool))

  module _ (input : Env) (z : List ℕ) (p : PlainPieces) where
    -- the components over the input
    abbrev pub at_descriptor : Descriptor → Env
    at_descriptor d = bound p.components d ++ input

    -- the search space at an input, where z is the name of the output
    abbrev pub space_of : Space
    space_of = record {
      is_good = λ d. fit (map (λ c. c.1) p.components) d && true_in (at_descriptor d) p.inv;
      satisfies = λ d v. all_true (values_in ((z, v) ∷ at_descriptor d) p.sat);
      leaf = λ d. cond (true_in (at_descriptor d) p.leaf_guard) (Some (eval calls (at_descriptor d) p.leaf)) None;
      kids = λ d. cond (true_in (at_descriptor d) p.kid_guard) (flat_map (λ env. map (values_in env) p.kids) (branches p.branch (at_descriptor d))) [];
      rank = λ d. int_gap (pos 0) (number_of (eval calls (at_descriptor d) p.measure));
    }

    abbrev pub start_of : Descriptor
    start_of = values_in input p.start

    abbrev pub is_goal : PlainValue → Bool
    is_goal v = true_in ((z, v) ∷ input) p.goal

    -- what each search theory owes of its pieces, for values of the output's sort
    pub record AreLawful (sort : PlainSort) : Type 0 where
      pub lawful : IsLawful space_of (in_sort sort)
      pub just_one : IsJustOne space_of (in_sort sort)
      pub starts : Starts space_of (in_sort sort) is_goal start_of

-- none of the names stands in the term
abbrev pub lacks : PlainTerm → List (List ℕ) → Bool
lacks t [] = true
lacks t (x ∷ xs) = not (mentions x t) && lacks t xs

-- none of the names is the first
abbrev pub is_apart : List ℕ → List (List ℕ) → Bool
is_apart x [] = true
is_apart x (y ∷ ys) = not (same_name y x) && is_apart x ys

-- the names differ
abbrev pub are_apart : List (List ℕ) → Bool
are_apart [] = true
are_apart (x ∷ xs) = is_apart x xs && are_apart xs
