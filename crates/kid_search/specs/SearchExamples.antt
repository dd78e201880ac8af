-- Small searches: the numbers from one input to another, with a filter, with cuts, and as far as one value is wanted.
use Rattle.std.specs.Prelude.{◌≡◌, ℕ, ℤ, pos, true, List, [], ◌∷◌, Option, Some, None}
use Rattle.kid_value.specs.PlainSort.{ints}
use Rattle.kid_value.specs.PlainValue.{PlainValue, int}
use Rattle.kid_term.specs.Eval.{Env}
use Rattle.kid_term.specs.PlainSpec.{PlainSpec}
use Rattle.kid_term.specs.PlainTerm.{PlainTerm, var, number, truth}
use Rattle.kid_term.specs.declared.operator.NumberOp.TheVariants.{Le}
use Rattle.kid_search.specs.Operators.{on_numbers}
use Rattle.kid_search.specs.RangePieces.{range_pieces}
use Rattle.kid_search.specs.PlainPlan.{PlainCut, PlainPlan}
use Rattle.kid_search.specs.PlanSearch.{plan_search, plan_visits, plan_answers, plan_count}
use Rattle.kid_search.specs.declared.cut_kind.CutKind.TheVariants.{Low, High}

-- names of one letter: a and b for the inputs, l and h for the components, z for the output
abbrev letter : ℕ → List ℕ
letter n = n ∷ []

abbrev spec_of : Option ℕ → PlainSpec
spec_of first = record {
  inputs = (letter 97, ints (pos 0) (pos 9)) ∷ (letter 98, ints (pos 0) (pos 9)) ∷ [];
  condition = truth true;
  output = letter 122;
  sort = ints (pos 0) (pos 9);
  relation = truth true;
  first = first;
}

abbrev plan_of : PlainTerm → PlainTerm → List PlainCut → List PlainTerm → PlainPlan
plan_of a b cuts filters = record {
  pieces = range_pieces (pos 0) (pos 9) (letter 108) (letter 104) (letter 122) a b;
  cuts = cuts;
  filters = filters;
  start_test = truth true;
  leaf_test = truth true;
  kid_tests = truth true ∷ truth true ∷ [];
  calls = [];
  parameters = [];
}

abbrev from_to : ℤ → ℤ → Env
from_to a b = (letter 97, int a) ∷ (letter 98, int b) ∷ []

-- a descriptor, and the values of a list
abbrev at : ℤ → ℤ → List PlainValue
at l h = int l ∷ int h ∷ []

abbrev plain_plan : PlainPlan
plain_plan = plan_of (var (letter 97)) (var (letter 98)) [] []

abbrev filtered_plan : PlainPlan
filtered_plan = plan_of (var (letter 97)) (var (letter 98)) [] (on_numbers Le (var (letter 108) ∷ number (pos 4) ∷ []) ∷ [])

abbrev cut_plan : PlainPlan
cut_plan = plan_of (number (pos 0)) (number (pos 9)) (record { kind = Low; term = var (letter 97) } ∷ record { kind = High; term = var (letter 98) } ∷ []) []

-- five visits find three numbers; three of them find the first; a filter prunes one visit; cuts lead to the same start, and empty one
pub record SearchExamples : Type 0 where
  pub finds : plan_search [] (from_to (pos 3) (pos 5)) (spec_of None) plain_plan ≡ int (pos 3) ∷ int (pos 4) ∷ int (pos 5) ∷ []
  pub visits : plan_visits [] (from_to (pos 3) (pos 5)) (spec_of None) plain_plan ≡ at (pos 3) (pos 5) ∷ at (pos 3) (pos 4) ∷ at (pos 3) (pos 3) ∷ at (pos 4) (pos 4) ∷ at (pos 5) (pos 5) ∷ []
  pub count : plan_count [] (from_to (pos 3) (pos 5)) (spec_of None) plain_plan ≡ 5
  pub none : plan_search [] (from_to (pos 7) (pos 3)) (spec_of None) plain_plan ≡ []
  pub one_visit : plan_count [] (from_to (pos 7) (pos 3)) (spec_of None) plain_plan ≡ 1
  pub first : plan_answers [] (from_to (pos 3) (pos 5)) (spec_of (Some 1)) plain_plan ≡ int (pos 3) ∷ []
  pub first_count : plan_count [] (from_to (pos 3) (pos 5)) (spec_of (Some 1)) plain_plan ≡ 3
  pub filtered : plan_search [] (from_to (pos 3) (pos 5)) (spec_of None) filtered_plan ≡ int (pos 3) ∷ int (pos 4) ∷ []
  pub filtered_count : plan_count [] (from_to (pos 3) (pos 5)) (spec_of None) filtered_plan ≡ 4
  pub cut : plan_visits [] (from_to (pos 3) (pos 4)) (spec_of None) cut_plan ≡ at (pos 3) (pos 4) ∷ at (pos 3) (pos 3) ∷ at (pos 4) (pos 4) ∷ []
  pub emptied : plan_visits [] (from_to (pos 7) (pos 3)) (spec_of None) cut_plan ≡ at (pos 7) (pos 6) ∷ []
