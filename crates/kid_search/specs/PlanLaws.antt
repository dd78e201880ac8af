-- Lawful plans, and the theorem that the search of one finds just the answers.
use Rattle.std.specs.Prelude.{◌≡◌, true, []}
use Rattle.kid_value.specs.PlainValue.{PlainValue}
use Rattle.kid_term.specs.Answer.{AllAnswers, Answer}
use Rattle.kid_term.specs.Eval.{Env, Calls, calls_of}
use Rattle.kid_term.specs.Good.{Good}
use Rattle.kid_term.specs.PlainSpec.{PlainSpec}
use Rattle.kid_term.specs.PlainTheory.{PlainTheory}
use Rattle.kid_search.specs.Pieces.{AreLawful, is_goal, start_of}
use Rattle.kid_search.specs.SearchLaws.{is_feasible}
use Rattle.kid_search.specs.PlainPlan.{PlainPlan}
use Rattle.kid_search.specs.PlanSearch.{plan_search, plan_answers}
use Rattle.kid_search.specs.Owed.{EachOf, is_under, FilterIsNecessary, CutLosesNothing}

-- the pieces keep the laws of a search theory, every feasible value is under the start, and cuts and filters lose none
pub record IsLawfulPlan (calls : Calls) (x : Env) (spec : PlainSpec) (plan : PlainPlan) : Type 0 where
  pub pieces : AreLawful calls x spec.output plan.pieces spec.sort
  pub complete : (v : PlainValue) → is_feasible calls spec x v ≡ true → is_under calls x spec plan (start_of calls x spec.output plan.pieces) v ≡ true
  pub cuts : EachOf (CutLosesNothing calls x spec plan) plan.cuts
  pub filters : EachOf (FilterIsNecessary calls x spec plan) plan.filters

-- the goal of a match: every feasible value makes it true
abbrev pub GoalHolds : Calls → Env → PlainSpec → PlainPlan → Type 0
GoalHolds calls x spec plan = (v : PlainValue) → is_feasible calls spec x v ≡ true → is_goal calls x spec.output plan.pieces v ≡ true

-- a plan without cuts and filters owes its pieces and its goal alone
abbrev pub MatchedIsLawful : Type 0
MatchedIsLawful =
    (calls : Calls) (x : Env) (spec : PlainSpec) (plan : PlainPlan) → AreLawful calls x spec.output plan.pieces spec.sort → GoalHolds calls x spec plan
    → plan.cuts ≡ [] → plan.filters ≡ [] → IsLawfulPlan calls x spec plan

-- the search of a lawful plan finds all answers, each once and in ascending order
abbrev pub PlansFindAll : Type 0
PlansFindAll = (calls : Calls) (x : Env) (spec : PlainSpec) (plan : PlainPlan) → IsLawfulPlan calls x spec plan → AllAnswers calls spec x (plan_search calls x spec plan)

-- and as far as values are wanted, as many of the first
abbrev pub PlansFindFirst : Type 0
PlansFindFirst = (calls : Calls) (x : Env) (spec : PlainSpec) (plan : PlainPlan) → IsLawfulPlan calls x spec plan → Answer calls spec x (plan_answers calls x spec plan)

-- a plan that is lawful at each good input of a theory
abbrev pub IsDesigned : PlainTheory → PlainPlan → Type 0
IsDesigned t plan = (x : Env) → Good t x → IsLawfulPlan (calls_of t.signature.definitions) x t.spec plan

-- at each good input its search is the answer
abbrev pub DesignsAnswer : Type 0
DesignsAnswer =
    (t : PlainTheory) (plan : PlainPlan) → IsDesigned t plan → (x : Env) → Good t x
    → AllAnswers (calls_of t.signature.definitions) t.spec x (plan_search (calls_of t.signature.definitions) x t.spec plan)
