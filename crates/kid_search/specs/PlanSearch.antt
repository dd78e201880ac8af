-- The search of a plan at an input: what it does, what it finds, which descriptors it visits and how many.
use Rattle.std.specs.Prelude.{ℕ, List, [], ◌∷◌, map, length}
use Rattle.std.specs.List.{list_all}
use Rattle.kid_value.specs.PlainSort.{PlainSort}
use Rattle.kid_value.specs.PlainValue.{PlainValue}
use Rattle.kid_term.specs.Answer.{relates}
use Rattle.kid_term.specs.Eval.{Env, Calls, eval}
use Rattle.kid_term.specs.PlainSpec.{PlainSpec}
use Rattle.kid_search.specs.Space.{Descriptor, Space}
use Rattle.kid_search.specs.Searching.{Pruning, Event, values_of, visits_of, upto_value, search}
use Rattle.kid_search.specs.Pieces.{space_of, start_of, at_descriptor, true_in}
use Rattle.kid_search.specs.PlainPlan.{PlainCut, PlainPlan}
use Rattle.kid_search.specs.CutBy.{cut_by}

module _ (calls : Calls) (x : Env) (spec : PlainSpec) (plan : PlainPlan) where
  abbrev pub plan_space : Space
  plan_space = space_of calls x spec.output plan.pieces

  abbrev pub component_sorts : List PlainSort
  component_sorts = map (λ c. c.1) plan.pieces.components

  -- one cut, by the value of its term at the descriptor
  abbrev pub cut_once : PlainCut → Descriptor → Descriptor
  cut_once c d = cut_by c.kind component_sorts (eval calls (at_descriptor calls x spec.output plan.pieces d) c.term) d

  -- cuts in their order, each at what the one before it made
  abbrev pub cut_all : List PlainCut → Descriptor → Descriptor
  cut_all [] d = d
  cut_all (c ∷ cs) d = cut_all cs (cut_once c d)

  -- all cuts, and then every filter
  abbrev pub plan_pruning : Pruning
  plan_pruning = record {
    cut = cut_all plan.cuts;
    passes = λ d. list_all (true_in calls (at_descriptor calls x spec.output plan.pieces d)) plan.filters;
  }

  -- the visits that are begun and the values that are found, in their order
  abbrev pub plan_events : List Event
  plan_events = search plan_space (relates calls spec x) plan_pruning (start_of calls x spec.output plan.pieces)

  -- as far as values are wanted
  abbrev pub wanted_events : List Event
  wanted_events = upto_value spec.first plan_events

  -- the values that the whole search finds, and the descriptors that it visits
  abbrev pub plan_search : List PlainValue
  plan_search = values_of plan_events

  abbrev pub plan_visits : List Descriptor
  plan_visits = visits_of plan_events

  -- the values that are found as far as they are wanted, and how many visits this takes
  abbrev pub plan_answers : List PlainValue
  plan_answers = values_of wanted_events

  abbrev pub plan_count : ℕ
  plan_count = length (visits_of wanted_events)
