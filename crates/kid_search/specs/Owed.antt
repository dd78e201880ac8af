-- What each later step of a design owes, at an input, for the plan that it changes: a filter, a cut, a simplified test, a parameter.
use Rattle.std.specs.Prelude.{◌≡◌, Bool, true, List, [], ◌∷◌, ◌++◌, map, Option, Some, None}
use Rattle.kid_value.specs.InSort.{in_sort}
use Rattle.kid_value.specs.PlainValue.{PlainValue}
use Rattle.kid_value.specs.Rows.Parts.{members_of}
use Rattle.kid_value.specs.ValueSet.{is_member}
use Rattle.kid_term.specs.Answer.{relates}
use Rattle.kid_term.specs.Eval.{Env, Calls, bound, eval}
use Rattle.kid_term.specs.Names.{Names}
use Rattle.kid_term.specs.PlainSpec.{PlainSpec}
use Rattle.kid_term.specs.PlainTerm.{PlainTerm}
use Rattle.kid_search.specs.Space.{Descriptor}
use Rattle.kid_search.specs.SpaceLaws.{IsCut}
use Rattle.kid_search.specs.SearchLaws.{is_feasible}
use Rattle.kid_search.specs.Pieces.{PlainBranch, at_descriptor, start_of, true_in, values_in}
use Rattle.kid_search.specs.PlainPlan.{PlainCut, PlainPlan}
use Rattle.kid_search.specs.CutBy.{cut_fact}
use Rattle.kid_search.specs.PlanSearch.{plan_space, plan_pruning, plan_visits, cut_once}

-- of each in the list
abbrev pub EachOf : {A : Type 0} → (A → Type 0) → List A → Type 0
EachOf holds [] = Unit {0}
EachOf holds (a ∷ rest) = holds a × EachOf holds rest

-- the first of each list, where there is one, and what stands behind it
abbrev pub heads : List (List PlainTerm) → List PlainTerm
heads [] = []
heads ([] ∷ tss) = heads tss
heads ((t ∷ ts) ∷ tss) = t ∷ heads tss

abbrev pub tails : List (List PlainTerm) → List (List PlainTerm)
tails [] = []
tails ([] ∷ tss) = tails tss
tails ((t ∷ ts) ∷ tss) = ts ∷ tails tss

-- the names that the search procedure sees beside the inputs
abbrev pub parameter_names : PlainPlan → Names
parameter_names p = p.pieces.components ++ map (λ q. (q.name, q.sort)) p.parameters

module _ (calls : Calls) (x : Env) (spec : PlainSpec) (plan : PlainPlan) where
  -- the components over the input
  abbrev pub env_at : Descriptor → Env
  env_at d = at_descriptor calls x spec.output plan.pieces d

  abbrev pub is_good_at : Descriptor → Bool
  is_good_at d = let s = plan_space calls x spec plan in s.is_good d

  abbrev pub is_under : Descriptor → PlainValue → Bool
  is_under d v = let s = plan_space calls x spec plan in s.satisfies d v

  -- a filter owes that it is true wherever a feasible value is under the descriptor
  abbrev pub FilterIsNecessary : PlainTerm → Type 0
  FilterIsNecessary f =
      (d : Descriptor) (v : PlainValue) → is_good_at d ≡ true → is_feasible calls spec x v ≡ true → is_under d v ≡ true → true_in calls (env_at d) f ≡ true

  -- whether the fact that a cut takes is true of a value at a descriptor
  abbrev pub is_shown : PlainCut → Descriptor → PlainValue → Bool
  is_shown c d v = true_in calls ((spec.output, v) ∷ env_at d) (cut_fact c.kind plan.pieces.components spec.output c.term)

  -- a cut owes that it loses only values of which its fact is false, and that this fact is true of every feasible value under the descriptor
  pub record CutLosesNothing (c : PlainCut) : Type 0 where
    pub cuts : (d : Descriptor) → is_good_at d ≡ true → IsCut (plan_space calls x spec plan) (in_sort spec.sort) (is_shown c d) d (cut_once calls x spec plan c d)
    pub shown : (d : Descriptor) (v : PlainValue) → is_good_at d ≡ true → is_feasible calls spec x v ≡ true → is_under d v ≡ true → is_shown c d v ≡ true

  -- the values of the parameters' expressions at a descriptor, and what the search procedure sees there
  abbrev pub kept_at : Descriptor → List PlainValue
  kept_at d = map (λ q. eval calls (env_at d) q.expression) plan.parameters

  abbrev pub seen_at : Descriptor → Env
  seen_at d = bound (parameter_names plan) (d ++ kept_at d) ++ x

  -- without a branch, and with one for each member of the pool: of the components alone, and of all that is seen
  abbrev pub InBranch : Option PlainBranch → (Env → Env → Type 0) → Env → Env → Type 0
  InBranch None holds plain seen = holds plain seen
  InBranch (Some b) holds plain seen =
      (v : PlainValue) → is_member v (members_of (eval calls plain b.pool)) ≡ true → holds ((b.name, v) ∷ plain) ((b.name, v) ∷ seen)

  -- where the kid guard is true
  abbrev pub AtKids : (Env → Env → Type 0) → Descriptor → Type 0
  AtKids holds d = true_in calls (env_at d) plan.pieces.kid_guard ≡ true → InBranch plan.pieces.branch holds (env_at d) (seen_at d)

  abbrev pub cut_of : Descriptor → Descriptor
  cut_of d = let p = plan_pruning calls x spec plan in p.cut d

  abbrev pub passes_at : Descriptor → Bool
  passes_at d = let p = plan_pruning calls x spec plan in p.passes d

  abbrev pub cut_kid : Env → List PlainTerm → Descriptor
  cut_kid plain k = cut_of (values_in calls plain k)

  abbrev pub cut_start : Descriptor
  cut_start = cut_of (start_of calls x spec.output plan.pieces)

  -- the leaf's test says of the leaf whether it is an answer, wherever the test is taken
  abbrev pub LeafTestIsEqual : Descriptor → Type 0
  LeafTestIsEqual d =
      true_in calls (env_at d) plan.pieces.leaf_guard ≡ true → true_in calls (seen_at d) plan.leaf_test ≡ relates calls spec x (eval calls (env_at d) plan.pieces.leaf)

  -- the tests of the kids say whether the cut kids pass
  abbrev pub KidTestsAreEqual : Env → Env → Type 0
  KidTestsAreEqual plain seen = map (true_in calls seen) plan.kid_tests ≡ map (λ k. passes_at (cut_kid plain k)) plan.pieces.kids

  -- a simplified test owes that it has the value of the plain one wherever it is taken
  pub record TestsAreEqual : Type 0 where
    pub start : true_in calls x plan.start_test ≡ passes_at cut_start
    pub leaf : EachOf LeafTestIsEqual (plan_visits calls x spec plan)
    pub kids : EachOf (AtKids KidTestsAreEqual) (plan_visits calls x spec plan)

  -- the arguments of the calls are the cut kids
  abbrev pub CallsAreCut : Env → Env → Type 0
  CallsAreCut plain seen = map (values_in calls seen) plan.calls ≡ map (cut_kid plain) plan.pieces.kids

  -- the terms of each kid for the parameters have the values of the expressions there, where the kid is visited
  abbrev pub KidsKeep : Env → Env → List (List PlainTerm) → List (List PlainTerm) → Type 0
  KidsKeep plain seen [] kept = Unit {0}
  KidsKeep plain seen (k ∷ ks) kept =
      (passes_at (cut_kid plain k) ≡ true → values_in calls seen (heads kept) ≡ kept_at (cut_kid plain k)) × KidsKeep plain seen ks (tails kept)

  abbrev pub KidsKept : Env → Env → Type 0
  KidsKept plain seen = KidsKeep plain seen plan.pieces.kids (map (λ q. q.kids) plan.parameters)

  -- the terms of the pieces have their values beside the parameters too
  pub record PiecesRead (d : Descriptor) : Type 0 where
    pub leaf_guard : eval calls (seen_at d) plan.pieces.leaf_guard ≡ eval calls (env_at d) plan.pieces.leaf_guard
    pub leaf : eval calls (seen_at d) plan.pieces.leaf ≡ eval calls (env_at d) plan.pieces.leaf
    pub kid_guard : eval calls (seen_at d) plan.pieces.kid_guard ≡ eval calls (env_at d) plan.pieces.kid_guard
    pub pool : (b : PlainBranch) → plan.pieces.branch ≡ Some b → eval calls (seen_at d) b.pool ≡ eval calls (env_at d) b.pool

  -- a parameter owes that it has the value of its expression at each visit, and that the calls go on to the cut kids
  pub record ParametersAreKept : Type 0 where
    pub start : passes_at cut_start ≡ true → values_in calls x (map (λ q. q.start) plan.parameters) ≡ kept_at cut_start
    pub kids : EachOf (AtKids KidsKept) (plan_visits calls x spec plan)
    pub calls_on : EachOf (AtKids CallsAreCut) (plan_visits calls x spec plan)
    pub pieces : EachOf PiecesRead (plan_visits calls x spec plan)
