-- The names that are seen, and the facts that may be taken, at each place of a plan where a proof begins.
use Rattle.std.specs.Prelude.{nat_le, Bool, true, ◌&&◌, List, [], ◌∷◌, ◌++◌, Option, Some, None, length}
use Rattle.kid_term.specs.Names.{Names}
use Rattle.kid_term.specs.PlainSpec.{PlainSpec}
use Rattle.kid_term.specs.PlainTerm.{PlainTerm, var}
use Rattle.kid_term.specs.declared.operator.LogicOp.TheVariants.{Eq}
use Rattle.kid_term.specs.declared.operator.SetOp.TheVariants.{In}
use Rattle.kid_search.specs.Operators.{on_truths, on_sets}
use Rattle.kid_search.specs.Pieces.{PlainBranch}
use Rattle.kid_search.specs.PlainPlan.{PlainParameter, PlainPlan}
use Rattle.kid_search.specs.declared.spot.Spot.{Spot}
use Rattle.kid_search.specs.declared.spot.Spot.TheVariants.{Feasible, Start, Kid, Leaf}

abbrev pub branch_names : Option PlainBranch → Names
branch_names None = []
branch_names (Some b) = (b.name, b.sort) ∷ []

-- the name of the branch has a value in the pool
abbrev pub pool_facts : Option PlainBranch → List PlainTerm
pool_facts None = []
pool_facts (Some b) = on_sets In (var b.name ∷ b.pool ∷ []) ∷ []

abbrev pub kept_names : List PlainParameter → Names
kept_names [] = []
kept_names (q ∷ qs) = (q.name, q.sort) ∷ kept_names qs

-- each parameter has the value of its expression
abbrev pub kept_facts : List PlainParameter → List PlainTerm
kept_facts [] = []
kept_facts (q ∷ qs) = on_truths Eq (var q.name ∷ q.expression ∷ []) ∷ kept_facts qs

-- at a feasible value the inputs, the components and the output; at the start the inputs; at a kid and at the leaf what the search
-- procedure sees, at a kid with the name of the branch
abbrev pub context_names : PlainPlan → PlainSpec → Spot → Names
context_names plan spec Feasible = (spec.inputs ++ plan.pieces.components) ++ (spec.output, spec.sort) ∷ []
context_names plan spec Start = spec.inputs
context_names plan spec (Kid k) = ((spec.inputs ++ plan.pieces.components) ++ branch_names plan.pieces.branch) ++ kept_names plan.parameters
context_names plan spec Leaf = (spec.inputs ++ plan.pieces.components) ++ kept_names plan.parameters

-- at a feasible value the condition on the inputs, the invariant, the conditions that the value satisfies the descriptor, and the relation;
-- at the start the condition on the inputs; at a kid and at the leaf this condition, the invariant, the guard, at a kid that the branch is
-- in the pool, the filters, and that each parameter has the value of its expression
abbrev pub context_facts : PlainPlan → PlainSpec → Spot → List PlainTerm
context_facts plan spec Feasible = ((spec.condition ∷ plan.pieces.inv ∷ []) ++ plan.pieces.sat) ++ spec.relation ∷ []
context_facts plan spec Start = spec.condition ∷ []
context_facts plan spec (Kid k) = (((spec.condition ∷ plan.pieces.inv ∷ plan.pieces.kid_guard ∷ []) ++ pool_facts plan.pieces.branch) ++ plan.filters) ++ kept_facts plan.parameters
context_facts plan spec Leaf = ((spec.condition ∷ plan.pieces.inv ∷ plan.pieces.leaf_guard ∷ []) ++ plan.filters) ++ kept_facts plan.parameters

-- a kid that is asked for is there; kids are counted from 1
abbrev pub has_spot : PlainPlan → Spot → Bool
has_spot plan (Kid k) = nat_le 1 k && nat_le k (length plan.pieces.kids)
has_spot plan spot = true
