-- How much there is to evaluate: a call counts the body that it opens.
use Rattle.std.specs.Prelude.{ℕ, ◌+◌, List, [], ◌∷◌, cond, length}
use Rattle.kid_term.specs.PlainTerm.{PlainHead, op, call, cast, PlainTerm, var, number, truth, tag, app, bind, PlainTerms, no_term, term}
use Rattle.kid_term.specs.Names.{same_name, PlainDef}

abbrev pub Costs : Type 0
Costs = List (List ℕ × ℕ)

abbrev pub cost_at : List ℕ → Costs → ℕ
cost_at f [] = 0
cost_at f (c ∷ costs) = cond (same_name f c.0) c.1 (cost_at f costs) + 1

abbrev pub head_cost : Costs → PlainHead → ℕ
head_cost costs (op o) = 0
head_cost costs (call f) = cost_at f costs
head_cost costs (cast s) = 0

abbrev mutual
  pub cost : Costs → PlainTerm → ℕ
  cost costs (var x) = 1
  cost costs (number n) = 1
  cost costs (truth b) = 1
  cost costs (tag n) = 1
  cost costs (app h ts) = head_cost costs h + cost_all costs ts + 2
  cost costs (bind b x s t) = cost costs s + cost costs t + 1

  pub cost_all : Costs → PlainTerms → ℕ
  cost_all costs no_term = 0
  cost_all costs (term t ts) = cost costs t + cost_all costs ts + 1

abbrev pub costs_over : Costs → List PlainDef → Costs
costs_over costs [] = costs
costs_over costs (d ∷ ds) = costs_over ((d.name, cost costs d.body + length d.parameters) ∷ costs) ds

abbrev pub costs_of : List PlainDef → Costs
costs_of ds = costs_over [] ds
