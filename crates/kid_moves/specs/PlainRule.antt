-- Rules, lines and moves as plain data.
use Rattle.std.specs.Prelude.{ℕ, Bool, List}
use Rattle.kid_term.specs.PlainTerm.{PlainTerm}

-- an equation, an implication or a binder rule of a number, a law of a name, and the rules that look at definitions, values, facts and sorts
pub data PlainRule : Type 0 where
  by_equation : ℕ → PlainRule
  by_implication : ℕ → PlainRule
  by_binder : ℕ → PlainRule
  by_law : List ℕ → PlainRule
  by_unfolding : PlainRule
  by_folding : List ℕ → PlainRule
  by_computing : PlainRule
  by_fact : ℕ → PlainRule
  by_holding : PlainRule
  by_failing : PlainRule
  by_uncasting : PlainRule

-- the subterm at the path is rewritten by the rule, or back by it, with terms for what the subterm leaves open
pub record PlainLine : Type 0 where
  pub path : List ℕ
  pub back : Bool
  pub rule : PlainRule
  pub args : List PlainTerm

-- a part of the conjunction that a fact is, two facts as one, a fact again, what a rule concludes of terms, a fact after lines
pub data PlainMove : Type 0 where
  left_of : ℕ → PlainMove
  right_of : ℕ → PlainMove
  both_of : ℕ → ℕ → PlainMove
  again : ℕ → PlainMove
  concluded_by : PlainRule → List PlainTerm → PlainMove
  after_lines : ℕ → List PlainLine → PlainMove
