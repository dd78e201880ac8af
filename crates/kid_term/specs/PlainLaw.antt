-- A law or an axiom as plain data.
use Rattle.std.specs.Prelude.{ℕ, List}
use Rattle.kid_term.specs.PlainTerm.{PlainTerm}
use Rattle.kid_term.specs.Names.{Names}

-- two terms have the same value, or a term is true
pub data PlainConclusion : Type 0 where
  equal : PlainTerm → PlainTerm → PlainConclusion
  holds : PlainTerm → PlainConclusion

pub record PlainLaw : Type 0 where
  pub name : List ℕ
  pub variables : Names
  pub conditions : List PlainTerm
  pub conclusion : PlainConclusion
