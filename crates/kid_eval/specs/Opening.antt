-- Which definition a call opens.
use Rattle.std.specs.Prelude.{◌≡◌, ℕ, ◌<◌, false, List}
use Rattle.kid_value.specs.PlainValue.{PlainValue, bool}
use Rattle.kid_term.specs.Names.{PlainDef}
use Rattle.kid_term.specs.Eval.{calls_of, call_at, def_value}
use Rattle.kid_term.specs.Small.{checks_of, check_at, def_small}
use Rattle.kid_term.specs.Cost.{cost, cost_at, costs_of}

-- a call has the value false
abbrev pub IsUndefined : List ℕ → List PlainDef → Type 0
IsUndefined f all = (vs : List PlainValue) → call_at f (calls_of all) vs ≡ bool false

-- a call is of the definition, over those that stand before it, and costs more than its body
pub record Opens (f : List ℕ) (all : List PlainDef) (d : PlainDef) (earlier : List PlainDef) : Type 0 where
  pub value : (vs : List PlainValue) → call_at f (calls_of all) vs ≡ def_value (calls_of earlier) d vs
  pub small : (vs : List PlainValue) → check_at f (checks_of all) vs ≡ def_small (calls_of earlier) (checks_of earlier) d vs
  pub cheaper : cost (costs_of earlier) d.body < cost_at f (costs_of all)
