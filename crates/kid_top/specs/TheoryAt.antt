-- A theory at an input.
use Rattle.std.specs.Prelude.{ℤ, Bool}
use Rattle.kid_value.specs.PlainValue.{int}
use Rattle.kid_value.specs.Rows.Parts.{truth_of}
use Rattle.kid_term.specs.Answer.{relates}
use Rattle.kid_term.specs.Eval.{Env, Calls, eval, calls_of}
use Rattle.kid_term.specs.PlainTheory.{PlainTheory}

-- the calls of the theory's definitions
abbrev pub theory_calls : PlainTheory → Calls
theory_calls t = calls_of t.signature.definitions

-- whether an input meets the input condition
abbrev pub is_inside : PlainTheory → Env → Bool
is_inside t x = truth_of (eval (theory_calls t) x t.spec.condition)

-- whether the relation is true at the input and this integer
abbrev pub relates_at : PlainTheory → Env → ℤ → Bool
relates_at t x z = relates (theory_calls t) t.spec x (int z)
