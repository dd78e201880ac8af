-- The values of a program's terms in a scope, and whether they stay small.
use Rattle.std.specs.Prelude.{ℕ, Bool, List, ◌∷◌, map}
use Rattle.kid_value.specs.PlainValue.{PlainValue}
use Rattle.kid_term.specs.PlainTerm.{op, app, term_row}
use Rattle.kid_term.specs.TermView.{plain_term}
use Rattle.kid_term.specs.Names.{PlainDef}
use Rattle.kid_term.specs.Eval.{eval, evals, calls_of}
use Rattle.kid_term.specs.Small.{stays_small, all_stay_small, checks_of}
use Rattle.kid_term.specs.declared.Term.{Term}
use Rattle.kid_term.specs.declared.operator.Op.{Op}
use Rattle.kid_eval.specs.declared.scope.Scope.{Scope}
use Rattle.kid_eval.specs.ScopeView.{env_of}

abbrev pub value_in : List PlainDef → Scope → Term → PlainValue
value_in defs scope t = eval (calls_of defs) (env_of scope) (plain_term t)

abbrev pub values_in : List PlainDef → Scope → List Term → List PlainValue
values_in defs scope ts = evals (calls_of defs) (env_of scope) (term_row (map plain_term ts))

-- the value where the name has one more value
abbrev pub value_with : List PlainDef → Scope → List ℕ → Term → PlainValue → PlainValue
value_with defs scope x t v = eval (calls_of defs) ((x, v) ∷ env_of scope) (plain_term t)

abbrev pub small_in : List PlainDef → Scope → Term → Bool
small_in defs scope t = stays_small (calls_of defs) (checks_of defs) (env_of scope) (plain_term t)

abbrev pub all_small_in : List PlainDef → Scope → List Term → Bool
all_small_in defs scope ts = all_stay_small (calls_of defs) (checks_of defs) (env_of scope) (term_row (map plain_term ts))

abbrev pub small_with : List PlainDef → Scope → List ℕ → Term → PlainValue → Bool
small_with defs scope x t v = stays_small (calls_of defs) (checks_of defs) ((x, v) ∷ env_of scope) (plain_term t)

-- an operator at the terms
abbrev pub op_small_in : List PlainDef → Scope → Op → List Term → Bool
op_small_in defs scope o ts =
    stays_small (calls_of defs) (checks_of defs) (env_of scope) (app (op o) (term_row (map plain_term ts)))
