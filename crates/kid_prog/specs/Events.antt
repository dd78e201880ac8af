-- What a program does at an input: the calls of its search procedure, and the values that it finds, in their order.
use Rattle.std.specs.Prelude.{ℕ, zero, suc, List, [], ◌∷◌, ◌++◌, if◌then◌else◌}
use Rattle.std.specs.List.{flat_map}
use Rattle.kid_value.specs.PlainValue.{PlainValue}
use Rattle.kid_value.specs.Rows.Parts.{truth_of, members_of}
use Rattle.kid_term.specs.PlainTerm.{term_row}
use Rattle.kid_term.specs.Eval.{Env, Calls, eval, evals, bound, calls_of}
use Rattle.kid_prog.specs.PlainStmt.{PlainStmts, no_stmt, stmt, assign, when, each, emit, call}
use Rattle.kid_prog.specs.PlainProgram.{PlainProgram}

-- a call of the search procedure is begun, or a value is found
pub data Event : Type 0 where
  called : Event
  found : PlainValue → Event

-- what a call does with these arguments
abbrev pub Procedure : Type 0
Procedure = List PlainValue → List Event

-- what statements do, in order, where the names have these values
abbrev pub events : Calls → Procedure → Env → PlainStmts → List Event
events defs search env no_stmt = []
events defs search env (stmt (assign x t) ss) = events defs search ((x, eval defs env t) ∷ env) ss
events defs search env (stmt (when t body) ss) =
    (if truth_of (eval defs env t) then events defs search env body else []) ++ events defs search env ss
events defs search env (stmt (each x t body) ss) =
    flat_map (λ v. events defs search ((x, v) ∷ env) body) (members_of (eval defs env t)) ++ events defs search env ss
events defs search env (stmt (emit t) ss) = found (eval defs env t) ∷ events defs search env ss
events defs search env (stmt (call ts) ss) = search (evals defs env (term_row ts)) ++ events defs search env ss

-- the names that the search procedure sees
abbrev pub search_env : PlainProgram → Env → List PlainValue → Env
search_env p x vs = bound p.parameters vs ++ x

-- what a call of the search procedure does at an input, where it and the calls in it are at most n deep; a deeper one is begun alone
abbrev pub procedure : PlainProgram → Env → ℕ → Procedure
procedure p x zero vs = called ∷ []
procedure p x (suc n) vs = called ∷ events (calls_of p.definitions) (procedure p x n) (search_env p x vs) p.search

-- what a program does at an input, where calls lie at most n deep and it goes on whatever it found
abbrev pub program_events : PlainProgram → Env → ℕ → List Event
program_events p x n = events (calls_of p.definitions) (procedure p x n) x p.main
