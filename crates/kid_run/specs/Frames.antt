-- A run as a machine: what is left to do, and what one step does of it.
use Rattle.std.specs.Prelude.{ℕ, Bool, true, false, List, [], ◌∷◌, ◌++◌, length, nat_le, cond, if◌then◌else◌}
use Rattle.std.specs.List.{flat_map}
use Rattle.kid_value.specs.PlainValue.{PlainValue}
use Rattle.kid_value.specs.Rows.Parts.{truth_of, members_of}
use Rattle.kid_term.specs.PlainTerm.{term_row}
use Rattle.kid_term.specs.Eval.{Env, Calls, eval, evals}
use Rattle.kid_prog.specs.PlainStmt.{PlainStmt, assign, when, each, emit, call, PlainStmts, no_stmt, stmt}
use Rattle.kid_prog.specs.PlainProgram.{PlainProgram}
use Rattle.kid_prog.specs.Events.{Event, Procedure, events, search_env}

-- what waits until the statements above it are done
pub data PlainFrame : Type 0 where
  -- statements, at so many names of the environment
  rest : ℕ → PlainStmts → PlainFrame
  -- statements for each of the values, which the name has, at so many names of the environment
  over : ℕ → List ℕ → List PlainValue → PlainStmts → PlainFrame
  -- the environment of the caller, for what waits below
  caller : Env → PlainFrame

-- the environment and the statements that are done next, and what waits, the first to be done first
pub record PlainMachine : Type 0 where
  pub env : Env
  pub stmts : PlainStmts
  pub frames : List PlainFrame

-- what a step comes to
pub data Move : Type 0 where
  goes : PlainMachine → Move
  finds : PlainValue → PlainMachine → Move
  calls : List PlainValue → PlainMachine → Move
  ends : Move

abbrev pub machine : Env → PlainStmts → List PlainFrame → PlainMachine
machine env ss fs = record { env = env; stmts = ss; frames = fs }

-- the outermost names, so many of them
abbrev pub kept : ℕ → Env → Env
kept n [] = []
kept n (e ∷ env) = cond (nat_le n (length env)) (kept n env) (e ∷ env)

-- statements wait, unless there are none
abbrev pub keeping : ℕ → PlainStmts → List PlainFrame → List PlainFrame
keeping n no_stmt fs = fs
keeping n (stmt s ss) fs = rest n (stmt s ss) ∷ fs

-- values wait, unless there are none
abbrev pub overs : ℕ → List ℕ → List PlainValue → PlainStmts → List PlainFrame → List PlainFrame
overs n x [] ss fs = fs
overs n x (v ∷ vs) ss fs = over n x (v ∷ vs) ss ∷ fs

-- the next of the values, and those after it wait
abbrev pub next_of : ℕ → List ℕ → List PlainValue → PlainStmts → PlainMachine → Move
next_of n x [] ss m = goes m
next_of n x (v ∷ vs) ss m = goes (machine ((x, v) ∷ m.env) ss (overs n x vs ss m.frames))

-- where there are no statements: what waits
abbrev pub below : Env → List PlainFrame → Move
below env [] = ends
below env (rest n ss ∷ fs) = goes (machine (kept n env) ss fs)
below env (over n x vs ss ∷ fs) = next_of n x vs ss (machine (kept n env) no_stmt fs)
below env (caller e ∷ fs) = goes (machine e no_stmt fs)

-- a statement before others
abbrev pub first : Calls → PlainStmt → PlainMachine → Move
first defs (assign x t) m = goes (machine ((x, eval defs m.env t) ∷ m.env) m.stmts m.frames)
first defs (when t body) m = goes (if truth_of (eval defs m.env t) then machine m.env body (keeping (length m.env) m.stmts m.frames) else m)
first defs (each x t body) m = goes (machine m.env no_stmt (overs (length m.env) x (members_of (eval defs m.env t)) body (keeping (length m.env) m.stmts m.frames)))
first defs (emit t) m = finds (eval defs m.env t) m
first defs (call ts) m = calls (evals defs m.env (term_row ts)) m

abbrev pub step_at : Calls → Env → PlainStmts → List PlainFrame → Move
step_at defs env no_stmt fs = below env fs
step_at defs env (stmt s ss) fs = first defs s (machine env ss fs)

abbrev pub step : Calls → PlainMachine → Move
step defs m = step_at defs m.env m.stmts m.frames

-- whether something of the same call waits first
abbrev pub waits : List PlainFrame → Bool
waits [] = false
waits (rest n ss ∷ fs) = true
waits (over n x vs ss ∷ fs) = true
waits (caller e ∷ fs) = false

-- the caller's environment waits, unless nothing of the caller does
abbrev pub waiting : Env → List PlainFrame → List PlainFrame
waiting env fs = if waits fs then caller env ∷ fs else fs

-- a call of the search procedure is begun
abbrev pub entered : PlainProgram → Env → List PlainValue → PlainMachine → PlainMachine
entered p x vs m = machine (search_env p x vs) p.search (waiting m.env (keeping (length m.env) m.stmts m.frames))

-- what is still done by what waits
abbrev pub frames_do : Calls → Procedure → Env → List PlainFrame → List Event
frames_do defs search env [] = []
frames_do defs search env (rest n ss ∷ fs) = events defs search (kept n env) ss ++ frames_do defs search (kept n env) fs
frames_do defs search env (over n x vs ss ∷ fs) =
    flat_map (λ v. events defs search ((x, v) ∷ kept n env) ss) vs ++ frames_do defs search (kept n env) fs
frames_do defs search env (caller e ∷ fs) = frames_do defs search e fs

-- what is still done
abbrev pub doing : Calls → Procedure → PlainMachine → List Event
doing defs search m = events defs search m.env m.stmts ++ frames_do defs search m.env m.frames
