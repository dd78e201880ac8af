-- A law of runs.
use Rattle.std.specs.Prelude.{◌≡◌, ℕ, ◌≤◌, true}
use Rattle.kid_term.specs.Eval.{Env}
use Rattle.kid_prog.specs.PlainProgram.{PlainProgram}
use Rattle.kid_prog.specs.Running.{run_of}

-- a run that came to its end is the same with more fuel
abbrev pub WholeRunsStay : Type 0
WholeRunsStay = (p : PlainProgram) (x : Env) (n m : ℕ) → n ≤ m → (run_of p x n).whole ≡ true → run_of p x m ≡ run_of p x n
