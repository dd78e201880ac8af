-- A machine whose statements obey the rules, and whose values have their sorts.
use Rattle.std.specs.Prelude.{◌≡◌, ℕ, ◌≤◌, true, false, List, [], ◌∷◌, length, ⊤}
use Rattle.kid_value.specs.PlainValue.{PlainValue}
use Rattle.kid_value.specs.PlainSort.{PlainSort}
use Rattle.kid_value.specs.SortLimits.{is_allowed}
use Rattle.kid_term.specs.Names.{Names, is_named}
use Rattle.kid_term.specs.Eval.{Env, bound}
use Rattle.kid_term.specs.Fitting.{IsOfSort, Fits, AreAllowed}
use Rattle.kid_prog.specs.PlainStmt.{PlainStmts}
use Rattle.kid_prog.specs.PlainProgram.{PlainProgram}
use Rattle.kid_sorting.specs.Declaring.{with_name}
use Rattle.kid_prog.specs.Rules.{Setting, setting_of, obey}
use Rattle.kid_run.specs.Frames.{PlainFrame, rest, over, caller, PlainMachine, kept}

-- the statements obey the rules where some names are in scope, of which each has a value of its sort
pub record CanRun (g : Setting) (env : Env) (ss : PlainStmts) : Type 0 where
  pub names : Names
  pub allowed : AreAllowed names
  pub fits : Fits names env
  pub obeys : obey g names ss ≡ true

abbrev pub AllOfSort : PlainSort → List PlainValue → Type 0
AllOfSort a [] = ⊤
AllOfSort a (v ∷ vs) = IsOfSort a v × AllOfSort a vs

-- so do statements for each of these values, which a new name has
pub record CanRunOver (g : Setting) (env : Env) (x : List ℕ) (vs : List PlainValue) (ss : PlainStmts) : Type 0 where
  pub names : Names
  pub allowed : AreAllowed names
  pub fits : Fits names env
  pub sort : PlainSort
  pub sort_allowed : is_allowed sort ≡ true
  pub is_new : is_named x names ≡ false
  pub of_sort : AllOfSort sort vs
  pub obeys : obey g (with_name names x sort) ss ≡ true

abbrev pub FramesCanRun : Setting → Env → List PlainFrame → Type 0
FramesCanRun g env [] = ⊤
FramesCanRun g env (rest n ss ∷ fs) = (n ≤ length env) × CanRun g (kept n env) ss × FramesCanRun g (kept n env) fs
FramesCanRun g env (over n x vs ss ∷ fs) = (n ≤ length env) × CanRunOver g (kept n env) x vs ss × FramesCanRun g (kept n env) fs
FramesCanRun g env (caller e ∷ fs) = FramesCanRun g e fs

abbrev pub MachineCanRun : PlainProgram → PlainMachine → Type 0
MachineCanRun p m = CanRun (setting_of p) m.env m.stmts × FramesCanRun (setting_of p) m.env m.frames

-- there are as many values as parameters, each of its parameter's sort
abbrev pub AreArguments : PlainProgram → List PlainValue → Type 0
AreArguments p vs = (length vs ≡ length p.parameters) × Fits p.parameters (bound p.parameters vs)
