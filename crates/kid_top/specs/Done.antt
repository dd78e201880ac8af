-- What was done where the work was: what the files said, what was put, and what was saved.
use Rattle.std.specs.Prelude.{◌≡◌, ℕ, List, ◌++◌, Option, Some, None, Result, Ok, option_map, if◌then◌else◌, ⊤}
use Rattle.std.specs.List.{list_all}
use Rattle.kid_outer.specs.Held.{Held}
use Rattle.kid_term.specs.Eval.{Env}
use Rattle.kid_term.specs.PlainTheory.{PlainTheory}
use Rattle.kid_prog.specs.ProgramText.{program_text}
use Rattle.kid_prog.specs.PlainProgram.{PlainProgram}
use Rattle.kid_top.specs.declared.stop.Stop.{Stop}
use Rattle.kid_top.specs.Derivation.{derivation_text}
use Rattle.kid_top.specs.Command.{Command, derive, solve}
use Rattle.kid_top.specs.Outcome.{Work, saves, work_status, work_text, theory_stage, inputs_stage, script_program, run_work, solve_work, derive_work, outcome}
use Rattle.kid_top.specs.Printed.{is_answered, Texts, Implements}

-- The work is that of the words and files, the status is its, and its text was put, and nothing else.
pub record Does (o : Result Work Stop) (status : ℕ) (old new : Option (List ℕ)) : Type 0 where
  pub work : Work
  pub comes : o ≡ Ok work
  pub status_is : status ≡ work_status work
  pub printed : new ≡ option_map (λ w. w ++ work_text work) old

-- where the store tells what it holds
abbrev pub DoesHeld : List (List ℕ) → Option Held → ℕ → Option (List ℕ) → Option (List ℕ) → Type 0
DoesHeld words None status old new = ⊤
DoesHeld words (Some files) status old new = Does (outcome words files) status old new

-- The theory and the inputs are those of the files, and what was put is a text of the answers for each input, and nothing else. The status
-- tells whether the fuel was enough for each.
pub record Solved (files : Held) (theory script inputs : List ℕ) (fuel status : ℕ) (old new : Option (List ℕ)) : Type 0 where
  pub of_theory : PlainTheory
  pub theory_read : theory_stage 1 (files theory) ≡ Ok of_theory
  pub program : PlainProgram
  pub derived : script_program of_theory (files script) ≡ Ok program
  pub of_inputs : List Env
  pub inputs_read : inputs_stage 3 of_theory.spec.inputs (files inputs) ≡ Ok of_inputs
  pub text : List ℕ
  pub answers : Texts of_theory program fuel of_inputs text
  pub printed : new ≡ option_map (λ w. w ++ text) old
  pub status_is : status ≡ (if list_all (is_answered of_theory fuel) of_inputs then 0 else 4)

abbrev pub SolvesHeld : Option Command → Option Held → ℕ → Option (List ℕ) → Option (List ℕ) → Type 0
SolvesHeld (Some (solve theory script inputs fuel)) (Some files) status old new = Solved files theory script inputs fuel status old new
SolvesHeld command files status old new = ⊤

-- The two names hold the texts of the derivation and of a program that solves the theory.
pub record Derived (files after : Held) (theory script derivation program : List ℕ) : Type 0 where
  pub of_theory : PlainTheory
  pub theory_read : theory_stage 1 (files theory) ≡ Ok of_theory
  pub of_program : PlainProgram
  pub derived : script_program of_theory (files script) ≡ Ok of_program
  pub implements : Implements of_theory of_program
  pub derivation_saved : after derivation ≡ Some (derivation_text of_program)
  pub program_saved : after program ≡ Some (program_text of_program)

abbrev pub DerivesHeld : Option Command → Option Held → Option Held → Type 0
DerivesHeld (Some (derive theory script derivation program)) (Some files) (Some after) = Derived files after theory script derivation program
DerivesHeld command files after = ⊤

-- a run of a program that was derived does what solving the theory does
abbrev pub RunsAlike : Type 0
RunsAlike =
    (files : Held) (theory script inputs derivation program bytes text : List ℕ) (fuel : ℕ) (w : Work)
    → derive_work files theory script derivation program ≡ Ok (saves derivation program bytes text) → files program ≡ Some text
    → solve_work files theory script inputs fuel ≡ Ok w → run_work files program inputs fuel ≡ Ok w
