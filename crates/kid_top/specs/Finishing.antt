-- What doing the work comes to.
use Rattle.std.specs.Prelude.{◌≡◌, ℕ, Bool, true, false, List, [], ◌∷◌, ◌++◌, Option, option_map, if◌then◌else◌, ◌⊎◌}
use Rattle.kid_outer.specs.Causes.{Rose}
use Rattle.kid_outer.specs.Held.{Held}
use Rattle.kid_outer.specs.Written.{AppendsPrefix}
use Rattle.kid_run.specs.declared.report.Outcome.{Outcome}
use Rattle.kid_run.specs.declared.report.Outcome.TheVariants.{Done, Fuel, Outside}
use Rattle.kid_run.specs.declared.report.RunEntry.{RunEntry}
use Rattle.kid_top.specs.Outcome.{Work, runs, saves, work_status, work_text}
use Rattle.kid_top.specs.Risen.{Counts}
use Rattle.kid_top.specs.Saves.{SavesBoth, SavesInOrder, NoneRose, SavesFront}

abbrev pub ran_out : Outcome → Bool
ran_out Done = false
ran_out Fuel = true
ran_out Outside = false

-- 4 where the fuel ran out for a run
abbrev pub report_status : List RunEntry → ℕ
report_status [] = 0
report_status (e ∷ es) = if ran_out e.outcome then 4 else report_status es

-- what the work changes of what is held
abbrev pub WorkSaves : Work → Option Held → Option Held → Type 0
WorkSaves (runs p xs fuel) old new = new ≡ old
WorkSaves (saves derivation program bytes text) old new = SavesBoth derivation program bytes text old new

-- The work was done.
pub record Finishes (w : Work) (status : ℕ) (old new : Option (List ℕ)) (files after : Option Held) : Type 0 where
  pub status_is : status ≡ work_status w
  pub printed : new ≡ option_map (λ text. text ++ work_text w) old
  pub saved : WorkSaves w files after

-- what licenses a failure
abbrev pub FinishRose : Work → Counts → Counts → ℕ → ℕ → Type 0
FinishRose (runs p xs fuel) before now out_before out_now = Rose out_before out_now
FinishRose (saves derivation program bytes text) before now out_before out_now = Rose (before derivation) (now derivation) ⊎ Rose (before program) (now program)

-- a front of the work's text was put
abbrev pub FinishFront : Work → Option (List ℕ) → Option (List ℕ) → Type 0
FinishFront w old new = AppendsPrefix (work_text w) old new

-- what is held, also where the work stopped
abbrev pub FinishKeeps : Work → Option Held → Option Held → Type 0
FinishKeeps (runs p xs fuel) files after = after ≡ files
FinishKeeps (saves derivation program bytes text) files after = SavesInOrder derivation program bytes files after

-- what is saved where no call on the two names failed
abbrev pub FinishWhole : Work → Counts → Counts → Option Held → Option Held → Type 0
FinishWhole (runs p xs fuel) before now files after = after ≡ files
FinishWhole (saves derivation program bytes text) before now files after =
    NoneRose derivation program before now → SavesFront derivation program bytes text files after
