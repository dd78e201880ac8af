-- The status of a call, and what licenses it.
use Rattle.std.specs.Prelude.{◌≡◌, ℕ, List, Option, Some, None, Result, Ok, Err, ◌⊎◌, ⊤}
use Rattle.kid_outer.specs.Causes.{Rose}
use Rattle.kid_outer.specs.Held.{Held}
use Rattle.kid_top.specs.declared.stop.Stop.{Stop}
use Rattle.kid_top.specs.Stops.{status_of}
use Rattle.kid_top.specs.Command.{Command, derive, command_of}
use Rattle.kid_top.specs.Outcome.{Work, work_status, work_of, outcome}
use Rattle.kid_top.specs.Risen.{Counts, WorkRose}

abbrev pub ending : Result Work Stop → ℕ
ending (Ok w) = work_status w
ending (Err e) = status_of e

-- where the store tells what it holds, the status is that of the outcome, or memory ran out, or something failed
abbrev pub EndsHeld : List (List ℕ) → Option Held → ℕ → Type 0
EndsHeld words None status = ⊤
EndsHeld words (Some files) status = (status ≡ ending (outcome words files)) ⊎ ((status ≡ 1) ⊎ (status ≡ 3))

-- the work of a command is there
abbrev pub HasWork : Command → Option Held → Type 0
HasWork command None = ⊤
HasWork command (Some files) = (w : Work) × (work_of command files ≡ Ok w)

-- what fails while the work is done: out, or the files that are saved
abbrev pub LateRose : Command → Counts → Counts → ℕ → ℕ → Type 0
LateRose (derive theory script derivation program) before now out_before out_now =
    Rose (before derivation) (now derivation) ⊎ Rose (before program) (now program)
LateRose command before now out_before out_now = Rose out_before out_now

-- what licenses a fault
abbrev pub CommandRose : Option Command → Option Held → Counts → Counts → ℕ → ℕ → Type 0
CommandRose None files before now out_before out_now = ⊥
CommandRose (Some command) files before now out_before out_now =
    WorkRose command files before now ⊎ (HasWork command files × LateRose command before now out_before out_now)

abbrev pub FaultRose : List (List ℕ) → Option Held → Counts → Counts → ℕ → ℕ → Type 0
FaultRose words files before now out_before out_now = CommandRose (command_of words) files before now out_before out_now
