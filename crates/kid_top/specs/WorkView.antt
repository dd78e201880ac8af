-- The work of a call, as contracts see it.
use Rattle.std.specs.Prelude.{◌≡◌, ◌≢◌, ⊤}
use Rattle.kid_prog.specs.ProgramView.{plain_program}
use Rattle.kid_prog.specs.Rules.{IsRunnable}
use Rattle.kid_run.specs.InputReading.{envs_of, AllFit}
use Rattle.kid_top.specs.declared.work.Work.{Work as Given}
use Rattle.kid_top.specs.declared.work.Work.TheVariants.{Run, Save}
use Rattle.kid_top.specs.Command.{Command, derive, run, solve}
use Rattle.kid_top.specs.Outcome.{Work, runs, saves}

abbrev pub plain_work : Given → Work
plain_work (Run program inputs fuel) = runs (plain_program program) (envs_of (plain_program program).inputs inputs) fuel
plain_work (Save derivation program derivation_bytes program_bytes) = saves derivation.now program.now derivation_bytes.items program_bytes.items

-- what is run can be run, and two names that are saved differ
abbrev pub IsReady : Given → Type 0
IsReady (Run program inputs fuel) = IsRunnable (plain_program program) × AllFit (plain_program program).inputs inputs
IsReady (Save derivation program derivation_bytes program_bytes) = derivation.now ≢ program.now

-- the work is of the kind that the command asks for
abbrev pub Suits : Command → Work → Type 0
Suits (derive theory script derivation program) (saves d p bytes text) = (d ≡ derivation) × (p ≡ program)
Suits (derive theory script derivation program) (runs p xs fuel) = ⊥
Suits (run program inputs fuel) (runs p xs n) = ⊤
Suits (run program inputs fuel) (saves d p bytes text) = ⊥
Suits (solve theory script inputs fuel) (runs p xs n) = ⊤
Suits (solve theory script inputs fuel) (saves d p bytes text) = ⊥
