-- Which counts of faults may have risen where the work of a command is not come to: those of the files that the order of reading came to. A store that tells nothing may have come to each.
use Rattle.std.specs.Prelude.{◌≡◌, ℕ, List, Option, Some, None, Ok, ◌⊎◌}
use Rattle.kid_outer.specs.Causes.{Rose}
use Rattle.kid_outer.specs.Held.{Held}
use Rattle.kid_term.specs.PlainTheory.{PlainTheory}
use Rattle.kid_prog.specs.PlainProgram.{PlainProgram}
use Rattle.kid_top.specs.Command.{Command, derive, run, solve}
use Rattle.kid_top.specs.Outcome.{theory_stage, program_stage, script_program}

-- counts of faults of names, before a call and after it
abbrev pub Counts : Type 0
Counts = List ℕ → ℕ

-- the program's file, and the inputs' once the program is read
abbrev pub RunRose : Option Held → Counts → Counts → List ℕ → List ℕ → Type 0
RunRose None before now program inputs = Rose (before program) (now program) ⊎ Rose (before inputs) (now inputs)
RunRose (Some files) before now program inputs =
    Rose (before program) (now program) ⊎ ((p : PlainProgram) × (program_stage 1 (files program) ≡ Ok p) × Rose (before inputs) (now inputs))

-- the script's file, and the inputs' once it gives a program for the theory
abbrev pub TheoryRose : Option Held → Counts → Counts → PlainTheory → List ℕ → List ℕ → Type 0
TheoryRose None before now t script inputs = Rose (before script) (now script) ⊎ Rose (before inputs) (now inputs)
TheoryRose (Some files) before now t script inputs =
    Rose (before script) (now script) ⊎ ((p : PlainProgram) × (script_program t (files script) ≡ Ok p) × Rose (before inputs) (now inputs))

-- the theory's file, and the others once it is read
abbrev pub SolveRose : Option Held → Counts → Counts → List ℕ → List ℕ → List ℕ → Type 0
SolveRose None before now theory script inputs =
    Rose (before theory) (now theory) ⊎ (Rose (before script) (now script) ⊎ Rose (before inputs) (now inputs))
SolveRose (Some files) before now theory script inputs =
    Rose (before theory) (now theory)
    ⊎ ((t : PlainTheory) × (theory_stage 1 (files theory) ≡ Ok t) × TheoryRose (Some files) before now t script inputs)

abbrev pub DeriveRose : Option Held → Counts → Counts → List ℕ → List ℕ → Type 0
DeriveRose None before now theory script = Rose (before theory) (now theory) ⊎ Rose (before script) (now script)
DeriveRose (Some files) before now theory script =
    Rose (before theory) (now theory) ⊎ ((t : PlainTheory) × (theory_stage 1 (files theory) ≡ Ok t) × Rose (before script) (now script))

abbrev pub WorkRose : Command → Option Held → Counts → Counts → Type 0
WorkRose (derive theory script derivation program) files before now = DeriveRose files before now theory script
WorkRose (run program inputs fuel) files before now = RunRose files before now program inputs
WorkRose (solve theory script inputs fuel) files before now = SolveRose files before now theory script inputs
