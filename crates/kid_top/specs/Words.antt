-- What a command of the program stands for, and which commands can be run.
use Rattle.std.specs.Prelude.{◌≢◌, ⊤}
use Rattle.kid_top.specs.declared.words.Command.{Command as Given}
use Rattle.kid_top.specs.declared.words.Command.TheVariants.{Derive, Run, Solve}
use Rattle.kid_top.specs.Command.{Command, derive, run, solve}

abbrev pub plain_command : Given → Command
plain_command (Derive theory script derivation program) = derive theory.now script.now derivation.now program.now
plain_command (Run program inputs fuel) = run program.now inputs.now fuel
plain_command (Solve theory script inputs fuel) = solve theory.now script.now inputs.now fuel

-- the names of two files that are saved differ
abbrev pub IsUsable : Command → Type 0
IsUsable (derive theory script derivation program) = derivation ≢ program
IsUsable command = ⊤
