-- The formats of program files. Enum sorts and tags stand in those of the second alone.
use Rattle.std.specs.Prelude.{ℕ, Bool, true, not, if◌then◌else◌}
use Rattle.kid_prog.specs.declared.format.Format.{Format}
use Rattle.kid_prog.specs.declared.format.Format.TheVariants.{One, Two}

-- the number that a file names
abbrev pub format_number : Format → ℕ
format_number One = 1
format_number Two = 2

-- whether what has tags, or has none, may stand there
abbrev pub may_stand : Format → Bool → Bool
may_stand One has_tags = not has_tags
may_stand Two has_tags = true

-- the first in which it may stand
abbrev pub format_for : Bool → Format
format_for has_tags = if has_tags then Two else One
