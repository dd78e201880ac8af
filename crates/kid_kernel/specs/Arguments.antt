-- Rules that are wanted forth and without arguments.
use Rattle.std.specs.Prelude.{Bool, true, false, List, []}
use Rattle.kid_term.specs.PlainTerm.{PlainTerm}

abbrev pub is_forth_alone : Bool → List PlainTerm → Bool
is_forth_alone false [] = true
is_forth_alone back args = false
