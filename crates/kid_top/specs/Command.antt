-- The commands, and the words that fit them.
use Rattle.std.specs.Prelude.{ℕ, ℤ, pos, negsuc, ◌&&◌, nat_le, List, [], ◌∷◌, Option, Some, None, if◌then◌else◌, codes, option_map}
use Rattle.std.specs.Str.{bytes_eq}
use Rattle.kid_codec.specs.Number.{number_of}

-- each name is a word
pub data Command : Type 0 where
  derive : (theory script derivation program : List ℕ) → Command
  run : (program inputs : List ℕ) → (fuel : ℕ) → Command
  solve : (theory script inputs : List ℕ) → (fuel : ℕ) → Command

abbrev pub given_fuel : ℕ
given_fuel = 1000000

-- a number from 1 to 1000000000000
abbrev pub fuel_from : Option ℤ → Option ℕ
fuel_from None = None
fuel_from (Some (negsuc n)) = None
fuel_from (Some (pos n)) = if nat_le 1 n && nat_le n 1000000000000 then Some n else None

abbrev pub fuel_of : List ℕ → List ℕ → Option ℕ
fuel_of flag number = if bytes_eq flag (codes "--fuel") then fuel_from (number_of number) else None

abbrev pub derive_words : List ℕ → List ℕ → List ℕ → List ℕ → Option Command
derive_words theory script derivation program = if bytes_eq derivation program then None else Some (derive theory script derivation program)

-- what a first word makes of so many words after it
abbrev pub command_of_two : List ℕ → List ℕ → List ℕ → Option Command
command_of_two word a b = if bytes_eq word (codes "run") then Some (run a b given_fuel) else None

abbrev pub command_of_three : List ℕ → List ℕ → List ℕ → List ℕ → Option Command
command_of_three word a b c = if bytes_eq word (codes "solve") then Some (solve a b c given_fuel) else None

abbrev pub command_of_four : List ℕ → List ℕ → List ℕ → List ℕ → List ℕ → Option Command
command_of_four word a b c d =
    if bytes_eq word (codes "derive") then derive_words a b c d
    else (if bytes_eq word (codes "run") then option_map (run a b) (fuel_of c d) else None)

abbrev pub command_of_five : List ℕ → List ℕ → List ℕ → List ℕ → List ℕ → List ℕ → Option Command
command_of_five word a b c d e = if bytes_eq word (codes "solve") then option_map (solve a b c) (fuel_of d e) else None

-- the command that the words fit
abbrev pub command_of : List (List ℕ) → Option Command
command_of (word ∷ a ∷ b ∷ []) = command_of_two word a b
command_of (word ∷ a ∷ b ∷ c ∷ []) = command_of_three word a b c
command_of (word ∷ a ∷ b ∷ c ∷ d ∷ []) = command_of_four word a b c d
command_of (word ∷ a ∷ b ∷ c ∷ d ∷ e ∷ []) = command_of_five word a b c d e
command_of _ = None
