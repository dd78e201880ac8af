-- The bytes of a text.
use Rattle.std.specs.Prelude.{◌≡◌, ℕ, Bool, not, ◌&&◌, ◌||◌, List, ◌==◌, nat_le, position, Option, Some, IsTrue}
use Rattle.std.specs.List.{list_all}

-- a tab, a line end, a carriage return or a space: it separates tokens
abbrev pub is_blank : ℕ → Bool
is_blank b = b == 9 || b == 10 || b == 13 || b == 32

abbrev pub is_visible : ℕ → Bool
is_visible b = nat_le 33 b && nat_le b 126

abbrev pub in_alphabet : ℕ → Bool
in_alphabet b = is_blank b || is_visible b

-- part of a word: visible, and no bracket and no semicolon
abbrev pub in_word : ℕ → Bool
in_word b = is_visible b && not (b == 40) && not (b == 41) && not (b == 59)

-- every byte lies in the alphabet
abbrev pub IsClean : List ℕ → Type 0
IsClean bytes = IsTrue (list_all in_alphabet bytes)

-- the place of the first byte outside the alphabet
abbrev pub bad_byte : List ℕ → Option ℕ
bad_byte bytes = position (λ b. not (in_alphabet b)) bytes

-- the first byte outside the alphabet stands there
abbrev pub IsFirstBad : List ℕ → ℕ → Type 0
IsFirstBad bytes at = bad_byte bytes ≡ Some at
