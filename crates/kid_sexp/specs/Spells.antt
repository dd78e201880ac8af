-- Which forest a text spells, and which fault its brackets have.
use Rattle.std.specs.Prelude.{◌≡◌, ℕ, ◌≤◌, List, length, map, Some}
use Rattle.kid_sexp.specs.Token.{Mark, token}
use Rattle.kid_sexp.specs.Plain.{Plains, depth}
use Rattle.kid_sexp.specs.PlainTokens.{flat}
use Rattle.kid_sexp.specs.Alphabet.{IsClean, IsFirstBad}
use Rattle.kid_sexp.specs.Tokens.{Tokens}
use Rattle.kid_sexp.specs.Brackets.{Fault, bad, deep, unbalanced, bracket_fault}

-- The text spells the forest: its bytes lie in the alphabet and have the forest's tokens, and lists nest at most 250 deep.
pub record Spells (bytes : List ℕ) (forest : Plains) : Type 0 where
  pub clean : IsClean bytes
  pub marks : List Mark
  pub tokens : Tokens 0 bytes marks
  pub same : map token marks ≡ flat forest
  pub shallow : depth forest ≤ 250

-- The bytes lie in the alphabet, and counting open brackets along their tokens meets this fault first.
pub record HasBracketFault (bytes : List ℕ) (fault : Fault) : Type 0 where
  pub clean : IsClean bytes
  pub marks : List Mark
  pub tokens : Tokens 0 bytes marks
  pub first : bracket_fault (length bytes) 0 marks ≡ Some fault

-- what is wrong with the bytes: a byte outside the alphabet before all else
abbrev pub HasFault : List ℕ → Fault → Type 0
HasFault bytes (bad at) = IsFirstBad bytes at
HasFault bytes (deep at) = HasBracketFault bytes (deep at)
HasFault bytes (unbalanced at) = HasBracketFault bytes (unbalanced at)
