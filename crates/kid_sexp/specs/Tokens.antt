-- The tokens of a text, as a grammar.
use Rattle.std.specs.Prelude.{ℕ, ◌+◌, Bool, true, not, List, [], ◌∷◌, ◌++◌, length, ◌==◌, IsTrue}
use Rattle.std.specs.List.{list_all}
use Rattle.kid_sexp.specs.Token.{Mark, opens_at, closes_at, word_of}
use Rattle.kid_sexp.specs.Alphabet.{is_blank, in_word}

abbrev pub is_line_end : ℕ → Bool
is_line_end b = b == 10

-- the text is over, or its next byte passes the test
abbrev pub ends_or : (ℕ → Bool) → List ℕ → Bool
ends_or test [] = true
ends_or test (b ∷ bytes) = test b

-- From this place on, these bytes have these tokens.
pub data Tokens : ℕ → List ℕ → List Mark → Type 0 where
  -- a text that is over has none
  done : {at : ℕ} → Tokens at [] []
  -- a separator is skipped
  separator : {at b : ℕ} {rest : List ℕ} {marks : List Mark}
      → IsTrue (is_blank b) → Tokens (at + 1) rest marks → Tokens at (b ∷ rest) marks
  -- a semicolon and the bytes after it are skipped, up to before the next line end or up to the end
  remark : {at : ℕ} (skipped rest : List ℕ) {marks : List Mark}
      → IsTrue (list_all (λ b. not (is_line_end b)) skipped) → IsTrue (ends_or is_line_end rest)
      → Tokens (at + 1 + length skipped) rest marks → Tokens at (59 ∷ (skipped ++ rest)) marks
  -- each bracket is a token
  opening : {at : ℕ} {rest : List ℕ} {marks : List Mark}
      → Tokens (at + 1) rest marks → Tokens at (40 ∷ rest) (opens_at at ∷ marks)
  closing : {at : ℕ} {rest : List ℕ} {marks : List Mark}
      → Tokens (at + 1) rest marks → Tokens at (41 ∷ rest) (closes_at at ∷ marks)
  -- one or more bytes of a word are a token, where no further such byte follows
  run : {at first : ℕ} (others rest : List ℕ) {marks : List Mark}
      → IsTrue (list_all in_word (first ∷ others)) → IsTrue (ends_or (λ b. not (in_word b)) rest)
      → Tokens (at + 1 + length others) rest marks → Tokens at (first ∷ (others ++ rest)) (word_of (first ∷ others) ∷ marks)
