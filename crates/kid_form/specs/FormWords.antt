-- Forms of words.
use Rattle.std.specs.Prelude.{ℕ, true, ◌==◌, List, [], ◌∷◌, Option, None, if◌then◌else◌}
use Rattle.kid_codec.specs.Word.{first_with}
use Rattle.kid_form.specs.Form.{Form}

-- the first of some data that has the word
abbrev pub among : {A : Type 0} → (A → List ℕ) → List A → Form (List ℕ) A
among word_for all = record { read = first_with word_for all; spell = word_for; valid = λ a. true; spelled = λ a. true }

-- a letter before the rest of a word
abbrev pub read_letter : {A : Type 0} → ℕ → Form (List ℕ) A → List ℕ → Option A
read_letter c f [] = None
read_letter c f (d ∷ ds) = if d == c then f.read ds else None

abbrev pub letter : {A : Type 0} → ℕ → Form (List ℕ) A → Form (List ℕ) A
letter c f = record { read = read_letter c f; spell = λ a. c ∷ f.spell a; valid = f.valid; spelled = f.spelled }
