-- The laws of forms of words.
use Rattle.std.proofs.Common.{◌≡◌, ℕ, Bool, true, List, [], ◌∷◌, Some, None, refl, ap, ◌∙◌, arith}
use Rattle.std.specs.Prelude.{◌==◌, if◌then◌else◌}
use Rattle.std.proofs.lemmas.Bool.Decides.{nat_tests}
use Rattle.kid_codec.specs.Word.{first_with}
use Rattle.kid_codec.proofs.Found.{if_some, first_with-word}
use Rattle.kid_form.specs.Form.{Form, Told, Lawful}
use Rattle.kid_form.specs.FormWords.{among, letter}

pub among-lawful : {A : Type 0} (word_for : A → List ℕ) (all : List A) → ((a : A) → first_with word_for all (word_for a) ≡ Some a) → Lawful (among word_for all)
among-lawful word_for all found = record { told = λ w a e h. record { tree = first_with-word word_for all w a e; spelled = refl }; back = λ a h. found a }

letter_true : (d c : ℕ) → (d == c) ≡ true → d ≡ c
letter_true d c p = grind (arith, nat_tests)

letter_same : (c : ℕ) → (c == c) ≡ true
letter_same c = grind (arith, nat_tests)

module _ {A : Type 0} {f : Form (List ℕ) A} (c : ℕ) (lawful : Lawful f) where
  letter_told : (w : List ℕ) (a : A) → (letter c f).read w ≡ Some a → f.valid a ≡ true → Told (letter c f) w a
  letter_told [] a e h = cc
  letter_told (d ∷ ds) a e h =
      let r = if_some (d == c) (f.read ds) a e in
      let j = lawful.told ds a r.1 h in
      let is = letter_true d c r.0 in
      let rest = j.tree in
      record { tree = λ i. is i ∷ rest i; spelled = j.spelled }

  pub letter-lawful : Lawful (letter c f)
  letter-lawful = record { told = letter_told; back = λ a h. ap (λ (b : Bool). if b then f.read (f.spell a) else None) (letter_same c) ∙ lawful.back a h }
