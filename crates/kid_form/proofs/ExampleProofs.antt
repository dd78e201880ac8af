-- The examples of forms compute.
use Rattle.std.proofs.Common.{◌≡◌, Bool, true, false, [], ◌∷◌, Some, refl, pos, negsuc, ap}
use Rattle.std.specs.Prelude.{option_and_then}
use Rattle.kid_codec.specs.Word.{first_with}
use Rattle.kid_codec.proofs.Numbers.{number_of-decimal}
use Rattle.kid_form.specs.First.{count_of}
use Rattle.kid_form.specs.Form.{Lawful}
use Rattle.kid_form.specs.FormExamples.{color_word, color, begins_with_e, any_color, WordExamples, ListExamples, TreeExamples, CountExamples, FormExamples}
use Rattle.kid_form.proofs.DataLaws.{split-lawful}
use Rattle.kid_form.proofs.TreeLaws.{as_atom-lawful}
use Rattle.kid_form.proofs.WordLaws.{among-lawful, letter-lawful}

found : (c : Bool) → first_with color_word (true ∷ false ∷ []) (color_word c) ≡ Some c
found true = refl
found false = refl

no_e : (c : Bool) → begins_with_e (color_word c) ≡ false
no_e true = refl
no_e false = refl

color-lawful : Lawful color
color-lawful = among-lawful color_word (true ∷ false ∷ []) found

any_color-lawful : Lawful any_color
any_color-lawful =
    as_atom-lawful
    (split-lawful begins_with_e (letter-lawful 101 color-lawful) color-lawful (λ c h. refl) (λ c h. no_e c))

words : WordExamples
words = record {
  among_read = refl;
  among_refused = refl;
  letter_read = refl;
  letter_refused = refl;
  split_read = refl;
  split_else = refl;
  as_atom_refused = refl;
  lawful = any_color-lawful;
}

lists : ListExamples
lists = record {
  one_read = refl;
  one_refused = refl;
  two_read = refl;
  two_refused = refl;
  four_read = refl;
  four_refused = refl;
  next_read = refl;
  next_refused = refl;
  each_read = refl;
  each_refused = refl;
}

trees : TreeExamples
trees = record {
  word_read = refl;
  strict_refused = refl;
  listed_read = refl;
  listed_refused = refl;
  headed_read = refl;
  headed_refused = refl;
  either_read = refl;
  either_else = refl;
  applied_read = refl;
  applied_alone = refl;
  applied_refused = refl;
  renamed_read = refl;
  restricted_refused = refl;
}

counts : CountExamples
counts = record {
  count_read = ap (option_and_then count_of) (number_of-decimal (pos 20) refl);
  zero_refused = ap (option_and_then count_of) (number_of-decimal (pos 0) refl);
  lower_refused = ap (option_and_then count_of) (number_of-decimal (negsuc 4) refl);
}

pub form_examples : FormExamples
form_examples = record { words = words; lists = lists; trees = trees; counts = counts }
