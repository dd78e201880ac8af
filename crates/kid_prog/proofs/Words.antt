-- Names, numbers and the words of operators are words of a text.
use Rattle.std.proofs.Common.{◌≡◌, ◌⊎◌, inl, inr, ℕ, suc, ◌<◌, ◌^◌, ℤ, Bool, true, false, List, [], ◌∷◌, length, Some, refl, ap, ◌∙◌, arith}
use Rattle.std.specs.Prelude.{pos, negsuc, ◌&&◌, ◌||◌, not, ◌==◌, nat_le}
use Rattle.std.specs.List.{list_all}
use Rattle.std.specs.Fmt.{decimal, signed_decimal}
use Rattle.std.specs.Str.Parse.{AllDigits}
use Rattle.std.specs.Char.{digit_value}
use Rattle.std.proofs.lemmas.Bool.Decides.{nat_tests}
use Rattle.std.proofs.lemmas.Fmt.{decimal_is_IsNumeral}
use Rattle.std.proofs.lemmas.Str.Parse.{digit_from_value}
use Rattle.kid_sexp.specs.Alphabet.{in_word}
use Rattle.kid_sexp.specs.Printing.{is_word}
use Rattle.kid_value.specs.SortLimits.{in_limits}
use Rattle.kid_value.proofs.SortLemmas.{and_parts, and_both, list_all-weaker}
use Rattle.kid_term.specs.declared.operator.Op.{Op}
use Rattle.kid_term.specs.declared.operator.Binder.{Binder}
use Rattle.kid_term.specs.declared.operator.Binder.TheVariants as binder
use Rattle.kid_codec.specs.Name.{is_letter, is_digit, is_name_byte, is_reserved, starts_with_letter, is_name}
use Rattle.kid_codec.specs.Number.{number_of}
use Rattle.kid_codec.specs.Word.{operator_word, binder_word}
use Rattle.kid_codec.proofs.Found.{number_from}
use Rattle.kid_codec.proofs.Numbers.{small_pos, small_negsuc}
use Rattle.kid_codec.proofs.Words.{of_each}

word_byte : (c : ℕ) → nat_le 33 c ≡ true → nat_le c 126 ≡ true → (c == 40) ≡ false → (c == 41) ≡ false → (c == 59) ≡ false → in_word c ≡ true
word_byte c a b d e f = rw (a, b, d, e, f) refl

either : (b c : Bool) → (b || c) ≡ true → (b ≡ true) ⊎ (c ≡ true)
either true c h = inl refl
either false c h = inr h

letter_in_word : (c : ℕ) → is_letter c ≡ true → in_word c ≡ true
letter_in_word c h =
    let r = and_parts (nat_le 97 c) (nat_le c 122) h in
    word_byte c (grind (arith, nat_tests)) (grind (arith, nat_tests)) (grind (arith, nat_tests)) (grind (arith, nat_tests)) (grind (arith, nat_tests))

digit_in_word : (c : ℕ) → is_digit c ≡ true → in_word c ≡ true
digit_in_word c h =
    let r = and_parts (nat_le 48 c) (nat_le c 57) h in
    word_byte c (grind (arith, nat_tests)) (grind (arith, nat_tests)) (grind (arith, nat_tests)) (grind (arith, nat_tests)) (grind (arith, nat_tests))

dash_in_word : (c : ℕ) → (c == 45) ≡ true → in_word c ≡ true
dash_in_word c h = word_byte c (grind (arith, nat_tests)) (grind (arith, nat_tests)) (grind (arith, nat_tests)) (grind (arith, nat_tests)) (grind (arith, nat_tests))

name_byte_in_word : (c : ℕ) → is_name_byte c ≡ true → in_word c ≡ true
name_byte_in_word c h =
    elim (either (is_letter c || is_digit c) (c == 45) h) [
      | inl r ↦ elim (either (is_letter c) (is_digit c) r) [
        | inl q ↦ letter_in_word c q
        | inr q ↦ digit_in_word c q
      ]
      | inr r ↦ dash_in_word c r
    ]

pub name_word : (w : List ℕ) → is_name w ≡ true → is_word w ≡ true
name_word [] h = cc
name_word (c ∷ cs) h =
    let w = c ∷ cs in
    let r = and_parts (starts_with_letter w && nat_le (length w) 32 && list_all is_name_byte w) (not (is_reserved w)) h in
    let q = and_parts (starts_with_letter w && nat_le (length w) 32) (list_all is_name_byte w) r.0 in
    list_all-weaker is_name_byte in_word name_byte_in_word w q.1

digit_value_in_word : (c : ℕ) → digit_value c < 10 → in_word c ≡ true
digit_value_in_word c h =
    let k = digit_from_value c h in
    word_byte c (grind (arith, nat_tests)) (grind (arith, nat_tests)) (grind (arith, nat_tests)) (grind (arith, nat_tests)) (grind (arith, nat_tests))

digits_in_word : (ds : List ℕ) → AllDigits 10 ds → list_all in_word ds ≡ true
digits_in_word [] a = refl
digits_in_word (c ∷ cs) a = and_both (in_word c) (list_all in_word cs) (digit_value_in_word c a.0) (digits_in_word cs a.1)

digits_word : (ds : List ℕ) → AllDigits 10 ds → 0 < length ds → is_word ds ≡ true
digits_word [] a l = absurd (omega arith)
digits_word (c ∷ cs) a l = digits_in_word (c ∷ cs) a

pub decimal_word : (n : ℕ) → n < 2 ^ 64 → is_word (decimal n) ≡ true
decimal_word n h = let k = decimal_is_IsNumeral n h in digits_word (decimal n) k.0.1 k.0.0

pub number_word : (n : ℤ) → in_limits n ≡ true → is_word (signed_decimal n) ≡ true
number_word (pos n) h = decimal_word n (omega (arith, small_pos n h))
number_word (negsuc n) h = let k = decimal_is_IsNumeral (suc n) (omega (arith, small_negsuc n h)) in digits_in_word (decimal (suc n)) k.0.1

-- what is read as a number is a word
pub read_number_word : (w : List ℕ) (n : ℤ) → number_of w ≡ Some n → is_word w ≡ true
read_number_word w n p = let r = number_from w n p in ap is_word r.0 ∙ number_word n r.1

pub op_word : (o : Op) → is_word (operator_word o) ≡ true
op_word o = of_each (λ o. is_word (operator_word o)) refl o

pub binder_is_word : (b : Binder) → is_word (binder_word b) ≡ true
binder_is_word binder.All = refl
binder_is_word binder.Some = refl
binder_is_word binder.SetOf = refl
binder_is_word binder.Image = refl
binder_is_word binder.SumOf = refl
