-- A number is read from its decimal text, and from nothing else.
use Rattle.std.proofs.Common.{◌≡◌, ℕ, suc, ◌^◌, ◌<◌, ℤ, Bool, true, false, List, [], ◌∷◌, length, FitsSigned, w64, Some, None, refl, sym, ap, ◌∙◌, arith, subst}
use Rattle.std.specs.Prelude.{pos, negsuc, neg_ℤ, ◌&&◌, ◌==◌, if◌then◌else◌, int_le, nat_le}
use Rattle.std.specs.Fmt.{decimal, signed_decimal}
use Rattle.std.specs.Str.{bytes_eq, IsUtf8}
use Rattle.std.specs.Str.Parse.{AllDigits, IsNumeral, digits_value, signed_digits_value, without_leading_sign}
use Rattle.std.proofs.lemmas.Bool.Decides.{nat_tests}
use Rattle.std.proofs.lemmas.Fmt.{decimal_is_IsNumeral, IsAscii-signed}
use Rattle.std.proofs.lemmas.Int.{ints as int_rules, fits_signed_from_abs}
use Rattle.std.proofs.lemmas.Slice.Eq.{bytes_eq-Decides}
use Rattle.std.proofs.lemmas.Str.{IsUtf8-from_ascii}
use Rattle.std.proofs.lemmas.Str.Parse.{digit_from_value}
use Rattle.kid_value.specs.SortLimits.{in_limits}
use Rattle.kid_value.proofs.SortLemmas.{and_parts, and_both}
use Rattle.kid_codec.specs.Name.{is_name, starts_with_letter}
use Rattle.kid_codec.specs.NameSpelling.{is_tag}
use Rattle.kid_codec.specs.Number.{number_of}

pub small_pos : (n : ℕ) → in_limits (pos n) ≡ true → n < 2 ^ 63
small_pos n h = let r = and_parts (int_le (negsuc 4611686018427387903) (pos n)) (int_le (pos n) (pos 4611686018427387904)) h in grind (arith, int_rules, nat_tests)

pub small_negsuc : (n : ℕ) → in_limits (negsuc n) ≡ true → suc n < 2 ^ 63
small_negsuc n h = let r = and_parts (int_le (negsuc 4611686018427387903) (negsuc n)) (int_le (negsuc n) (pos 4611686018427387904)) h in grind (arith, int_rules, nat_tests)

plain_digits : (ds : List ℕ) → AllDigits 10 ds → 0 < length ds → signed_digits_value 10 ds ≡ pos (digits_value 10 ds)
plain_digits [] a l = absurd (omega arith)
plain_digits (c ∷ cs) a l =
    let k = digit_from_value c a.0 in
    let m : (c == 45) ≡ false = grind (arith, nat_tests) in
    let p : (c == 43) ≡ false = grind (arith, nat_tests) in
    rw (m, p) refl

no_sign : (ds : List ℕ) → AllDigits 10 ds → 0 < length ds → without_leading_sign ds ≡ ds
no_sign [] a l = absurd (omega arith)
no_sign (c ∷ cs) a l =
    let k = digit_from_value c a.0 in
    let m : (c == 45) ≡ false = grind (arith, nat_tests) in
    let p : (c == 43) ≡ false = grind (arith, nat_tests) in
    rw (m, p) refl

signed_value : (n : ℤ) → in_limits n ≡ true → signed_digits_value 10 (signed_decimal n) ≡ n
signed_value (pos n) h = let k = decimal_is_IsNumeral n (omega (arith, small_pos n h)) in plain_digits (decimal n) k.0.1 k.0.0 ∙ ap pos k.1
signed_value (negsuc n) h = let k = decimal_is_IsNumeral (suc n) (omega (arith, small_negsuc n h)) in ap (λ (m : ℕ). neg_ℤ (pos m)) k.1

pub bytes_eq-itself : (w : List ℕ) → bytes_eq w w ≡ true
bytes_eq-itself w = grind (arith, bytes_eq-Decides)

pub bytes_eq-true : (v w : List ℕ) → bytes_eq v w ≡ true → v ≡ w
bytes_eq-true v w p = grind (arith, bytes_eq-Decides)

pub number_of-decimal : (n : ℤ) → in_limits n ≡ true → number_of (signed_decimal n) ≡ Some n
number_of-decimal n h =
    ap (λ (m : ℤ). if bytes_eq (signed_decimal n) (signed_decimal m) && in_limits m then Some m else None) (signed_value n h)
    ∙ ap (λ (b : Bool). if b then Some n else None) (and_both _ _ (bytes_eq-itself (signed_decimal n)) h)

kept : (b : Bool) (n : ℤ) → (b ≡ true → ⊥) → (if b then Some n else None) ≡ None
kept true n h = absurd (h refl)
kept false n h = refl

pub number_of-none : (w : List ℕ) → ((n : ℤ) → in_limits n ≡ true → w ≡ signed_decimal n → ⊥) → number_of w ≡ None
number_of-none w h = kept _ _ (λ p. let r = and_parts _ _ p in h (signed_digits_value 10 w) r.1 (bytes_eq-true w _ r.0))

digits_begin : (ds : List ℕ) → AllDigits 10 ds → 0 < length ds → starts_with_letter ds ≡ true → ⊥
digits_begin [] a l p = omega arith
digits_begin (c ∷ cs) a l p = let k = digit_from_value c a.0 in let r = and_parts (nat_le 97 c) (nat_le c 122) p in grind (arith, nat_tests)

pub no_letter : (n : ℤ) → in_limits n ≡ true → starts_with_letter (signed_decimal n) ≡ true → ⊥
no_letter (pos n) h p = let k = decimal_is_IsNumeral n (omega (arith, small_pos n h)) in digits_begin (decimal n) k.0.1 k.0.0 p
no_letter (negsuc n) h p = cc

digits_no_tag : (ds : List ℕ) → AllDigits 10 ds → is_tag ds ≡ true → ⊥
digits_no_tag [] a p = cc
digits_no_tag (c ∷ cs) a p = let k = digit_from_value c a.0 in let r = and_parts (c == 39) (is_name cs) p in let q : c ≡ 39 = grind (arith, nat_tests) in omega (arith, k)

pub no_tag : (n : ℤ) → in_limits n ≡ true → is_tag (signed_decimal n) ≡ true → ⊥
no_tag (pos n) h p = let k = decimal_is_IsNumeral n (omega (arith, small_pos n h)) in digits_no_tag (decimal n) k.0.1 p
no_tag (negsuc n) h p = cc

-- what begins with a letter is no number
pub number_of-letter : (w : List ℕ) → starts_with_letter w ≡ true → number_of w ≡ None
number_of-letter w p = number_of-none w (λ n h is. no_letter n h (ap starts_with_letter (sym is) ∙ p))

pub number_text : (n : ℤ) → in_limits n ≡ true → IsUtf8 (signed_decimal n)
number_text (pos n) h = IsUtf8-from_ascii _ (IsAscii-signed (pos n) (omega (arith, small_pos n h)))
number_text (negsuc n) h = IsUtf8-from_ascii _ (IsAscii-signed (negsuc n) (omega (arith, small_negsuc n h)))

fits_small : (n : ℤ) → in_limits n ≡ true → FitsSigned w64 n
fits_small (pos n) h = fits_signed_from_abs w64 (pos n) (omega (arith, small_pos n h))
fits_small (negsuc n) h = fits_signed_from_abs w64 (negsuc n) (omega (arith, small_negsuc n h))

numeral : (n : ℤ) → in_limits n ≡ true → IsNumeral 10 (without_leading_sign (signed_decimal n))
numeral (pos n) h =
    let k = decimal_is_IsNumeral n (omega (arith, small_pos n h)) in
    subst (IsNumeral 10) (sym (no_sign (decimal n) k.0.1 k.0.0)) k.0
numeral (negsuc n) h = (decimal_is_IsNumeral (suc n) (omega (arith, small_negsuc n h))).0

-- the decimal text of a number within the limits is read as a number of 64 bits
pub number_parses : (n : ℤ) → in_limits n ≡ true → IsNumeral 10 (without_leading_sign (signed_decimal n)) × FitsSigned w64 (signed_digits_value 10 (signed_decimal n))
number_parses n h = (numeral n h, subst (FitsSigned w64) (sym (signed_value n h)) (fits_small n h))
