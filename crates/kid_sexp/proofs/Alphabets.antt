-- What the tests of bytes say of each other.
use Rattle.std.proofs.Common.{◌≡◌, ℕ, ◌+◌, ◌≤◌, suc, Bool, true, false, not, ◌&&◌, ◌||◌, cond, ltb, eqb, List, [], ◌∷◌, length, Some, None, refl, sym, ap, ◌∙◌, subst, ⊎_elim, arith}
use Rattle.std.specs.List.{list_all, prefix_len}
use Rattle.std.proofs.lemmas.Bool.{or_cases, and_parts, and_from, not-true, not_from_false, eqb-true, ltb-false, cond-false, le-ltb, ne_eqb}
use Rattle.kid_sexp.specs.Printing.{is_word}
use Rattle.kid_sexp.specs.Alphabet.{is_blank, is_visible, in_alphabet, in_word, IsClean, bad_byte}

-- what holds of each separator
pub blank_each : (P : ℕ → Type 0) → P 9 → P 10 → P 13 → P 32 → (b : ℕ) → is_blank b ≡ true → P b
blank_each P tab line ret space b h =
    ⊎_elim (λ h3. ⊎_elim (λ h2. ⊎_elim (λ h1. subst P (sym (eqb-true b 9 h1)) tab) (λ h1. subst P (sym (eqb-true b 10 h1)) line)
    (or_cases (eqb b 9) (eqb b 10) h2)) (λ h2. subst P (sym (eqb-true b 13 h2)) ret)
    (or_cases (eqb b 9 || eqb b 10) (eqb b 13) h3)) (λ h3. subst P (sym (eqb-true b 32 h3)) space)
    (or_cases (eqb b 9 || eqb b 10 || eqb b 13) (eqb b 32) h)

-- no byte of a word is a bracket or a semicolon
pub word_byte : (b : ℕ) → in_word b ≡ true → (is_visible b ≡ true) × (eqb b 40 ≡ false) × (eqb b 41 ≡ false) × (eqb b 59 ≡ false)
word_byte b h =
    let c = and_parts (is_visible b && not (eqb b 40) && not (eqb b 41)) (not (eqb b 59)) h in
    let d = and_parts (is_visible b && not (eqb b 40)) (not (eqb b 41)) c.0 in
    let e = and_parts (is_visible b) (not (eqb b 40)) d.0 in
    (e.0, not-true _ e.1, not-true _ d.1, not-true _ c.1)

pub data Kind (b : ℕ) : Type 0 where
  blank : is_blank b ≡ true → Kind b
  opens : b ≡ 40 → Kind b
  closes : b ≡ 41 → Kind b
  semicolon : b ≡ 59 → Kind b
  letter : in_word b ≡ true → Kind b

visible_kind : (b : ℕ) (o c s : Bool) → is_visible b ≡ true → eqb b 40 ≡ o → eqb b 41 ≡ c → eqb b 59 ≡ s → Kind b
visible_kind b true c s v ho hc hs = opens (eqb-true b 40 ho)
visible_kind b false true s v ho hc hs = closes (eqb-true b 41 hc)
visible_kind b false false true v ho hc hs = semicolon (eqb-true b 59 hs)
visible_kind b false false false v ho hc hs =
    letter (and_from _ _ (and_from _ _ (and_from _ _ v (not_from_false _ ho)) (not_from_false _ hc)) (not_from_false _ hs))

pub kind_of : (b : ℕ) → in_alphabet b ≡ true → Kind b
kind_of b h = ⊎_elim (λ s. blank s) (λ v. visible_kind b (eqb b 40) (eqb b 41) (eqb b 59) v refl refl refl) (or_cases (is_blank b) (is_visible b) h)

-- ---- a first byte outside the alphabet

-- how many bytes from the front on lie in the alphabet
abbrev clean_len : List ℕ → ℕ
clean_len bytes = prefix_len (λ b. not (not (in_alphabet b))) bytes

clean-step : (b : ℕ) (bytes : List ℕ) (t : Bool) → in_alphabet b ≡ t → (length bytes ≤ clean_len bytes → IsClean bytes)
    → suc (length bytes) ≤ cond (not (not t)) (1 + clean_len bytes) 0 → IsClean (b ∷ bytes)
clean-step b bytes true e rest h = and_from (in_alphabet b) _ e (rest (omega arith))
clean-step b bytes false e rest h = absurd (omega arith)

clean-from_len : (bytes : List ℕ) → length bytes ≤ clean_len bytes → IsClean bytes
clean-from_len [] h = refl
clean-from_len (b ∷ bytes) h = clean-step b bytes (in_alphabet b) refl (λ g. clean-from_len bytes g) h

clean_len-clean : (bytes : List ℕ) → IsClean bytes → clean_len bytes ≡ length bytes
clean_len-clean [] h = refl
clean_len-clean (b ∷ bytes) h =
    let parts = and_parts (in_alphabet b) (list_all in_alphabet bytes) h in
    ap (λ t. cond (not (not t)) (1 + clean_len bytes) 0) parts.0 ∙ ap (λ n. 1 + n) (clean_len-clean bytes parts.1) ∙ (omega arith)

not_none : (t : Bool) (n len : ℕ) → ltb n len ≡ t → cond t (Some n) None ≡ None → len ≤ n
not_none true n len e h = absurd (let no : ⊥ = cc in no)
not_none false n len e h = ltb-false n len e

pub clean-from_none : (bytes : List ℕ) → bad_byte bytes ≡ None → IsClean bytes
clean-from_none bytes h = clean-from_len bytes (not_none (ltb (clean_len bytes) (length bytes)) (clean_len bytes) (length bytes) refl h)

pub none-from_clean : (bytes : List ℕ) → IsClean bytes → bad_byte bytes ≡ None
none-from_clean bytes h =
    cond-false (ltb (clean_len bytes) (length bytes)) (Some (clean_len bytes)) None
    (le-ltb (clean_len bytes) (length bytes) (omega (arith, clean_len-clean bytes h)))

pub is_word_by_length : (bytes : List ℕ) → is_word bytes ≡ (not (eqb (length bytes) 0) && list_all in_word bytes)
is_word_by_length [] = refl
is_word_by_length (b ∷ bytes) =
    sym (ap (λ t. not t && list_all in_word (b ∷ bytes)) (ne_eqb (suc (length bytes)) 0 (λ e. let no : ⊥ = omega arith in no)))
