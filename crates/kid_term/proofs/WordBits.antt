-- The size of a word, by the bits that it may have.
use Rattle.std.proofs.Common.{◌≡◌, ℕ, zero, suc, ◌+◌, ◌-◌, ◌^◌, ◌<◌, ◌≤◌, Bool, true, false, List, [], ◌∷◌, refl, sym, ap, ◌∙◌, cond, subst, arith, length, bit_and}
use Rattle.std.specs.Prelude.{nat_eq, nat_lt, filter, min}
use Rattle.std.specs.List.{range_with_len}
use Rattle.std.specs.Int.{bit_at}
use Rattle.std.proofs.lemmas.Bool.Decides.{nat_tests}
use Rattle.std.proofs.lemmas.Nat.{and_le_l, and_le_r, pow_pos}
use Rattle.std.proofs.lemmas.Nat.Bits.{bit_at-lt, bit_at_and, bit_at_ones, bit_at_above, same_from_bits_below}
use Rattle.kid_value.specs.Rows.Word.{has_bit, word_of}
use Rattle.kid_value.proofs.RowMeaning.{word_of-below, bit_at-word_of}
use Rattle.kid_term.specs.WordSorts.{bit_count}

min-one : (n : ℕ) → n < 2 → min n 1 ≡ cond (nat_eq n 1) 1 0
min-one zero l = refl
min-one (suc zero) l = refl
min-one (suc (suc n)) l = absurd (omega arith)

-- a number's lowest bits make no greater one
lowest-le : (r size : ℕ) → word_of (has_bit r) size ≤ r
lowest-le r size = omega (arith, and_le_l r (2 ^ size - 1), same)
  where
    below : bit_and r (2 ^ size - 1) < 2 ^ size
    below = omega (arith, and_le_r r (2 ^ size - 1), pow_pos size)

    same : bit_and r (2 ^ size - 1) ≡ word_of (has_bit r) size
    same =
        same_from_bits_below size (bit_and r (2 ^ size - 1)) (word_of (has_bit r) size) below (word_of-below (has_bit r) size)
        (λ i h. bit_at_and r (2 ^ size - 1) i ∙ ap (min (bit_at r i)) (bit_at_ones size i h) ∙ min-one (bit_at r i) (bit_at-lt r i) ∙ sym (bit_at-word_of (has_bit r) size i h))

module _ (p q : ℕ → Bool) (h : (i : ℕ) → p i ≡ true → q i ≡ true) where
  word_of-le : (size : ℕ) → word_of p size ≤ word_of q size
  word_of-le zero = omega arith
  word_of-le (suc n) = by (p n) refl (q n) refl (word_of-le n)
    where
      by : (c : Bool) → p n ≡ c → (d : Bool) → q n ≡ d → word_of p n ≤ word_of q n → word_of p n + cond c (2 ^ n) 0 ≤ word_of q n + cond d (2 ^ n) 0
      by true e true f k = omega arith
      by true e false f k = let g : q n ≡ true = h n e in cc
      by false e true f k = omega arith
      by false e false f k = omega arith

-- a word whose bits are among a number's is no greater
pub word_of-within : (p : ℕ → Bool) (r size : ℕ) → ((i : ℕ) → p i ≡ true → has_bit r i ≡ true) → word_of p size ≤ r
word_of-within p r size h = omega (arith, word_of-le p (has_bit r) h size, lowest-le r size)

is_lt : (m n : ℕ) → nat_lt m n ≡ true → m < n
is_lt m n h = grind (arith, nat_tests)

is_set : (n : ℕ) → nat_eq n 1 ≡ true → n ≡ 1
is_set n h = grind (arith, nat_tests)

-- a number with a bit is at least that power of two
pub bit_reaches : (r i : ℕ) → has_bit r i ≡ true → 2 ^ i ≤ r
bit_reaches r i h = by (nat_lt r (2 ^ i)) refl
  where
    by : (c : Bool) → nat_lt r (2 ^ i) ≡ c → 2 ^ i ≤ r
    by true e = let z : bit_at r i ≡ 0 = bit_at_above r i i (is_lt r (2 ^ i) e) (omega arith) in absurd (omega (arith, is_set (bit_at r i) h))
    by false e = grind (arith, nat_tests)

-- a word whose bits reach no further than a number's
pub word_of-counted : (p : ℕ → Bool) (size most : ℕ) → ((i : ℕ) → p i ≡ true → 2 ^ i ≤ most) → word_of p size < 2 ^ bit_count size most
word_of-counted p zero most h = omega arith
word_of-counted p (suc n) most h = by (nat_lt most (2 ^ n)) refl (p n) refl (word_of-counted p n most h)
  where
    by : (c : Bool) → nat_lt most (2 ^ n) ≡ c → (d : Bool) → p n ≡ d → word_of p n < 2 ^ bit_count n most → word_of p n + cond d (2 ^ n) 0 < 2 ^ cond c (bit_count n most) (suc n)
    by true e true f k = absurd (omega (arith, is_lt most (2 ^ n) e, h n f))
    by true e false f k = omega arith
    by false e d f k = subst (λ z. word_of p n + cond z (2 ^ n) 0 < 2 ^ suc n) f (word_of-below p (suc n))

-- ---- the places of the bits

module _ (P : ℕ → Type 0) where
  abbrev pub EachPlace : List ℕ → Type 0
  EachPlace [] = Unit {0}
  EachPlace (i ∷ is) = P i × EachPlace is

pub places_below : (p : ℕ → Bool) (a n top : ℕ) → a + n ≤ top → EachPlace (λ i. i < top) (filter p (range_with_len a n))
places_below p a zero top h = tt
places_below p a (suc n) top h = by (p a) (places_below p (a + 1) n top (omega arith))
  where
    by : (c : Bool) → EachPlace (λ i. i < top) (filter p (range_with_len (a + 1) n)) → EachPlace (λ i. i < top) (cond c (a ∷ filter p (range_with_len (a + 1) n)) (filter p (range_with_len (a + 1) n)))
    by true k = (omega arith, k)
    by false k = k

pub few_places : (p : ℕ → Bool) (a n : ℕ) → length (filter p (range_with_len a n)) ≤ n
few_places p a zero = omega arith
few_places p a (suc n) = by (p a) (few_places p (a + 1) n)
  where
    by : (c : Bool) → length (filter p (range_with_len (a + 1) n)) ≤ n → length (cond c (a ∷ filter p (range_with_len (a + 1) n)) (filter p (range_with_len (a + 1) n))) ≤ suc n
    by true k = omega arith
    by false k = omega arith
