-- Words bit by bit.
use Rattle.std.proofs.Common.{◌≡◌, ℕ, ◌+◌, ◌-◌, ◌*◌, ◌%◌, ◌^◌, ◌<◌, ◌≤◌, zero, suc, min, max, Bool, true, false, cond, ℤ, pos, negsuc, ◌+ℤ◌, subst, List, [], ◌∷◌, length, Some, None, refl, sym, ap, ◌∙◌, arith, bit_and, bit_or, w64}
use Rattle.std.specs.Prelude.{not, ◌&&◌, ◌||◌, nat_eq, nat_le, int_le, filter, unwrap_or}
use Rattle.std.specs.List.{range_with_len}
use Rattle.std.specs.Int.{bit_at, bit_not}
use Rattle.std.proofs.lemmas.Bool.Decides.{nat_tests}
use Rattle.std.proofs.Math.Nat.{pow-le-pow_right, mod-eq_of_lt}
use Rattle.std.proofs.lemmas.Nat.{and_le_r, pow_pos}
use Rattle.std.proofs.lemmas.Nat.Bits.{bit_at-lt, bit_at_and, bit_at_or, bit_at_not, bit_at_ones, bit_at_above, same_from_bits_below}
use Rattle.std.proofs.lemmas.Int.{ints as int_rules}
use Rattle.kid_value.specs.SortLimits.{in_limits}
use Rattle.kid_value.proofs.SortLemmas.{and_parts}
use Rattle.kid_value.specs.Rows.Word.{has_bit, word_of, lowest_or}
use Rattle.kid_ops.specs.Bits.{first_place}
use Rattle.kid_value.proofs.RowMeaning.{word_of-below, bit_at-word_of}

min-one : (n : ℕ) → n < 2 → min n 1 ≡ cond (nat_eq n 1) 1 0
min-one zero l = refl
min-one (suc zero) l = refl
min-one (suc (suc n)) l = absurd (omega arith)

-- the lowest bits as a word
pub low_bits : (n size mask : ℕ) → mask ≡ 2 ^ size - 1 → bit_and n mask ≡ word_of (has_bit n) size
low_bits n size mask e =
    let l : bit_and n mask ≤ mask = and_le_r n mask in
    let p : 0 < 2 ^ size = pow_pos size in
    same_from_bits_below size (bit_and n mask) (word_of (has_bit n) size) (omega arith) (word_of-below (has_bit n) size)
    (λ i h. bit_at_and n mask i ∙ ap (min (bit_at n i)) (ap (λ z. bit_at z i) e ∙ bit_at_ones size i h) ∙ min-one (bit_at n i) (bit_at-lt n i) ∙ sym (bit_at-word_of (has_bit n) size i h))

pub low_bits-below : (n size mask : ℕ) → mask ≡ 2 ^ size - 1 → bit_and n mask < 2 ^ size
low_bits-below n size mask e =
    let l : bit_and n mask ≤ mask = and_le_r n mask in
    let p : 0 < 2 ^ size = pow_pos size in omega arith

same_word : (p q : ℕ → Bool) (n : ℕ) → ((i : ℕ) → i < n → p i ≡ q i) → word_of p n ≡ word_of q n
same_word p q zero h = refl
same_word p q (suc n) h = λ i. same_word p q n (λ j l. h j (omega arith)) i + cond (h n (omega arith) i) (2 ^ n) 0

or-bits : (a b : ℕ) → a < 2 → b < 2 → nat_eq (max a b) 1 ≡ (nat_eq a 1 || nat_eq b 1)
or-bits zero zero p q = refl
or-bits zero (suc zero) p q = refl
or-bits (suc zero) zero p q = refl
or-bits (suc zero) (suc zero) p q = refl
or-bits (suc (suc a)) b p q = absurd (omega arith)
or-bits a (suc (suc b)) p q = absurd (omega arith)

and-bits : (a b : ℕ) → a < 2 → b < 2 → nat_eq (min a b) 1 ≡ (nat_eq a 1 && nat_eq b 1)
and-bits zero zero p q = refl
and-bits zero (suc zero) p q = refl
and-bits (suc zero) zero p q = refl
and-bits (suc zero) (suc zero) p q = refl
and-bits (suc (suc a)) b p q = absurd (omega arith)
and-bits a (suc (suc b)) p q = absurd (omega arith)

but-bits : (a b : ℕ) → a < 2 → b < 2 → nat_eq (min a (1 - b)) 1 ≡ (nat_eq a 1 && not (nat_eq b 1))
but-bits zero zero p q = refl
but-bits zero (suc zero) p q = refl
but-bits (suc zero) zero p q = refl
but-bits (suc zero) (suc zero) p q = refl
but-bits (suc (suc a)) b p q = absurd (omega arith)
but-bits a (suc (suc b)) p q = absurd (omega arith)

pub word_or : (a b size : ℕ) → word_of (has_bit (bit_or a b)) size ≡ word_of (λ i. has_bit a i || has_bit b i) size
word_or a b size = same_word (has_bit (bit_or a b)) (λ i. has_bit a i || has_bit b i) size (λ i l. ap (λ z. nat_eq z 1) (bit_at_or a b i) ∙ or-bits (bit_at a i) (bit_at b i) (bit_at-lt a i) (bit_at-lt b i))

pub word_and : (a b size : ℕ) → word_of (has_bit (bit_and a b)) size ≡ word_of (λ i. has_bit a i && has_bit b i) size
word_and a b size = same_word (has_bit (bit_and a b)) (λ i. has_bit a i && has_bit b i) size (λ i l. ap (λ z. nat_eq z 1) (bit_at_and a b i) ∙ and-bits (bit_at a i) (bit_at b i) (bit_at-lt a i) (bit_at-lt b i))

pub word_but : (a b size : ℕ) → b < 2 ^ 64 → size ≤ 62 → word_of (has_bit (bit_and a (bit_not w64 b))) size ≡ word_of (λ i. has_bit a i && not (has_bit b i)) size
word_but a b size f h = same_word (has_bit (bit_and a (bit_not w64 b))) (λ i. has_bit a i && not (has_bit b i)) size
    (λ i l. ap (λ z. nat_eq z 1) (bit_at_and a (bit_not w64 b) i ∙ ap (min (bit_at a i)) (bit_at_not w64 b i f (omega arith))) ∙ but-bits (bit_at a i) (bit_at b i) (bit_at-lt a i) (bit_at-lt b i))

pub has_bit-above : (w place : ℕ) → w < 2 ^ 64 → 64 ≤ place → has_bit w place ≡ false
has_bit-above w place f l = ap (λ z. nat_eq z 1) (bit_at_above w 64 place f l)

-- the bits from a place on
pub bits_next : (w i size : ℕ) → i < size → filter (has_bit w) (range_with_len i (size - i)) ≡ cond (has_bit w i) (i ∷ filter (has_bit w) (range_with_len (i + 1) (size - (i + 1)))) (filter (has_bit w) (range_with_len (i + 1) (size - (i + 1))))
bits_next w i size l = let e : size - i ≡ suc (size - (i + 1)) = omega arith in ap (λ n. filter (has_bit w) (range_with_len i n)) e

pub lowest-some : (lo d : ℤ) (is : List ℕ) (i : ℕ) → first_place is ≡ Some i → lowest_or lo is d ≡ lo +ℤ pos i
lowest-some lo d [] i p = cc
lowest-some lo d (j ∷ is) i p = ap (λ o. lo +ℤ pos (unwrap_or o i)) p

pub lowest-none : (lo d : ℤ) (is : List ℕ) → first_place is ≡ None → lowest_or lo is d ≡ d
lowest-none lo d [] p = refl
lowest-none lo d (j ∷ is) p = cc

module _ (w i size count whole : ℕ) (l : i < size) (h : count + length (filter (has_bit w) (range_with_len i (size - i))) ≡ whole) where
  pub counted-more : has_bit w i ≡ true → count + 1 + length (filter (has_bit w) (range_with_len (i + 1) (size - (i + 1)))) ≡ whole
  counted-more p =
      let e : length (filter (has_bit w) (range_with_len i (size - i))) ≡ suc (length (filter (has_bit w) (range_with_len (i + 1) (size - (i + 1)))))
      = ap length (bits_next w i size l ∙ ap (λ b. cond b (i ∷ filter (has_bit w) (range_with_len (i + 1) (size - (i + 1)))) (filter (has_bit w) (range_with_len (i + 1) (size - (i + 1))))) p) in
      omega arith

  pub counted-without : has_bit w i ≡ false → count + length (filter (has_bit w) (range_with_len (i + 1) (size - (i + 1)))) ≡ whole
  counted-without p =
      let e : length (filter (has_bit w) (range_with_len i (size - i))) ≡ length (filter (has_bit w) (range_with_len (i + 1) (size - (i + 1))))
      = ap length (bits_next w i size l ∙ ap (λ b. cond b (i ∷ filter (has_bit w) (range_with_len (i + 1) (size - (i + 1)))) (filter (has_bit w) (range_with_len (i + 1) (size - (i + 1))))) p) in
      omega arith

pub later_bits : (w i size : ℕ) → i < size → has_bit w i ≡ false → filter (has_bit w) (range_with_len i (size - i)) ≡ filter (has_bit w) (range_with_len (i + 1) (size - (i + 1)))
later_bits w i size l p = bits_next w i size l ∙ ap (λ b. cond b (i ∷ filter (has_bit w) (range_with_len (i + 1) (size - (i + 1)))) (filter (has_bit w) (range_with_len (i + 1) (size - (i + 1))))) p

pub power-le : (size : ℕ) → size ≤ 62 → 2 ^ size ≤ 4611686018427387904
power-le size l = pow-le-pow_right {n = 2} (omega arith) {i = size} {j = 62} l

pub mask_is : (size : ℕ) → size ≤ 62 → 1 * 2 ^ size % 18446744073709551616 - 1 ≡ 2 ^ size - 1
mask_is size l =
    let p : 2 ^ size ≤ 4611686018427387904 = power-le size l in
    let e : 1 * 2 ^ size ≡ 2 ^ size = omega arith in
    ap (λ z. z - 1) (ap (λ z. z % 18446744073709551616) e ∙ mod-eq_of_lt (omega arith))

-- the bits below a place from which on the word has none
same_bits : (w a n m : ℕ) → ((i : ℕ) → a + m ≤ i → has_bit w i ≡ false) → m ≤ n → filter (has_bit w) (range_with_len a n) ≡ filter (has_bit w) (range_with_len a m)
same_bits w a zero zero h l = refl
same_bits w a zero (suc m) h l = absurd (omega arith)
same_bits w a (suc n) zero h l =
    let p : has_bit w a ≡ false = h a (omega arith) in
    ap (λ b. cond b (a ∷ filter (has_bit w) (range_with_len (a + 1) n)) (filter (has_bit w) (range_with_len (a + 1) n))) p
    ∙ same_bits w (a + 1) n zero (λ i k. h i (omega arith)) (omega arith)
same_bits w a (suc n) (suc m) h l =
    λ i. cond (has_bit w a) (a ∷ same_bits w (a + 1) n m (λ j k. h j (omega arith)) (omega arith) i) (same_bits w (a + 1) n m (λ j k. h j (omega arith)) (omega arith) i)

pub bits_within : (w size : ℕ) → w < 2 ^ 63 → filter (has_bit w) (range_with_len 0 (min size 63)) ≡ filter (has_bit w) (range_with_len 0 size)
bits_within w size f = by_cases (nat_le size 63) refl
  where
    by_cases : (b : Bool) → nat_le size 63 ≡ b → filter (has_bit w) (range_with_len 0 (min size 63)) ≡ filter (has_bit w) (range_with_len 0 size)
    by_cases true e = let l : size ≤ 63 = grind (arith, nat_tests) in let m : min size 63 ≡ size = omega arith in ap (λ z. filter (has_bit w) (range_with_len 0 z)) m
    by_cases false e =
        let l : 63 < size = grind (arith, nat_tests) in
        let m : min size 63 ≡ 63 = omega arith in
        ap (λ z. filter (has_bit w) (range_with_len 0 z)) m ∙ sym (same_bits w 0 size 63 (λ i k. ap (λ z. nat_eq z 1) (bit_at_above w 63 i f (omega arith))) (omega arith))

pub bits_more : (w i size : ℕ) → i < size → has_bit w i ≡ true → filter (has_bit w) (range_with_len i (size - i)) ≡ i ∷ filter (has_bit w) (range_with_len (i + 1) (size - (i + 1)))
bits_more w i size l p = bits_next w i size l ∙ ap (λ b. cond b (i ∷ filter (has_bit w) (range_with_len (i + 1) (size - (i + 1)))) (filter (has_bit w) (range_with_len (i + 1) (size - (i + 1))))) p

pub range_next : (i size : ℕ) → i < size → range_with_len i (size - i) ≡ i ∷ range_with_len (i + 1) (size - (i + 1))
range_next i size l = let e : size - i ≡ suc (size - (i + 1)) = omega arith in ap (range_with_len i) e

-- a word with one more bit above its own
pub bit_fits : (word i : ℕ) → word < 2 ^ i → i ≤ 62 → word + 1 * 2 ^ i % 18446744073709551616 < 18446744073709551616
bit_fits word i h l =
    let p : 2 ^ i ≤ 4611686018427387904 = power-le i l in
    let e : 1 * 2 ^ i ≡ 2 ^ i = omega arith in
    let m : 1 * 2 ^ i % 18446744073709551616 ≡ 2 ^ i = ap (λ z. z % 18446744073709551616) e ∙ mod-eq_of_lt (omega arith) in
    omega arith

pub small_word : (n : ℕ) → in_limits (pos n) ≡ true → n ≤ 4611686018427387904
small_word n h = let p = (and_parts (int_le (negsuc 4611686018427387903) (pos n)) (int_le (pos n) (pos 4611686018427387904)) h).1 in grind (arith, int_rules)

-- a word that is small has no bit from a place on
cut : (p : ℕ → Bool) (m n : ℕ) → m ≤ n → word_of p n < 2 ^ m → word_of p n ≡ word_of p m
cut p zero zero l h = refl
cut p (suc m) zero l h = absurd (omega arith)
cut p m (suc n) l h = by_cases (nat_le m n) refl (p n) refl (cut p m n)
  where
    by_cases : (b : Bool) → nat_le m n ≡ b → (c : Bool) → p n ≡ c → (m ≤ n → word_of p n < 2 ^ m → word_of p n ≡ word_of p m) → word_of p (suc n) ≡ word_of p m
    by_cases true e true q ih =
        let k : m ≤ n = grind (arith, nat_tests) in
        let g : 2 ^ m ≤ 2 ^ n = pow-le-pow_right {n = 2} (omega arith) {i = m} {j = n} k in
        let f : word_of p n + 2 ^ n < 2 ^ m = subst (λ c. word_of p n + cond c (2 ^ n) 0 < 2 ^ m) q h in
        absurd (omega arith)
    by_cases true e false q ih =
        let k : m ≤ n = grind (arith, nat_tests) in
        let f : word_of p n + 0 < 2 ^ m = subst (λ c. word_of p n + cond c (2 ^ n) 0 < 2 ^ m) q h in
        let z : word_of p n + 0 ≡ word_of p n = omega arith in
        ap (λ c. word_of p n + cond c (2 ^ n) 0) q ∙ z ∙ ih k (omega arith)
    by_cases false e c q ih =
        let k : n < m = grind (arith, nat_tests) in
        let s : suc n ≡ m = omega arith in
        ap (word_of p) s

pub word_cut : (p : ℕ → Bool) (size : ℕ) → word_of p size ≤ 4611686018427387904 → word_of p (min size 63) ≡ word_of p size
word_cut p size h = by_cases (nat_le size 63) refl
  where
    by_cases : (b : Bool) → nat_le size 63 ≡ b → word_of p (min size 63) ≡ word_of p size
    by_cases true e = let l : size ≤ 63 = grind (arith, nat_tests) in let m : min size 63 ≡ size = omega arith in ap (word_of p) m
    by_cases false e =
        let l : 63 < size = grind (arith, nat_tests) in
        let m : min size 63 ≡ 63 = omega arith in
        ap (word_of p) m ∙ sym (cut p 63 size (omega arith) (omega arith))
