-- The count of a sort's values up to the cap is the count of its values, where that is not past the cap.
use Rattle.std.proofs.Common.{◌≡◌, ℕ, ◌+◌, ◌*◌, ◌^◌, ◌<◌, ◌≤◌, zero, suc, min, false, cond, refl, sym, ap, ◌∙◌, arith, inl, inr}
use Rattle.std.specs.Prelude.{nat_le}
use Rattle.std.proofs.lemmas.Bool.{cases_lt}
use Rattle.std.proofs.lemmas.Bool.Decides.{nat_tests}
use Rattle.std.proofs.lemmas.Nat.{mul-le}
use Rattle.std.proofs.lemmas.Grind.{pow_more}
use Rattle.std.proofs.Math.Nat.{pow-suc, pow-zero, mul-zero, zero-mul, mul_comm, le-mul_of_pos_right, one-le-pow, pow-le-pow_left, pow-le-pow_right}
use Rattle.kid_value.specs.PlainSort.{PlainSort, never, bools, ints, pairs, sets, seqs, maps, enums}
use Rattle.kid_value.specs.SortCount.{capped, capped_power, capped_sequences, sequence_count, count_of}
use Rattle.kid_value.specs.ValueCount.{value_count}

past : (n : ℕ) → 65537 ≤ n → capped n ≡ 65537
past n h = omega arith

within : (n : ℕ) → n < 65537 → capped n ≡ n
within n h = omega arith

product_past : (a b : ℕ) → 65537 ≤ a → 0 < b → 65537 ≤ a * b
product_past a b h p = omega (arith, le-mul_of_pos_right a p)

-- a product of capped factors
pub capped-times : (a b : ℕ) → capped (capped a * b) ≡ capped (a * b)
capped-times a zero = ap capped (mul-zero (capped a) ∙ sym (mul-zero a))
capped-times a (suc b) =
    elim (cases_lt a 65537) [
      | inl h ↦ ap (λ z. capped (z * suc b)) (within a h)
      | inr h ↦ ap (λ z. capped (z * suc b)) (past a h) ∙ past (65537 * suc b) (product_past 65537 (suc b) (omega arith) (omega arith)) ∙ sym (past (a * suc b) (product_past a (suc b) h (omega arith)))
    ]

capped-both : (a b : ℕ) → capped (capped a * capped b) ≡ capped (a * b)
capped-both a b = capped-times a (capped b) ∙ ap capped (mul_comm a (capped b)) ∙ capped-times b a ∙ ap capped (mul_comm b a)

one_more : (m n : ℕ) → capped m ≡ capped n → capped (1 + m) ≡ capped (1 + n)
one_more m n h = omega arith

capped-next : (a b : ℕ) → capped (1 + capped a * capped b) ≡ capped (1 + a * b)
capped-next a b = one_more (capped a * capped b) (a * b) (capped-both a b)

capped-again : (a : ℕ) → capped (capped a) ≡ capped a
capped-again a = omega arith

-- one item more
pub capped-item : (c n : ℕ) → capped (1 + c * capped n) ≡ capped (1 + c * n)
capped-item c n = one_more (c * capped n) (c * n) (ap capped (mul_comm c (capped n)) ∙ capped-times n c ∙ ap capped (mul_comm n c))

-- one factor more
pub capped-pow_more : (b n : ℕ) → capped (capped (b ^ n) * b) ≡ capped (b ^ (n + 1))
capped-pow_more b n = capped-times (b ^ n) b ∙ ap capped (sym (pow_more b n))

capped-sequence_count : (c n : ℕ) → capped (sequence_count (capped c) n) ≡ capped (sequence_count c n)
capped-sequence_count c zero = refl
capped-sequence_count c (suc n) =
    sym (capped-next (capped c) (sequence_count (capped c) n)) ∙ (λ i. capped (1 + capped-again c i * capped-sequence_count c n i)) ∙ capped-next c (sequence_count c n)

sequences_none : (n : ℕ) → sequence_count 0 n ≡ 1
sequences_none zero = refl
sequences_none (suc n) = ap (λ z. 1 + z) (zero-mul (sequence_count 0 n))

sequences_one : (n : ℕ) → sequence_count 1 n ≡ 1 + 1 * n
sequences_one zero = refl
sequences_one (suc n) = omega (arith, sequences_one n)

sequences_two : (c n : ℕ) → 2 ≤ c → 2 ^ n ≤ sequence_count c n
sequences_two c zero h = omega arith
sequences_two c (suc n) h = omega (arith, pow-suc 2 n, mul-le 2 (2 ^ n) c (sequence_count c n) h (sequences_two c n h))

two_past : (n : ℕ) → 17 ≤ n → 65537 ≤ 2 ^ n
two_past n h = let p : 2 ^ 17 ≤ 2 ^ n = pow-le-pow_right {n = 2} (omega arith) h in omega arith

not_one : (c : ℕ) → nat_le (suc (suc c)) 1 ≡ false
not_one c = grind (arith, nat_tests)

capped_sequences-is : (c n : ℕ) → capped_sequences c n ≡ capped (sequence_count c n)
capped_sequences-is zero n = ap capped (ap (λ z. 1 + z) (zero-mul n) ∙ sym (sequences_none n))
capped_sequences-is (suc zero) n = ap capped (sym (sequences_one n))
capped_sequences-is (suc (suc c)) n =
    ap (λ b. capped (cond b (1 + suc (suc c) * n) (sequence_count (suc (suc c)) (min n 17)))) (not_one c) ∙
    elim (cases_lt n 17) [
      | inl h ↦ let e : min n 17 ≡ n = omega arith in ap (λ z. capped (sequence_count (suc (suc c)) z)) e
      | inr h ↦
          let e : min n 17 ≡ 17 = omega arith in
          let p : 65537 ≤ sequence_count (suc (suc c)) 17 = omega (arith, sequences_two (suc (suc c)) 17 (omega arith), two_past 17 (omega arith)) in
          let q : 65537 ≤ sequence_count (suc (suc c)) n = omega (arith, sequences_two (suc (suc c)) n (omega arith), two_past n h) in
          ap (λ z. capped (sequence_count (suc (suc c)) z)) e ∙ past _ p ∙ sym (past _ q)
    ]

capped-last : (x b : ℕ) → 0 < x → capped (x * (capped b + 1)) ≡ capped (x * (b + 1))
capped-last x b h =
    elim (cases_lt b 65537) [
      | inl l ↦ ap (λ z. capped (x * (z + 1))) (within b l)
      | inr l ↦
          let p : 65537 ≤ (capped b + 1) * x = product_past (capped b + 1) x (omega arith) h in
          let q : 65537 ≤ (b + 1) * x = product_past (b + 1) x (omega arith) h in
          ap capped (mul_comm x (capped b + 1)) ∙ past _ p ∙ sym (past _ q) ∙ ap capped (mul_comm (b + 1) x)
    ]

capped-base : (b n : ℕ) → capped ((capped b + 1) ^ n) ≡ capped ((b + 1) ^ n)
capped-base b zero = ap capped (pow-zero (capped b + 1) ∙ sym (pow-zero (b + 1)))
capped-base b (suc n) =
    let p : 1 ≤ (b + 1) ^ n = one-le-pow n (b + 1) (omega arith) in
    ap capped (pow-suc (capped b + 1) n) ∙ sym (capped-times ((capped b + 1) ^ n) (capped b + 1)) ∙ ap (λ z. capped (z * (capped b + 1))) (capped-base b n)
    ∙ capped-times ((b + 1) ^ n) (capped b + 1) ∙ capped-last ((b + 1) ^ n) b (omega arith) ∙ ap capped (sym (pow-suc (b + 1) n))

ones : (n : ℕ) → 1 ^ n ≡ 1
ones zero = refl
ones (suc n) = omega (arith, pow-suc 1 n, ones n)

power_past : (b n : ℕ) → 2 ≤ b → 17 ≤ n → 65537 ≤ b ^ n
power_past b n h k = omega (arith, two_past n k, pow-le-pow_left {n = 2} {m = b} h n)

capped-exponent : (b n : ℕ) → capped ((b + 1) ^ min (capped n) 17) ≡ capped ((b + 1) ^ n)
capped-exponent zero n = ap capped (ones (min (capped n) 17) ∙ sym (ones n))
capped-exponent (suc b) n =
    elim (cases_lt n 17) [
      | inl h ↦ let e : min (capped n) 17 ≡ n = omega arith in ap (λ z. capped ((suc b + 1) ^ z)) e
      | inr h ↦
          let e : min (capped n) 17 ≡ 17 = omega arith in
          ap (λ z. capped ((suc b + 1) ^ z)) e ∙ past _ (power_past (suc b + 1) 17 (omega arith) (omega arith)) ∙ sym (past _ (power_past (suc b + 1) n (omega arith) h))
    ]

capped_power-is : (b n : ℕ) → capped_power (capped b + 1) (capped n) ≡ capped ((b + 1) ^ n)
capped_power-is b n = capped-base b (min (capped n) 17) ∙ capped-exponent b n

pub count_of-counts : (s : PlainSort) → count_of s ≡ min (value_count s) 65537
unfolding value_count
count_of-counts never = refl
count_of-counts bools = refl
count_of-counts (ints lo hi) = refl
count_of-counts (pairs a b) = (λ i. capped (count_of-counts a i * count_of-counts b i)) ∙ capped-both (value_count a) (value_count b)
count_of-counts (sets a) = ap (capped_power 2) (count_of-counts a) ∙ capped_power-is 1 (value_count a)
count_of-counts (seqs a n) = ap (λ z. capped_sequences z n) (count_of-counts a) ∙ capped_sequences-is (capped (value_count a)) n ∙ capped-sequence_count (value_count a) n
count_of-counts (maps a b) = (λ i. capped_power (count_of-counts b i + 1) (count_of-counts a i)) ∙ capped_power-is (value_count b) (value_count a)
count_of-counts (enums ns) = refl
