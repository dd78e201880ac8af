-- Sums of integers between bounds.
use Rattle.std.proofs.Common.{◌≡◌, ℕ, zero, suc, ◌+◌, ◌≤◌, ℤ, ◌+ℤ◌, true, List, [], ◌∷◌, refl, ap, ◌∙◌, subst, arith, length}
use Rattle.std.specs.Prelude.{pos, negsuc, ◌*ℤ◌, ◌≤ℤ◌}
use Rattle.std.proofs.Math.IntN.{suc_ℤ-*ℤ, *ℤ_comm, zero-*ℤ}
use Rattle.std.proofs.lemmas.Int.{ints as int_rules}
use Rattle.kid_value.specs.PlainValue.{PlainValue, int}
use Rattle.kid_value.specs.PlainSort.{ints}
use Rattle.kid_value.specs.Rows.Parts.{number_of, total}
use Rattle.kid_value.proofs.SortLemmas.{and_both}
use Rattle.kid_term.specs.Small.{is_small}
use Rattle.kid_value.specs.Rows.Sums.{sums_small}
use Rattle.kid_term.specs.Fitting.{IsOfSort}
use Rattle.kid_term.proofs.Inversions.{int_of}
use Rattle.kid_term.proofs.Members.{Each}
use Rattle.kid_term.proofs.NumberSound.{within}
use Rattle.kid_term.proofs.Products.{scaled, turned}

next_multiple : (k k' : ℕ) (a : ℤ) → k' ≡ k + 1 → pos k' *ℤ a ≡ (pos k *ℤ a) +ℤ a
next_multiple k k' a e = let f : suc k ≡ k' = omega arith in subst (λ z. pos z *ℤ a ≡ (pos k *ℤ a) +ℤ a) f (suc_ℤ-*ℤ (pos k) a)

-- more of what is not positive is no greater
pub multiples_fall : (j k : ℕ) (a : ℤ) → j ≤ k → a ≤ℤ pos 0 → (pos k *ℤ a) ≤ℤ (pos j *ℤ a)
multiples_fall j k (pos zero) p q = omega (arith, int_rules, *ℤ_comm (pos k) (pos 0), *ℤ_comm (pos j) (pos 0), zero-*ℤ (pos k), zero-*ℤ (pos j))
multiples_fall j k (pos (suc n)) p q = absurd (omega (arith, int_rules))
multiples_fall j k (negsuc n) p q =
    let h : pos j ≤ℤ pos k = omega (arith, int_rules) in
    omega (arith, int_rules, *ℤ_comm (pos k) (negsuc n), *ℤ_comm (pos j) (negsuc n), turned n (pos j) (pos k) h)

pub multiples_grow : (j k : ℕ) (a : ℤ) → j ≤ k → pos 0 ≤ℤ a → (pos j *ℤ a) ≤ℤ (pos k *ℤ a)
multiples_grow j k (negsuc n) p q = absurd (omega (arith, int_rules))
multiples_grow j k (pos n) p q =
    let h : pos j ≤ℤ pos k = omega (arith, int_rules) in
    omega (arith, int_rules, *ℤ_comm (pos k) (pos n), *ℤ_comm (pos j) (pos n), scaled n (pos j) (pos k) h)

-- integers from lo to hi, which lie between a number that is not positive and one that is not negative
module _ (lo hi low high : ℤ) (below : low ≤ℤ pos 0) (under : low ≤ℤ lo) (above : pos 0 ≤ℤ high) (over : hi ≤ℤ high) where
  pub record SumLies (k : ℕ) (n : ℤ) : Type 0 where
    pub at_least : (pos k *ℤ low) ≤ℤ n
    pub at_most : n ≤ℤ (pos k *ℤ high)

  one_more : (k k' : ℕ) (m n s : ℤ) → k' ≡ k + 1 → lo ≤ℤ m → m ≤ℤ hi → s ≡ n +ℤ m → SumLies k n → SumLies k' s
  one_more k k' m n s e p q f h =
      record {
        at_least = omega (arith, int_rules, next_multiple k k' low e, h.at_least);
        at_most = omega (arith, int_rules, next_multiple k k' high e, h.at_most);
      }

  pub total_lies : (vs : List PlainValue) → Each (IsOfSort (ints lo hi)) vs → SumLies (length vs) (total vs)
  total_lies [] h = record { at_least = omega (arith, int_rules, zero-*ℤ low); at_most = omega (arith, int_rules, zero-*ℤ high) }
  total_lies (v ∷ vs) h =
      let i = int_of lo hi v h.0.has in
      let e : number_of v +ℤ total vs ≡ total vs +ℤ i.0 = ap (λ w. number_of w +ℤ total vs) i.1 ∙ omega (arith, int_rules) in
      one_more (length vs) (length (v ∷ vs)) i.0 (total vs) (number_of v +ℤ total vs) (omega arith) i.2 i.3 e (total_lies vs h.1)

  module _ (num : ℕ) (small : negsuc 4611686018427387903 ≤ℤ (pos num *ℤ low)) (small' : (pos num *ℤ high) ≤ℤ pos 4611686018427387904) where
    small_sum : (k : ℕ) (n : ℤ) → k ≤ num → SumLies k n → is_small (int n) ≡ true
    small_sum k n p h =
        within (negsuc 4611686018427387903) (pos 4611686018427387904) n
        (omega (arith, int_rules, multiples_fall k num low p below, h.at_least)) (omega (arith, int_rules, multiples_grow k num high p above, h.at_most))

    pub sums_stay : (vs : List PlainValue) (k : ℕ) (n : ℤ) → Each (IsOfSort (ints lo hi)) vs → k + length vs ≤ num → SumLies k n → sums_small n vs ≡ true
    sums_stay [] k n h p q = small_sum k n (omega arith) q
    sums_stay (v ∷ vs) k n h p q =
        let i = int_of lo hi v h.0.has in
        let e : n +ℤ number_of v ≡ n +ℤ i.0 = ap (λ w. n +ℤ number_of w) i.1 in
        and_both (is_small (int n)) (sums_small (n +ℤ number_of v) vs) (small_sum k n (omega arith) q)
        (sums_stay vs (k + 1) (n +ℤ number_of v) h.1 (omega arith) (one_more k (k + 1) i.0 n (n +ℤ number_of v) refl i.2 i.3 e q))
