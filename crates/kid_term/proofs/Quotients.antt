-- Quotients and rests of integers between bounds.
use Rattle.std.proofs.Common.{◌≡◌, ℕ, zero, suc, ◌-◌, ◌/◌, ◌%◌, ◌<◌, ◌≤◌, true, false, ◌⊎◌, inl, inr, cond, refl, sym, ap, subst, arith}
use Rattle.std.specs.Prelude.{ℤ, pos, negsuc, neg_ℤ, ◌-ℤ◌, ◌≤ℤ◌, unsigned_abs}
use Rattle.std.specs.Int.{int_min, int_max, int_div_euclid, int_rem_euclid}
use Rattle.std.specs.Ordering.{int_eq}
use Rattle.std.proofs.Math.Nat.{div-le_self, div-mul-le_self, mul-le-mul_left, mod-lt}
use Rattle.std.proofs.lemmas.Nat.{le-div}
use Rattle.std.proofs.lemmas.Int.{ints as int_rules, clamps}
use Rattle.kid_value.specs.Rows.Number.{quotient, remainder}
use Rattle.kid_term.specs.NumberSorts.{greatest_size}

div_grows : (k x y : ℕ) → 0 < k → x ≤ y → x / k ≤ y / k
div_grows k x y p q = le-div (x / k) y k p (omega (arith, div-mul-le_self x k))

div_falls : (k l x : ℕ) → 0 < k → k ≤ l → x / l ≤ x / k
div_falls k l x p q = le-div (x / l) x k p (omega (arith, div-mul-le_self x l, mul-le-mul_left (x / l) q))

-- a divisor from 1 on
module _ (k : ℕ) (p : 0 < k) where
  pub quotient_grows : (m n : ℤ) → m ≤ℤ n → int_div_euclid m (pos k) ≤ℤ int_div_euclid n (pos k)
  quotient_grows (pos x) (pos y) h = let q : x ≤ y = omega (arith, int_rules) in omega (arith, int_rules, div_grows k x y p q)
  quotient_grows (pos x) (negsuc y) h = absurd (omega (arith, int_rules))
  quotient_grows (negsuc x) (pos y) h = omega (arith, int_rules)
  quotient_grows (negsuc x) (negsuc y) h = let q : y ≤ x = omega (arith, int_rules) in omega (arith, int_rules, div_grows k y x p q)

-- a divisor between two others is met by the floor at one of them
pub floor_low : (a : ℤ) (c n d : ℕ) → 0 < c → c ≤ n → n ≤ d → int_min (int_div_euclid a (pos c)) (int_div_euclid a (pos d)) ≤ℤ int_div_euclid a (pos n)
floor_low (pos x) c n d p q r = let h : x / d ≤ x / n = div_falls n d x (omega arith) r in omega (arith, int_rules, clamps)
floor_low (negsuc x) c n d p q r = let h : x / n ≤ x / c = div_falls c n x p q in omega (arith, int_rules, clamps)

pub floor_high : (b : ℤ) (c n d : ℕ) → 0 < c → c ≤ n → n ≤ d → int_div_euclid b (pos n) ≤ℤ int_max (int_div_euclid b (pos c)) (int_div_euclid b (pos d))
floor_high (pos x) c n d p q r = let h : x / n ≤ x / c = div_falls c n x p q in omega (arith, int_rules, clamps)
floor_high (negsuc x) c n d p q r = let h : x / d ≤ x / n = div_falls n d x (omega arith) r in omega (arith, int_rules, clamps)

nonzero : (n : ℤ) → pos 1 ≤ℤ n → int_eq n (pos 0) ≡ false
nonzero n h = grind (arith, int_rules)

quotient_is : (m n : ℤ) → pos 1 ≤ℤ n → quotient m n ≡ int_div_euclid m n
quotient_is m n h = ap (λ e. cond e (pos 0) (int_div_euclid m n)) (nonzero n h)

abbrev LiesBetween : ℤ → ℤ → ℤ → Type 0
LiesBetween lo hi n = (lo ≤ℤ n) × (n ≤ℤ hi)

-- the quotient by a divisor from 1 on
pub quotient_floors : (a b c d m n : ℤ) → pos 1 ≤ℤ c → a ≤ℤ m → m ≤ℤ b → c ≤ℤ n → n ≤ℤ d
    → LiesBetween (int_min (int_div_euclid a c) (int_div_euclid a d)) (int_max (int_div_euclid b c) (int_div_euclid b d)) (quotient m n)
quotient_floors a b c d m n one p q r s =
    subst (LiesBetween (int_min (int_div_euclid a c) (int_div_euclid a d)) (int_max (int_div_euclid b c) (int_div_euclid b d)))
    (sym (quotient_is m n (omega (arith, int_rules)))) (by c n d one r s)
  where
    by : (c n d : ℤ) → pos 1 ≤ℤ c → c ≤ℤ n → n ≤ℤ d
        → LiesBetween (int_min (int_div_euclid a c) (int_div_euclid a d)) (int_max (int_div_euclid b c) (int_div_euclid b d)) (int_div_euclid m n)
    by (pos i) (pos j) (pos k) one r s =
        let x : 0 < i = omega (arith, int_rules) in
        let y : 0 < j = omega (arith, int_rules) in
        let u : i ≤ j = omega (arith, int_rules) in
        let v : j ≤ k = omega (arith, int_rules) in
        (omega (arith, int_rules, floor_low a i j k x u v, quotient_grows j y a m p), omega (arith, int_rules, floor_high b i j k x u v, quotient_grows j y m b q))
    by (negsuc i) n d one r s = absurd (omega (arith, int_rules))
    by (pos i) (negsuc j) d one r s = absurd (omega (arith, int_rules))
    by (pos i) (pos j) (negsuc k) one r s = absurd (omega (arith, int_rules))

-- a quotient by a divisor other than 0 is no greater in size than the dividend
euclid_size : (m n : ℤ) → 0 < unsigned_abs n → unsigned_abs (int_div_euclid m n) ≤ unsigned_abs m
euclid_size (pos x) (pos y) h = div-le_self x y
euclid_size (pos x) (negsuc y) h = omega (arith, int_rules, div-le_self x (suc y), size_neg (x / suc y))
  where
    size_neg : (k : ℕ) → unsigned_abs (neg_ℤ (pos k)) ≡ k
    size_neg zero = refl
    size_neg (suc k) = refl
euclid_size (negsuc x) (pos y) h = omega (arith, int_rules, div-le_self x y)
euclid_size (negsuc x) (negsuc y) h = omega (arith, int_rules, div-le_self x (suc y))

zero_or : (n : ℤ) → ((int_eq n (pos 0) ≡ true) × (n ≡ pos 0)) ⊎ ((int_eq n (pos 0) ≡ false) × (0 < unsigned_abs n))
zero_or (pos zero) = inl (refl, refl)
zero_or (pos (suc n)) = inr (grind (arith, int_rules), omega arith)
zero_or (negsuc n) = inr (grind (arith, int_rules), omega arith)

size_within : (a b m : ℤ) → a ≤ℤ m → m ≤ℤ b → unsigned_abs m ≤ greatest_size a b
size_within (pos a) (pos b) (pos m) p q = omega (arith, int_rules)
size_within (pos a) (negsuc b) (pos m) p q = omega (arith, int_rules)
size_within (negsuc a) (pos b) (pos m) p q = omega (arith, int_rules)
size_within (negsuc a) (negsuc b) (pos m) p q = omega (arith, int_rules)
size_within (pos a) b (negsuc m) p q = omega (arith, int_rules)
size_within (negsuc a) (pos b) (negsuc m) p q = omega (arith, int_rules)
size_within (negsuc a) (negsuc b) (negsuc m) p q = omega (arith, int_rules)

from_size : (q : ℤ) (k : ℕ) → unsigned_abs q ≤ k → LiesBetween (pos 0 -ℤ pos k) (pos k) q
from_size (pos n) k h = (omega (arith, int_rules), omega (arith, int_rules))
from_size (negsuc n) k h = (omega (arith, int_rules), omega (arith, int_rules))

pub quotient_size : (a b m n : ℤ) → a ≤ℤ m → m ≤ℤ b → LiesBetween (pos 0 -ℤ pos (greatest_size a b)) (pos (greatest_size a b)) (quotient m n)
quotient_size a b m n p q = by (zero_or n)
  where
    by : ((int_eq n (pos 0) ≡ true) × (n ≡ pos 0)) ⊎ ((int_eq n (pos 0) ≡ false) × (0 < unsigned_abs n)) → LiesBetween (pos 0 -ℤ pos (greatest_size a b)) (pos (greatest_size a b)) (quotient m n)
    by (inl z) = rw (z.0) (from_size (pos 0) (greatest_size a b) (omega arith))
    by (inr z) = rw (z.0) (from_size (int_div_euclid m n) (greatest_size a b) (omega (arith, euclid_size m n z.1, size_within a b m p q)))

-- a rest is from 0 on and less than the size of the divisor
rest_below : (m n : ℤ) → 0 < unsigned_abs n → (k : ℕ) × (int_rem_euclid m n ≡ pos k) × (k < unsigned_abs n)
rest_below (pos x) n h = (x % unsigned_abs n, refl, mod-lt x h)
rest_below (negsuc x) n h = (unsigned_abs n - 1 - x % unsigned_abs n, refl, omega arith)

pub rest_within : (c d m n : ℤ) → c ≤ℤ n → n ≤ℤ d → LiesBetween (pos 0) (pos (greatest_size c d - 1)) (remainder m n)
rest_within c d m n p q = by (zero_or n)
  where
    size : unsigned_abs n ≤ greatest_size c d
    size = size_within c d n p q

    by : ((int_eq n (pos 0) ≡ true) × (n ≡ pos 0)) ⊎ ((int_eq n (pos 0) ≡ false) × (0 < unsigned_abs n)) → LiesBetween (pos 0) (pos (greatest_size c d - 1)) (remainder m n)
    by (inl z) = rw (z.0) (omega (arith, int_rules), omega (arith, int_rules))
    by (inr z) =
        let r = rest_below m n z.1 in
        let low : pos 0 ≤ℤ pos r.0 = omega (arith, int_rules) in
        let high : pos r.0 ≤ℤ pos (greatest_size c d - 1) = omega (arith, int_rules, r.2, size) in
        rw (z.0, r.1) (low, high)
