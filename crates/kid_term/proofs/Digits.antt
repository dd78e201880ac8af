-- Numbers of n places to a base, given by the digits other than 0 with their places, the highest first.
use Rattle.std.proofs.Common.{◌≡◌, ℕ, suc, ◌+◌, ◌-◌, ◌*◌, ◌^◌, ◌<◌, ◌≤◌, List, [], ◌∷◌, ap, ◌∙◌, arith}
use Rattle.std.proofs.Math.Nat.{pow-suc, one-le-pow, pow-le-pow_right, mul-le-mul_right}

module _ (n base : ℕ) (large : 0 < base) where
  abbrev pub number_of_digits : List (ℕ × ℕ) → ℕ
  number_of_digits [] = 0
  number_of_digits (d ∷ ds) = d.1 * base ^ (n - suc d.0) + number_of_digits ds

  -- the places ascend from k on
  abbrev pub Placed : ℕ → List (ℕ × ℕ) → Type 0
  Placed k [] = Unit {0}
  Placed k (d ∷ ds) = (k ≤ d.0) × (d.0 < n) × (0 < d.1) × (d.1 < base) × Placed (suc d.0) ds

  next_power : (r : ℕ) → r < n → base ^ (n - r) ≡ base ^ (n - suc r) * base
  next_power r p = let e : n - r ≡ suc (n - suc r) = omega arith in ap (λ z. base ^ z) e ∙ pow-suc base (n - suc r)

  pub number-lt : (ds : List (ℕ × ℕ)) (k : ℕ) → k ≤ n → Placed k ds → number_of_digits ds < base ^ (n - k)
  number-lt [] k p h = omega (arith, one-le-pow (n - k) base large)
  number-lt (d ∷ ds) k p h =
      let rest = number-lt ds (suc d.0) h.1 h.4 in
      let whole : suc d.1 * base ^ (n - suc d.0) ≤ base * base ^ (n - suc d.0) = mul-le-mul_right (base ^ (n - suc d.0)) h.3 in
      let up : base ^ (n - d.0) ≤ base ^ (n - k) = pow-le-pow_right large (omega arith) in
      omega (arith, rest, whole, up, next_power d.0 h.1)

  -- of two numbers the one whose first place is higher is greater
  pub later-lt : (ds es : List (ℕ × ℕ)) (r d : ℕ) → r < n → 0 < d → Placed (suc r) ds → number_of_digits ds < number_of_digits ((r, d) ∷ es)
  later-lt ds es r d p q h =
      let rest = number-lt ds (suc r) p h in
      let one : 1 * base ^ (n - suc r) ≤ d * base ^ (n - suc r) = mul-le-mul_right (base ^ (n - suc r)) q in
      omega (arith, rest, one)

  -- and at one place the greater digit decides
  pub digit-lt : (ds es : List (ℕ × ℕ)) (r c d : ℕ) → r < n → c < d → Placed (suc r) ds → number_of_digits ((r, c) ∷ ds) < number_of_digits ((r, d) ∷ es)
  digit-lt ds es r c d p q h =
      let rest = number-lt ds (suc r) p h in
      let more : suc c * base ^ (n - suc r) ≤ d * base ^ (n - suc r) = mul-le-mul_right (base ^ (n - suc r)) (omega arith) in
      omega (arith, rest, more)
