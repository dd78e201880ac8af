-- A sum with one more value, where each sum on the way stays small.
use Rattle.std.proofs.Common.{◌≡◌, ℕ, ◌+◌, ◌<◌, zero, suc, ℤ, ◌+ℤ◌, true, List, [], ◌∷◌, map, length, drop, get_or, sym, ap, subst, arith}
use Rattle.std.proofs.lemmas.Int.{ints as int_rules}
use Rattle.kid_value.specs.SortLimits.{in_limits}
use Rattle.kid_value.specs.PlainValue.{PlainValue}
use Rattle.kid_value.specs.Rows.Parts.{number_of, total as total_of}
use Rattle.kid_value.specs.ValueView.{plain}
use Rattle.kid_value.specs.declared.value.Value.{Value}
use Rattle.kid_value.proofs.SortLemmas.{and_parts}
use Rattle.kid_value.specs.Rows.Sums.{sums_small}

pub record Added (vs : List Value) (i j : ℕ) (v : Value) (n : ℤ) : Type 0 where
  pub fits : in_limits (n +ℤ number_of (plain v)) ≡ true
  pub small : sums_small (n +ℤ number_of (plain v)) (map plain (drop j vs)) ≡ true
  pub sums : (n +ℤ number_of (plain v)) +ℤ total_of (map plain (drop j vs)) ≡ n +ℤ total_of (map plain (drop i vs))

first_small : (n : ℤ) (vs : List PlainValue) → sums_small n vs ≡ true → in_limits n ≡ true
first_small n [] h = h
first_small n (v ∷ vs) h = (and_parts (in_limits n) (sums_small (n +ℤ number_of v) vs) h).0

added_one : (vs : List Value) (i : ℕ) (v : Value) (n : ℤ) → i < length vs → v ≡ get_or vs i v → sums_small n (map plain (drop i vs)) ≡ true → Added vs i (suc i) v n
added_one [] i v n p q h = absurd (omega arith)
added_one (w ∷ vs) zero v n p q h =
    let r = and_parts (in_limits n) (sums_small (n +ℤ number_of (plain w)) (map plain vs)) h in
    let e : number_of (plain w) ≡ number_of (plain v) = ap (λ z. number_of (plain z)) (sym q) in
    let s : sums_small (n +ℤ number_of (plain v)) (map plain vs) ≡ true = subst (λ z. sums_small (n +ℤ z) (map plain vs) ≡ true) e r.1 in
    record { fits = first_small _ (map plain vs) s; small = s; sums = omega (arith, int_rules) }
added_one (w ∷ vs) (suc i) v n p q h = let r = added_one vs i v n (omega arith) q h in record { fits = r.fits; small = r.small; sums = r.sums }

pub added_small : (vs : List Value) (i j : ℕ) (v : Value) (n : ℤ) → j ≡ i + 1 → i < length vs → v ≡ get_or vs i v → sums_small n (map plain (drop i vs)) ≡ true → Added vs i j v n
added_small vs i j v n e p q h = let f : suc i ≡ j = omega arith in subst (λ z. Added vs i z v n) f (added_one vs i v n p q h)
