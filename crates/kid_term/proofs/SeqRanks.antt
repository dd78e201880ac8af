-- The numbers of sequences of at most so many items, a shorter one before those that begin with it.
use Rattle.std.proofs.Common.{◌≡◌, ℕ, zero, suc, ◌+◌, ◌*◌, ◌<◌, ◌≤◌, List, [], ◌∷◌, Ordering, refl, ap, arith, length}
use Rattle.std.specs.declared.cmp.Ordering.TheVariants.{Less, Equal, Greater}
use Rattle.std.specs.Ordering.{ordering_then}
use Rattle.std.proofs.lemmas.Nat.{mul-add-lt}
use Rattle.std.proofs.Math.Nat.{mul-le-mul_right}
use Rattle.kid_value.specs.PlainValue.{PlainValue, PlainValues, none, more, items}
use Rattle.kid_value.specs.SortCount.{sequence_count}
use Rattle.kid_value.specs.ValueOrder.{value_cmp, seq_cmp}
use Rattle.kid_value.proofs.ValueOrderLaws.{value_cmp-equal}
use Rattle.kid_term.proofs.Members.{Each}
use Rattle.kid_term.proofs.Ranks.{Ranked}

abbrev pub seq_number : ℕ → (PlainValue → ℕ) → ℕ → List PlainValue → ℕ
seq_number c r n [] = 0
seq_number c r zero (v ∷ vs) = 0
seq_number c r (suc n) (v ∷ vs) = 1 + (r v * sequence_count c n + seq_number c r n vs)

module _ (P : PlainValue → Type 0) (r : PlainValue → ℕ) (c : ℕ) (k : Ranked P r c) where
  some_sequence : (n : ℕ) → 0 < sequence_count c n
  some_sequence zero = omega arith
  some_sequence (suc n) = omega arith

  pub seq_number-below : (n : ℕ) (vs : List PlainValue) → Each P vs → length vs ≤ n → seq_number c r n vs < sequence_count c n
  seq_number-below n [] h p = some_sequence n
  seq_number-below zero (v ∷ vs) h p = absurd (omega arith)
  seq_number-below (suc n) (v ∷ vs) h p = omega (arith, mul-add-lt (r v) (sequence_count c n) (seq_number c r n vs) c (k.below v h.0) (seq_number-below n vs h.1 (omega arith)))

  pub seq_number-lt : (n : ℕ) (vs ws : PlainValues) → Each P (items vs) → length (items vs) ≤ n → Each P (items ws) → length (items ws) ≤ n → seq_cmp vs ws ≡ Less
      → seq_number c r n (items vs) < seq_number c r n (items ws)
  seq_number-lt n none none h p h' p' e = cc
  seq_number-lt zero none (more w ws) h p h' p' e = absurd (omega arith)
  seq_number-lt (suc n) none (more w ws) h p h' p' e = omega arith
  seq_number-lt n (more v vs) none h p h' p' e = cc
  seq_number-lt zero (more v vs) (more w ws) h p h' p' e = absurd (omega arith)
  seq_number-lt (suc n) (more v vs) (more w ws) h p h' p' e = by (value_cmp v w) refl e (seq_number-lt n vs ws h.1 (omega arith) h'.1 (omega arith))
    where
      by : (o : Ordering) → value_cmp v w ≡ o → ordering_then o (seq_cmp vs ws) ≡ Less → (seq_cmp vs ws ≡ Less → seq_number c r n (items vs) < seq_number c r n (items ws))
          → seq_number c r (suc n) (items (more v vs)) < seq_number c r (suc n) (items (more w ws))
      by Less q t ih =
          let low : seq_number c r n (items vs) < sequence_count c n = seq_number-below n (items vs) h.1 (omega arith) in
          let step : suc (r v) * sequence_count c n ≤ r w * sequence_count c n = mul-le-mul_right (sequence_count c n) (k.grows v w h.0 h'.0 q) in
          omega (arith, low, step)
      by Equal q t ih = let s : r v * sequence_count c n ≡ r w * sequence_count c n = ap (λ z. r z * sequence_count c n) (value_cmp-equal v w q) in omega (arith, ih t, s)
      by Greater q t ih = cc
