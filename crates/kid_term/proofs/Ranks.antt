-- A number for each value, less than a count, that ascends with the value.
use Rattle.std.proofs.Common.{◌≡◌, ℕ, ◌+◌, ◌<◌, ◌≤◌, List, [], ◌∷◌, arith, length}
use Rattle.std.specs.declared.cmp.Ordering.TheVariants.{Less}
use Rattle.kid_value.specs.PlainValue.{PlainValue}
use Rattle.kid_value.specs.ValueOrder.{value_cmp}
use Rattle.kid_value.specs.ValueSet.{Ascends}
use Rattle.kid_term.proofs.Members.{Each}

-- numbers below n that ascend with the values of which P holds
pub record Ranked (P : PlainValue → Type 0) (r : PlainValue → ℕ) (n : ℕ) : Type 0 where
  pub below : (v : PlainValue) → P v → r v < n
  pub grows : (v w : PlainValue) → P v → P w → value_cmp v w ≡ Less → r v < r w

-- values that ascend are no more than the numbers
pub ranked-length : (P : PlainValue → Type 0) (r : PlainValue → ℕ) (n : ℕ) → Ranked P r n → (vs : List PlainValue) → Each P vs → Ascends vs → length vs ≤ n
ranked-length P r n k [] h a = omega arith
ranked-length P r n k (v ∷ vs) h a = omega (arith, from v vs h.0 h.1 a)
  where
    from : (v : PlainValue) (vs : List PlainValue) → P v → Each P vs → Ascends (v ∷ vs) → length vs + r v < n
    from v [] p h a = omega (arith, k.below v p)
    from v (w ∷ vs) p h a = omega (arith, from w vs h.0 h.1 a.1, k.grows v w p h.0 a.0.0)
