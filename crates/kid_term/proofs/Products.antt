-- Products of signed numbers between bounds.
use Rattle.std.proofs.Common.{ℕ, zero, suc, subst, arith}
use Rattle.std.specs.Prelude.{ℤ, pos, negsuc, ◌*ℤ◌, ◌≤ℤ◌}
use Rattle.std.proofs.Math.IntN.{suc_ℤ-*ℤ, pred_ℤ-*ℤ, zero-*ℤ, *ℤ_comm}
use Rattle.std.proofs.lemmas.Int.{ints}

pub scaled : (k : ℕ) (a b : ℤ) → a ≤ℤ b → (pos k *ℤ a) ≤ℤ (pos k *ℤ b)
scaled zero a b le = omega (arith, ints, zero-*ℤ a, zero-*ℤ b)
scaled (suc k) a b le = omega (arith, ints, scaled k a b le, suc_ℤ-*ℤ (pos k) a, suc_ℤ-*ℤ (pos k) b)

pub turned : (k : ℕ) (a b : ℤ) → a ≤ℤ b → (negsuc k *ℤ b) ≤ℤ (negsuc k *ℤ a)
turned zero a b le = omega (arith, ints, zero-*ℤ a, zero-*ℤ b, pred_ℤ-*ℤ (pos 0) a, pred_ℤ-*ℤ (pos 0) b)
turned (suc k) a b le = omega (arith, ints, turned k a b le, pred_ℤ-*ℤ (negsuc k) a, pred_ℤ-*ℤ (negsuc k) b)

-- a product is not under a bound that the products at both ends are not under
pub above_ends : (c lo hi x bound : ℤ) → lo ≤ℤ x → x ≤ℤ hi → bound ≤ℤ (c *ℤ lo) → bound ≤ℤ (c *ℤ hi) → bound ≤ℤ (c *ℤ x)
above_ends (pos k) lo hi x bound low high p q = omega (arith, ints, scaled k lo x low, p)
above_ends (negsuc k) lo hi x bound low high p q = omega (arith, ints, turned k x hi high, q)

pub below_ends : (c lo hi x bound : ℤ) → lo ≤ℤ x → x ≤ℤ hi → (c *ℤ lo) ≤ℤ bound → (c *ℤ hi) ≤ℤ bound → (c *ℤ x) ≤ℤ bound
below_ends (pos k) lo hi x bound low high p q = omega (arith, ints, scaled k x hi high, q)
below_ends (negsuc k) lo hi x bound low high p q = omega (arith, ints, turned k lo x low, p)

flipped_up : (a b bound : ℤ) → bound ≤ℤ (a *ℤ b) → bound ≤ℤ (b *ℤ a)
flipped_up a b bound h = subst (λ (z : ℤ). bound ≤ℤ z) (*ℤ_comm a b) h

flipped_down : (a b bound : ℤ) → (a *ℤ b) ≤ℤ bound → (b *ℤ a) ≤ℤ bound
flipped_down a b bound h = subst (λ (z : ℤ). z ≤ℤ bound) (*ℤ_comm a b) h

-- a bound under the products of the four pairs of ends is under each product between them
pub above_corners : (la ha lb hb a b bound : ℤ) → la ≤ℤ a → a ≤ℤ ha → lb ≤ℤ b → b ≤ℤ hb
    → bound ≤ℤ (la *ℤ lb) → bound ≤ℤ (la *ℤ hb) → bound ≤ℤ (ha *ℤ lb) → bound ≤ℤ (ha *ℤ hb) → bound ≤ℤ (a *ℤ b)
above_corners la ha lb hb a b bound lowa higha lowb highb p q r s =
    let at_low = above_ends la lb hb b bound lowb highb p q in
    let at_high = above_ends ha lb hb b bound lowb highb r s in
    flipped_up b a bound (above_ends b la ha a bound lowa higha (flipped_up la b bound at_low) (flipped_up ha b bound at_high))

pub below_corners : (la ha lb hb a b bound : ℤ) → la ≤ℤ a → a ≤ℤ ha → lb ≤ℤ b → b ≤ℤ hb
    → (la *ℤ lb) ≤ℤ bound → (la *ℤ hb) ≤ℤ bound → (ha *ℤ lb) ≤ℤ bound → (ha *ℤ hb) ≤ℤ bound → (a *ℤ b) ≤ℤ bound
below_corners la ha lb hb a b bound lowa higha lowb highb p q r s =
    let at_low = below_ends la lb hb b bound lowb highb p q in
    let at_high = below_ends ha lb hb b bound lowb highb r s in
    flipped_down b a bound (below_ends b la ha a bound lowa higha (flipped_down la b bound at_low) (flipped_down ha b bound at_high))
