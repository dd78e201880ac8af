-- The ends of a search lie within the limits of integers.
use Rattle.std.proofs.Common.{◌≡◌, Bool, true, false, ◌&&◌, refl}
use Rattle.std.specs.Prelude.{ℤ, pos, neg_ℤ, int_lt, int_le}
use Rattle.kid_top.specs.Emitted.{has_ends}

both : (a b c : Bool) → (a && b && c) ≡ true → (a ≡ true) × (c ≡ true)
both true true true e = (refl, refl)
both true true false e = cc
both true false c e = cc
both false b c e = cc

pub ends_low : (lo hi : ℤ) → has_ends lo hi ≡ true → int_lt (neg_ℤ (pos 4611686018427387904)) lo ≡ true
ends_low lo hi e = (both (int_lt (neg_ℤ (pos 4611686018427387904)) lo) (int_le lo hi) (int_lt hi (pos 4611686018427387904)) e).0

pub ends_high : (lo hi : ℤ) → has_ends lo hi ≡ true → int_lt hi (pos 4611686018427387904) ≡ true
ends_high lo hi e = (both (int_lt (neg_ℤ (pos 4611686018427387904)) lo) (int_le lo hi) (int_lt hi (pos 4611686018427387904)) e).1

pub ruleset ends = (ends_low, ends_high)
