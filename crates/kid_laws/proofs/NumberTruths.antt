-- The laws of numbers are true.
use Rattle.std.proofs.Common.{◌≡◌, zero, suc, ℤ, pos, negsuc, ◌+ℤ◌, ◌≤ℤ◌, Bool, true, false, cond, refl, sym, ap, arith}
use Rattle.std.specs.Prelude.{int_le, ◌*ℤ◌}
use Rattle.std.proofs.Math.IntN.{+ℤ_assoc, +ℤ_comm, +ℤ_invr, *ℤ_comm, *ℤ-one, one, zero-*ℤ, suc_ℤ-*ℤ, pred_ℤ-*ℤ}
use Rattle.std.proofs.lemmas.Int.{ints as int_rules}
use Rattle.kid_value.specs.PlainValue.{int, bool}
use Rattle.kid_term.proofs.Products.{scaled}
use Rattle.kid_term.specs.Eval.{Env, Calls}
use Rattle.kid_laws.specs.Truth.{IsTrue}
use Rattle.kid_laws.specs.NumberLaws.{e14, e15, e16, e17, e18, e19, e21, e22, e23, e24, e25, e26, e27, m2, m3, m5}

spread : (a b c : ℤ) → (a *ℤ (b +ℤ c)) ≡ ((a *ℤ b) +ℤ (a *ℤ c))
spread (pos zero) b c = omega (arith, int_rules, zero-*ℤ (b +ℤ c), zero-*ℤ b, zero-*ℤ c)
spread (pos (suc k)) b c = omega (arith, int_rules, spread (pos k) b c, suc_ℤ-*ℤ (pos k) (b +ℤ c), suc_ℤ-*ℤ (pos k) b, suc_ℤ-*ℤ (pos k) c)
spread (negsuc zero) b c = omega (arith, int_rules, zero-*ℤ (b +ℤ c), zero-*ℤ b, zero-*ℤ c, pred_ℤ-*ℤ (pos 0) (b +ℤ c), pred_ℤ-*ℤ (pos 0) b, pred_ℤ-*ℤ (pos 0) c)
spread (negsuc (suc k)) b c = omega (arith, int_rules, spread (negsuc k) b c, pred_ℤ-*ℤ (negsuc k) (b +ℤ c), pred_ℤ-*ℤ (negsuc k) b, pred_ℤ-*ℤ (negsuc k) c)

pub le_of : (a b : ℤ) → int_le a b ≡ true → a ≤ℤ b
le_of a b h = grind (arith, int_rules)

pub is_le : (a b : ℤ) → a ≤ℤ b → int_le a b ≡ true
is_le a b h = grind (arith, int_rules)

times_le : (a b c : ℤ) → a ≤ℤ b → pos 0 ≤ℤ c → (a *ℤ c) ≤ℤ (b *ℤ c)
times_le a b (pos k) h p = omega (arith, int_rules, scaled k a b h, *ℤ_comm a (pos k), *ℤ_comm b (pos k))
times_le a b (negsuc k) h p = absurd (omega (arith, int_rules))

module _ (calls : Calls) (base : Env) where
  pub e14_true : IsTrue calls base e14
  e14_true a b = ap int (+ℤ_comm a b)

  pub e15_true : IsTrue calls base e15
  e15_true a b c = ap int (sym (+ℤ_assoc a b c))

  pub e16_true : IsTrue calls base e16
  e16_true a = ap int (omega (arith, int_rules))

  pub e17_true : IsTrue calls base e17
  e17_true a b = refl

  pub e18_true : IsTrue calls base e18
  e18_true a = ap int (+ℤ_invr a)

  pub e19_true : IsTrue calls base e19
  e19_true a b = ap int (*ℤ_comm a b)

  pub e21_true : IsTrue calls base e21
  unfolding one
  e21_true a = ap int (*ℤ-one a)

  pub e22_true : IsTrue calls base e22
  e22_true a b c = ap int (spread a b c)

  pub e23_true : IsTrue calls base e23
  e23_true a b = ap bool (grind (arith, int_rules))

  pub e24_true : IsTrue calls base e24
  e24_true a c b = ap bool (grind (arith, int_rules))

  pub e25_true : IsTrue calls base e25
  e25_true a b = ap bool (grind (arith, int_rules))

  pub e26_true : IsTrue calls base e26
  e26_true a b = by (int_le a b) refl
    where
      by : (t : Bool) → int_le a b ≡ t → int (Rattle.std.specs.Int.int_max a b) ≡ cond t (int b) (int a)
      by true h = ap int (grind (arith, int_rules))
      by false h = ap int (grind (arith, int_rules))

  pub e27_true : IsTrue calls base e27
  e27_true a b = by (int_le a b) refl
    where
      by : (t : Bool) → int_le a b ≡ t → int (Rattle.std.specs.Int.int_min a b) ≡ cond t (int a) (int b)
      by true h = ap int (grind (arith, int_rules))
      by false h = ap int (grind (arith, int_rules))

  pub m2_true : IsTrue calls base m2
  m2_true a (int b) c h k = ap bool (grind (arith, int_rules))
  m2_true a b c h k = cc

  pub m3_true : IsTrue calls base m3
  m3_true a b c d h k = ap bool (grind (arith, int_rules))

  pub m5_true : IsTrue calls base m5
  m5_true a b c h k = ap bool (is_le _ _ (times_le a b c (le_of a b h) (le_of (pos 0) c k)))
