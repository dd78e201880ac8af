-- The laws of truth values and equality are true.
use Rattle.std.proofs.Common.{◌≡◌, Bool, true, false, refl, ap}
use Rattle.std.specs.Prelude.{◌&&◌}
use Rattle.kid_value.specs.PlainValue.{bool}
use Rattle.kid_value.proofs.ValueSetLaws.{value_eq-itself, value_eq-comm}
use Rattle.kid_term.specs.Eval.{Env, Calls}
use Rattle.kid_laws.specs.Truth.{IsTrue}
use Rattle.kid_laws.specs.LogicLaws.{e1, e2, e3, e4, e5, e6, e7, e8, e9, e10, e11, e12, e13, m1}

module _ (calls : Calls) (base : Env) where
  pub e1_true : IsTrue calls base e1
  e1_true p q = ap bool (by p q)
    where
      by : (p q : Bool) → (p && q) ≡ (q && p)
      by true true = refl
      by true false = refl
      by false true = refl
      by false false = refl

  pub e2_true : IsTrue calls base e2
  e2_true true q r = refl
  e2_true false q r = refl

  pub e3_true : IsTrue calls base e3
  e3_true true = refl
  e3_true false = refl

  pub e4_true : IsTrue calls base e4
  e4_true true = refl
  e4_true false = refl

  pub e5_true : IsTrue calls base e5
  e5_true true = refl
  e5_true false = refl

  pub e6_true : IsTrue calls base e6
  e6_true true q = refl
  e6_true false true = refl
  e6_true false false = refl

  pub e7_true : IsTrue calls base e7
  e7_true true = refl
  e7_true false = refl

  pub e8_true : IsTrue calls base e8
  e8_true p q = refl

  pub e9_true : IsTrue calls base e9
  e9_true p = refl

  pub e10_true : IsTrue calls base e10
  e10_true x y = refl

  pub e11_true : IsTrue calls base e11
  e11_true x y = refl

  pub e12_true : IsTrue calls base e12
  e12_true x = ap bool (value_eq-itself x)

  pub e13_true : IsTrue calls base e13
  e13_true x y = ap bool (value_eq-comm x y)

  pub m1_true : IsTrue calls base m1
  m1_true x = ap bool (value_eq-itself x)
