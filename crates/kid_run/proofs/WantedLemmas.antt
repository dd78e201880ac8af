-- Events as far as values are wanted.
use Rattle.std.proofs.Common.{◌≡◌, ℕ, ◌-◌, zero, suc, Bool, true, false, List, [], ◌∷◌, Option, Some, None, refl, ap, arith}
use Rattle.std.proofs.lemmas.Bool.Decides.{nat_tests}
use Rattle.kid_value.specs.PlainValue.{PlainValue}
use Rattle.kid_prog.specs.Events.{Event, called, found}
use Rattle.kid_prog.specs.Running.{upto, upto_value}
use Rattle.kid_run.specs.Wanted.{has_all, after_one}

-- where more are wanted a call is begun
pub upto-called : (w : Option ℕ) (es : List Event) → has_all w ≡ false → upto_value w (called ∷ es) ≡ called ∷ upto_value w es
upto-called None es more = refl
upto-called (Some zero) es more = cc
upto-called (Some (suc k)) es more = refl

-- and where a value is found, one fewer is wanted
pub upto-found : (w : Option ℕ) (v : PlainValue) (es : List Event) → has_all w ≡ false → upto_value w (found v ∷ es) ≡ found v ∷ upto_value (after_one w) es
upto-found None v es more = refl
upto-found (Some zero) v es more = cc
upto-found (Some (suc k)) v es more = let e : k ≡ suc k - 1 = omega arith in ap (λ n. found v ∷ upto n es) e

-- where no more are wanted, nothing is done
pub upto-all : (w : Option ℕ) (es : List Event) → has_all w ≡ true → upto_value w es ≡ []
upto-all None es all = cc
upto-all (Some zero) es all = refl
upto-all (Some (suc k)) es all = let none : has_all (Some (suc k)) ≡ false = grind (arith, nat_tests) in cc
