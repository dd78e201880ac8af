-- What a form is that was not refused.
use Rattle.std.proofs.Common.{◌≡◌, Bool, true, false, Option, Some, None, Ok, Err, refl}
use Rattle.kid_theory.specs.Judged.{Judged, ◌>>=◌, shaped, tested}
use Rattle.kid_theory.specs.declared.fault.TheoryCode.{TheoryCode}

abbrev pub found : {A : Type 0} → A → Judged A
found x = Ok x

pub tested_ok : {A : Type 0} (b : Bool) (c : TheoryCode) (r : Judged A) (x : A) → tested b c r ≡ Ok x → (b ≡ true) × (r ≡ Ok x)
tested_ok true c r x p = (refl, p)
tested_ok false c r x p = cc

pub shaped_ok : {A B : Type 0} (o : Option A) (f : A → Judged B) (y : B) → (shaped o >>= f) ≡ Ok y → (x : A) × (o ≡ Some x) × (f x ≡ Ok y)
shaped_ok None f y p = cc
shaped_ok (Some x) f y p = (x, refl, p)

pub found_same : {A : Type 0} (x y : A) → found x ≡ found y → x ≡ y
found_same x y p = cc

pub bound_ok : {A B : Type 0} (r : Judged A) (f : A → Judged B) (y : B) → (r >>= f) ≡ Ok y → (x : A) × (r ≡ Ok x) × (f x ≡ Ok y)
bound_ok (Ok x) f y p = (x, refl, p)
bound_ok (Err c) f y p = cc
