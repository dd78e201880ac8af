-- What was found by a test or in parts.
use Rattle.std.proofs.Common.{◌≡◌, ◌⊎◌, inl, inr, ℕ, ℤ, Bool, true, false, List, [], ◌∷◌, Option, Some, None, refl, sym, ap, ◌∙◌}
use Rattle.std.specs.Prelude.{◌&&◌, ◌||◌, option_map, if◌then◌else◌}
use Rattle.std.specs.Fmt.{signed_decimal}
use Rattle.std.specs.List.{list_all}
use Rattle.std.specs.Str.{bytes_eq}
use Rattle.std.specs.Str.Parse.{signed_digits_value}
use Rattle.kid_value.specs.SortOrder.{both}
use Rattle.kid_value.specs.SortLimits.{in_limits}
use Rattle.kid_value.proofs.SortLemmas.{and_parts}
use Rattle.kid_codec.specs.Number.{number_of}
use Rattle.kid_codec.specs.Reading.{◌>>=◌}
use Rattle.kid_codec.specs.Word.{first_with}
use Rattle.kid_codec.proofs.Numbers.{bytes_eq-true}

pub same_some : {A : Type 0} (x y : A) → Some x ≡ Some y → x ≡ y
same_some x y p = cc

pub either_true : (b c : Bool) → (b || c) ≡ true → (b ≡ true) ⊎ (c ≡ true)
either_true true c p = inl refl
either_true false c p = inr p

pub or_true : (b c : Bool) → c ≡ true → (b || c) ≡ true
or_true true c p = refl
or_true false c p = p

pub if_some : {A : Type 0} (b : Bool) (x : Option A) (z : A) → (if b then x else None) ≡ Some z → (b ≡ true) × (x ≡ Some z)
if_some true x z p = (refl, p)
if_some false x z p = cc

pub if_else : {A : Type 0} (b : Bool) (x y : Option A) (z : A) → (if b then x else y) ≡ Some z → ((b ≡ true) × (x ≡ Some z)) ⊎ ((b ≡ false) × (y ≡ Some z))
if_else true x y z p = inl (refl, p)
if_else false x y z p = inr (refl, p)

pub mapped : {A B : Type 0} (f : A → B) (o : Option A) (z : B) → option_map f o ≡ Some z → (x : A) × (o ≡ Some x) × (f x ≡ z)
mapped f None z p = cc
mapped f (Some x) z p = (x, refl, same_some (f x) z p)

pub both_some : {A B C : Type 0} (f : A → B → C) (a : Option A) (b : Option B) (z : C) → both f a b ≡ Some z → (x : A) × (y : B) × (a ≡ Some x) × (b ≡ Some y) × (f x y ≡ z)
both_some f (Some x) (Some y) z p = (x, y, refl, refl, same_some (f x y) z p)
both_some f (Some x) None z p = cc
both_some f None b z p = cc

pub bind_some : {A B : Type 0} (o : Option A) (f : A → Option B) (z : B) → (o >>= f) ≡ Some z → (x : A) × (o ≡ Some x) × (f x ≡ Some z)
bind_some None f z p = cc
bind_some (Some x) f z p = (x, refl, p)

pub first_with-word : {A : Type 0} (word : A → List ℕ) (xs : List A) (w : List ℕ) (x : A) → first_with word xs w ≡ Some x → w ≡ word x
first_with-word word [] w x p = cc
first_with-word word (y ∷ ys) w x p =
    elim (if_else (bytes_eq w (word y)) (Some y) (first_with word ys w) x p) [
      | inl r ↦ bytes_eq-true w (word y) r.0 ∙ ap word (same_some y x r.1)
      | inr r ↦ first_with-word word ys w x r.1
    ]

pub first_with-all : {A : Type 0} (word : A → List ℕ) (test : A → Bool) (xs : List A) (w : List ℕ) (x : A) → first_with word xs w ≡ Some x → list_all test xs ≡ true → test x ≡ true
first_with-all word test [] w x p h = cc
first_with-all word test (y ∷ ys) w x p h =
    let r = and_parts (test y) (list_all test ys) h in
    elim (if_else (bytes_eq w (word y)) (Some y) (first_with word ys w) x p) [
      | inl q ↦ ap test (sym (same_some y x q.1)) ∙ r.0
      | inr q ↦ first_with-all word test ys w x q.1 r.1
    ]

pub number_from : (w : List ℕ) (n : ℤ) → number_of w ≡ Some n → (w ≡ signed_decimal n) × (in_limits n ≡ true)
number_from w n p =
    let m : ℤ = signed_digits_value 10 w in
    let r = if_some (bytes_eq w (signed_decimal m) && in_limits m) (Some m) n p in
    let q = and_parts (bytes_eq w (signed_decimal m)) (in_limits m) r.0 in
    let e = same_some m n r.1 in
    (bytes_eq-true w (signed_decimal m) q.0 ∙ ap signed_decimal e, ap in_limits (sym e) ∙ q.1)
