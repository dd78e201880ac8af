-- Where a value stands among things that ascend.
use Rattle.std.proofs.Common.{◌≡◌, ℕ, ◌<◌, suc, zero, List, [], ◌∷◌, length, get_or, take, drop, map, sym, ap, ◌∙◌, arith, subst}
use Rattle.std.specs.declared.cmp.Ordering.TheVariants.{Equal, Greater}
use Rattle.std.specs.Ordering.{ordering_reverse}
use Rattle.kid_value.specs.PlainValue.{PlainValue}
use Rattle.kid_value.specs.ValueOrder.{value_cmp, Before}
use Rattle.kid_value.specs.ValueSet.{AllAfter, Ascends}
use Rattle.kid_value.proofs.ValueOrderLaws.{value_cmp-total, value_cmp-equal}
use Rattle.kid_value.proofs.ValueSetLaws.{AllAfter-before}

-- each is before v
abbrev pub AllBefore : PlainValue → List PlainValue → Type 0
AllBefore v [] = Unit {0}
AllBefore v (x ∷ xs) = Before x v × AllBefore v xs

pub greater-before : (x y : PlainValue) → Before x y → value_cmp y x ≡ Greater
greater-before x y p = value_cmp-total.antisymm y x ∙ ap ordering_reverse p

module _ {X : Type 0} (f : X → PlainValue) where
  -- what is before all is before each
  before_at : (w : PlainValue) (xs : List X) (i : ℕ) (x : X) → AllAfter w (map f xs) → i < length xs → x ≡ get_or xs i x → Before w (f x)
  before_at w [] i x a l e = absurd (omega arith)
  before_at w (y ∷ ys) zero x a l e = subst (λ z. Before w (f z)) (sym e) a.0
  before_at w (y ∷ ys) (suc i) x a l e = before_at w ys i x a.1 (omega arith) e

  -- a value that is after one of them is after all up to it
  pub before-taken : (v : PlainValue) (xs : List X) (i : ℕ) (x : X) → Ascends (map f xs) → i < length xs → x ≡ get_or xs i x → Before (f x) v → AllBefore v (map f (take (suc i) xs))
  before-taken v [] i x a l e b = absurd (omega arith)
  before-taken v (y ∷ ys) zero x a l e b = (subst (λ z. Before (f z) v) e b, tt)
  before-taken v (y ∷ ys) (suc i) x a l e b =
      (value_cmp-total.trans (f y) (f x) v (before_at (f y) ys i x a.0 (omega arith) e) b, before-taken v ys i x a.1 (omega arith) e b)

  -- a value that is before one of them is before all from it on
  pub after-dropped : (v : PlainValue) (xs : List X) (i : ℕ) (x : X) → Ascends (map f xs) → i < length xs → x ≡ get_or xs i x → Before v (f x) → AllAfter v (map f (drop i xs))
  after-dropped v [] i x a l e b = absurd (omega arith)
  after-dropped v (y ∷ ys) zero x a l e b =
      let b' : Before v (f y) = subst (λ z. Before v (f z)) e b in (b', AllAfter-before v (f y) (map f ys) b' a.0)
  after-dropped v (y ∷ ys) (suc i) x a l e b = after-dropped v ys i x a.1 (omega arith) e b

  -- a value that is equal to a later one is after the first
  pub greater-first : (v : PlainValue) (y : X) (ys : List X) (i : ℕ) (x : X) → AllAfter (f y) (map f ys) → i < length ys → x ≡ get_or ys i x → value_cmp v (f x) ≡ Equal → value_cmp v (f y) ≡ Greater
  greater-first v y ys i x a l e p =
      let same : v ≡ f x = value_cmp-equal v (f x) p in ap (λ z. value_cmp z (f y)) same ∙ greater-before (f y) (f x) (before_at (f y) ys i x a l e)
