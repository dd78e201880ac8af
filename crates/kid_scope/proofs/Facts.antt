-- Facts by their numbers, the sides of equations, and rows of terms.
use Rattle.std.proofs.Common.{◌≡◌, ◌≢◌, ℕ, zero, suc, ◌<◌, ◌≤◌, List, [], ◌∷◌, Some, None, map, length, refl, ap, arith}
use Rattle.std.specs.Prelude.{get_or}
use Rattle.kid_term.specs.PlainTerm.{PlainTerm, op, app, terms, term_row}
use Rattle.kid_term.specs.TermView.{plain_term}
use Rattle.kid_term.specs.declared.Term.{Term}
use Rattle.kid_term.specs.declared.operator.Op.TheVariants.{Logic}
use Rattle.kid_term.specs.declared.operator.LogicOp.TheVariants.{Eq}
use Rattle.kid_scope.specs.Using.{nth, sides_of}

pub nth_there : (ts : List Term) (i : ℕ) (d : Term) → i < length ts → Some (plain_term (get_or ts i d)) ≡ nth (map plain_term ts) i
nth_there [] i d h = absurd (omega (arith, h))
nth_there (t ∷ ts) zero d h = refl
nth_there (t ∷ ts) (suc i) d h = nth_there ts i d (omega (arith, h))

pub nth_beyond : (ts : List Term) (i : ℕ) → length ts ≤ i → None ≡ nth (map plain_term ts) i
nth_beyond [] i h = refl
nth_beyond (t ∷ ts) zero h = absurd (omega (arith, h))
nth_beyond (t ∷ ts) (suc i) h = nth_beyond ts i (omega (arith, h))

pub two_sides : (ts : List Term) (a b : Term) → ts ≡ a ∷ b ∷ [] → sides_of (app (op (Logic Eq)) (term_row (map plain_term ts))) ≡ Some (plain_term a, plain_term b)
two_sides ts a b e = ap (λ l. sides_of (app (op (Logic Eq)) (term_row (map plain_term l)))) e

pub no_sides : (ts : List Term) → length ts ≢ 2 → sides_of (app (op (Logic Eq)) (term_row (map plain_term ts))) ≡ None
no_sides [] n = refl
no_sides (a ∷ []) n = refl
no_sides (a ∷ b ∷ []) n = absurd (n refl)
no_sides (a ∷ b ∷ c ∷ ts) n = refl

pub terms_row : (ts : List PlainTerm) → terms (term_row ts) ≡ ts
terms_row [] = refl
terms_row (t ∷ ts) = ap (λ l. t ∷ l) (terms_row ts)
