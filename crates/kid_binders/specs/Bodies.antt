-- A binder and what its body is: both of two, a denial, or another binder.
use Rattle.std.specs.Prelude.{ℕ, cond, List, ◌&&◌}
use Rattle.kid_term.specs.PlainTerm.{PlainTerm, bind}
use Rattle.kid_term.specs.Names.{same_name}
use Rattle.kid_term.specs.Substitution.{mentions}
use Rattle.kid_term.specs.declared.operator.Binder.TheVariants.{All, Some}
use Rattle.kid_binders.specs.Same.{same_term}
use Rattle.kid_binders.specs.Shapes.{negated, conjunction, all, some, as_not, as_and}
use Rattle.kid_binders.specs.Outcome.{Outcome, no_match, capture, made, of_one, of_two}

-- (all x s (and p q)) = (and (all x s p) (all x s q))
abbrev pub b8 : PlainTerm → Outcome
b8 (bind All x s r) = of_two (as_and r) (λ p q. made (conjunction (all x s p) (all x s q)))
b8 t = no_match

-- (and (all x s p) (all x s q)) = (all x s (and p q))
abbrev pub over_one : PlainTerm → PlainTerm → Outcome
over_one (bind All x s p) (bind All y t q) = cond (same_name x y && same_term s t) (made (all x s (conjunction p q))) no_match
over_one l r = no_match

abbrev pub b8_back : PlainTerm → Outcome
b8_back t = of_two (as_and t) over_one

-- (some x s p) = (not (all x s (not p)))
abbrev pub b9 : PlainTerm → Outcome
b9 (bind Some x s p) = made (negated (all x s (negated p)))
b9 t = no_match

-- (not (all x s (not p))) = (some x s p)
abbrev pub none_not : PlainTerm → Outcome
none_not (bind All x s r) = of_one (as_not r) (λ p. made (some x s p))
none_not t = no_match

abbrev pub b9_back : PlainTerm → Outcome
b9_back t = of_one (as_not t) none_not

-- (all x s (all y t p)) = (all y t (all x s p)), x not free in t
abbrev pub swapped : List ℕ → PlainTerm → PlainTerm → Outcome
swapped x s (bind All y t p) = cond (mentions x t) capture (made (all y t (all x s p)))
swapped x s q = no_match

abbrev pub b10 : PlainTerm → Outcome
b10 (bind All x s q) = swapped x s q
b10 t = no_match

-- (all y t (all x s p)) = (all x s (all y t p)), x not free in t
abbrev pub swapped_back : List ℕ → PlainTerm → PlainTerm → Outcome
swapped_back y t (bind All x s p) = cond (mentions x t) capture (made (all x s (all y t p)))
swapped_back y t q = no_match

abbrev pub b10_back : PlainTerm → Outcome
b10_back (bind All y t q) = swapped_back y t q
b10_back t = no_match
