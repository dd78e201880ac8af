-- One binder over two sets, and over a part of its set.
use Rattle.std.specs.Prelude.{cond, ◌&&◌}
use Rattle.kid_term.specs.PlainTerm.{PlainTerm, bind}
use Rattle.kid_term.specs.Names.{same_name}
use Rattle.kid_term.specs.declared.operator.Binder.TheVariants.{All, Some}
use Rattle.kid_binders.specs.Same.{same_term}
use Rattle.kid_binders.specs.Shapes.{conjunction, disjunction, subset, union, all, some, as_and, as_or, as_union}
use Rattle.kid_binders.specs.Outcome.{Outcome, no_match, made, made_if, of_two}

-- (all x (union s t) p) = (and (all x s p) (all x t p))
abbrev pub b6 : PlainTerm → Outcome
b6 (bind All x u p) = of_two (as_union u) (λ s t. made (conjunction (all x s p) (all x t p)))
b6 t = no_match

-- (and (all x s p) (all x t p)) = (all x (union s t) p)
abbrev pub both_all : PlainTerm → PlainTerm → Outcome
both_all (bind All x s p) (bind All y t q) = cond (same_name x y && same_term p q) (made (all x (union s t) p)) no_match
both_all l r = no_match

abbrev pub b6_back : PlainTerm → Outcome
b6_back t = of_two (as_and t) both_all

-- (some x (union s t) p) = (or (some x s p) (some x t p))
abbrev pub b7 : PlainTerm → Outcome
b7 (bind Some x u p) = of_two (as_union u) (λ s t. made (disjunction (some x s p) (some x t p)))
b7 t = no_match

-- (or (some x s p) (some x t p)) = (some x (union s t) p)
abbrev pub both_some : PlainTerm → PlainTerm → Outcome
both_some (bind Some x s p) (bind Some y t q) = cond (same_name x y && same_term p q) (made (some x (union s t) p)) no_match
both_some l r = no_match

abbrev pub b7_back : PlainTerm → Outcome
b7_back t = of_two (as_or t) both_some

-- argument t; if (subset t s): (all x s p) = (and (all x t p) (all x s p))
abbrev pub b12 : PlainTerm → PlainTerm → Outcome
b12 t (bind All x s p) = made_if (subset t s) (conjunction (all x t p) (all x s p))
b12 t u = no_match

-- if (subset t s): (and (all x t p) (all x s p)) = (all x s p)
abbrev pub part_and_whole : PlainTerm → PlainTerm → Outcome
part_and_whole (bind All x t p) (bind All y s q) = cond (same_name x y && same_term p q) (made_if (subset t s) (all y s q)) no_match
part_and_whole l r = no_match

abbrev pub b12_back : PlainTerm → Outcome
b12_back t = of_two (as_and t) part_and_whole
