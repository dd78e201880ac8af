-- The body at a member in the name's place, p[x:=t].
use Rattle.kid_term.specs.PlainTerm.{PlainTerm, bind}
use Rattle.kid_term.specs.declared.operator.Binder.TheVariants.{All, Some, SumOf}
use Rattle.kid_binders.specs.Shapes.{negated, conjunction, sum_of, member, all, sumof, as_single, as_with}
use Rattle.kid_binders.specs.Outcome.{Outcome, no_match, made, made_if, of_one, of_two, with_put}

-- (all x (set t) p) = p[x:=t]
abbrev pub b4 : PlainTerm → Outcome
b4 (bind All x s p) = of_one (as_single s) (λ t. with_put x t p made)
b4 t = no_match

-- (some x (set t) p) = p[x:=t]
abbrev pub b5 : PlainTerm → Outcome
b5 (bind Some x s p) = of_one (as_single s) (λ t. with_put x t p made)
b5 t = no_match

-- if (not (in t s)): (sumof x (with t s) a) = (add (sumof x s a) a[x:=t])
abbrev pub b16 : PlainTerm → Outcome
b16 (bind SumOf x u a) = of_two (as_with u) (λ t s. with_put x t a (λ c. made_if (negated (member t s)) (sum_of (sumof x s a) c)))
b16 t = no_match

-- argument t; if (in t s): (all x s p) = (and p[x:=t] (all x s p))
abbrev pub b18 : PlainTerm → PlainTerm → Outcome
b18 t (bind All x s p) = with_put x t p (λ q. made_if (member t s) (conjunction q (all x s p)))
b18 t u = no_match
