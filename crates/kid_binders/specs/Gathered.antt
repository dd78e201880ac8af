-- Sets of the members that pass, and of the values that a term has.
use Rattle.std.specs.Prelude.{ℕ, not, cond, List, ◌&&◌}
use Rattle.kid_term.specs.PlainTerm.{PlainTerm, var, bind}
use Rattle.kid_term.specs.Names.{same_name}
use Rattle.kid_term.specs.Substitution.{mentions}
use Rattle.kid_term.specs.declared.operator.Binder.TheVariants.{All, Some, SetOf, Image}
use Rattle.kid_binders.specs.Shapes.{conjunction, implication, equation, member, all, some, image, as_equation, as_member}
use Rattle.kid_binders.specs.Outcome.{Outcome, no_match, capture, made, of_two, with_put}

-- (in y (setof x s p)) = (and (in y s) p[x:=y])
abbrev pub in_setof : PlainTerm → PlainTerm → Outcome
in_setof y (bind SetOf x s p) = with_put x y p (λ q. made (conjunction (member y s) q))
in_setof y t = no_match

abbrev pub b13 : PlainTerm → Outcome
b13 t = of_two (as_member t) in_setof

-- (all x (setof y s q) p) = (all x s (implies q[y:=x] p)), where x is y or not free in q
abbrev pub all_setof : List ℕ → PlainTerm → PlainTerm → Outcome
all_setof x (bind SetOf y s q) p =
    cond (mentions x q && not (same_name x y)) capture (with_put y (var x) q (λ r. made (all x s (implication r p))))
all_setof x t p = no_match

abbrev pub b14 : PlainTerm → Outcome
b14 (bind All x t p) = all_setof x t p
b14 t = no_match

-- (in y (image x s e)) = (some x s (eq y e)), x not free in y
abbrev pub in_image : PlainTerm → PlainTerm → Outcome
in_image y (bind Image x s e) = cond (mentions x y) capture (made (some x s (equation y e)))
in_image y t = no_match

abbrev pub b17 : PlainTerm → Outcome
b17 t = of_two (as_member t) in_image

-- (some x s (eq y e)) = (in y (image x s e)), x not free in y
abbrev pub b17_back : PlainTerm → Outcome
b17_back (bind Some x s q) = of_two (as_equation q) (λ y e. cond (mentions x y) capture (made (member y (image x s e))))
b17_back t = no_match
