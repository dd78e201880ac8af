-- Binders over the empty set, and one whose body is true.
use Rattle.std.specs.Prelude.{pos, true, false, cond}
use Rattle.kid_term.specs.PlainTerm.{PlainTerm, number, truth, bind}
use Rattle.kid_term.specs.declared.operator.Binder.TheVariants.{All, Some, SumOf}
use Rattle.kid_binders.specs.Shapes.{is_true, is_empty}
use Rattle.kid_binders.specs.Outcome.{Outcome, no_match, made}

-- (all x (set) p) = true
abbrev pub b2 : PlainTerm → Outcome
b2 (bind All x s p) = cond (is_empty s) (made (truth true)) no_match
b2 t = no_match

-- (some x (set) p) = false
abbrev pub b3 : PlainTerm → Outcome
b3 (bind Some x s p) = cond (is_empty s) (made (truth false)) no_match
b3 t = no_match

-- (all x s true) = true
abbrev pub b11 : PlainTerm → Outcome
b11 (bind All x s p) = cond (is_true p) (made (truth true)) no_match
b11 t = no_match

-- (sumof x (set) a) = 0
abbrev pub b15 : PlainTerm → Outcome
b15 (bind SumOf x s a) = cond (is_empty s) (made (number (pos 0))) no_match
b15 t = no_match
