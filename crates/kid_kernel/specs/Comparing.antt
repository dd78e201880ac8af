-- The parts of a conjunction, and what a condition compares.
use Rattle.std.specs.Prelude.{Option, Some, None}
use Rattle.kid_term.specs.PlainTerm.{PlainTerm, op, app, PlainTerms, no_term, term}
use Rattle.kid_term.specs.declared.operator.Op.TheVariants.{Logic, Number}
use Rattle.kid_term.specs.declared.operator.LogicOp.TheVariants.{Not, And}
use Rattle.kid_term.specs.declared.operator.NumberOp.TheVariants.{Le, Lt}

-- of two terms the first is at most the second, or less than it
pub data PlainComparison : Type 0 where
  is_at_most : PlainTerm → PlainTerm → PlainComparison
  is_below : PlainTerm → PlainTerm → PlainComparison

abbrev pub conjuncts : PlainTerm → Option (PlainTerm × PlainTerm)
conjuncts (app (op (Logic And)) (term a (term b no_term))) = Some (a, b)
conjuncts t = None

abbrev pub at_most : PlainTerms → Option PlainComparison
at_most (term a (term b no_term)) = Some (is_at_most a b)
at_most ts = None

abbrev pub below : PlainTerms → Option PlainComparison
below (term a (term b no_term)) = Some (is_below a b)
below ts = None

-- what is not at most another lies above it
abbrev pub above : PlainTerms → Option PlainComparison
above (term a (term b no_term)) = Some (is_below b a)
above ts = None

abbrev pub turned : PlainTerm → Option PlainComparison
turned (app (op (Number Le)) ts) = above ts
turned t = None

abbrev pub not_at_most : PlainTerms → Option PlainComparison
not_at_most (term t no_term) = turned t
not_at_most ts = None

abbrev pub compared : PlainTerm → Option PlainComparison
compared (app (op (Number Le)) ts) = at_most ts
compared (app (op (Number Lt)) ts) = below ts
compared (app (op (Logic Not)) ts) = not_at_most ts
compared t = None
