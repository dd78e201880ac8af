-- When a condition holds in a scope.
use Rattle.std.specs.Prelude.{Bool, true, false, ◌&&◌, ◌||◌, int_le, int_lt, List, [], ◌∷◌, Ok, Err}
use Rattle.kid_value.specs.PlainSort.{ints}
use Rattle.kid_value.specs.Rows.Parts.{truth_of}
use Rattle.kid_term.specs.PlainTerm.{PlainTerm, op, app, no_term, term}
use Rattle.kid_term.specs.Names.{PlainDef, latest_first}
use Rattle.kid_term.specs.Sorted.{Sorted}
use Rattle.kid_term.specs.Sorting.{least_sort, sort_of}
use Rattle.kid_term.specs.Eval.{eval, calls_of}
use Rattle.kid_term.specs.Closed.{is_closed}
use Rattle.kid_term.specs.declared.operator.Op.TheVariants.{Logic, Number}
use Rattle.kid_term.specs.declared.operator.LogicOp.TheVariants.{Not, And}
use Rattle.kid_term.specs.declared.operator.NumberOp.TheVariants.{Le, Lt}
use Rattle.kid_scope.specs.Same.{same_term}
use Rattle.kid_scope.specs.Scope.{PlainScope}

abbrev pub stands_in : PlainTerm → List PlainTerm → Bool
stands_in c [] = false
stands_in c (f ∷ fs) = same_term c f || stands_in c fs

abbrev pub has_a_sort : Sorted → Bool
has_a_sort (Ok s) = true
has_a_sort (Err fault) = false

-- the upper bound of the first is at most, or less than, the lower bound of the second
abbrev pub lies_at_most : Sorted → Sorted → Bool
lies_at_most (Ok (ints a b)) (Ok (ints c d)) = int_le b c
lies_at_most r q = false

abbrev pub lies_below : Sorted → Sorted → Bool
lies_below (Ok (ints a b)) (Ok (ints c d)) = int_lt b c
lies_below r q = false

module _ (defs : List PlainDef) (sc : PlainScope) where
  abbrev pub sort_here : PlainTerm → Sorted
  sort_here t = least_sort (latest_first defs) sc.names t

  -- a fact, or assumed
  abbrev pub is_given : PlainTerm → Bool
  is_given c = stands_in c sc.facts || stands_in c sc.assumed

  -- without a free name, and true
  abbrev pub is_plainly_true : PlainTerm → Bool
  is_plainly_true c = is_closed c && truth_of (eval (calls_of defs) [] c)

  -- true by the least sorts of both sides
  abbrev pub by_bounds : PlainTerm → Bool
  by_bounds (app (op (Number Le)) (term a (term b no_term))) = lies_at_most (sort_here a) (sort_here b)
  by_bounds (app (op (Number Lt)) (term a (term b no_term))) = lies_below (sort_here a) (sort_here b)
  by_bounds (app (op (Logic Not)) (term (app (op (Number Le)) (term a (term b no_term))) no_term)) = lies_below (sort_here b) (sort_here a)
  by_bounds c = false

  abbrev pub holds_whole : PlainTerm → Bool
  holds_whole c = is_given c || is_plainly_true c || by_bounds c

  -- as it stands, or as both parts of a conjunction
  abbrev pub is_held : PlainTerm → Bool
  is_held (app (op (Logic And)) (term a (term b no_term))) = holds_whole (app (op (Logic And)) (term a (term b no_term))) || (is_held a && is_held b)
  is_held c = holds_whole c

  -- a condition that has no sort in the scope does not hold
  abbrev pub holds : PlainTerm → Bool
  holds c = has_a_sort (sort_of defs sc.names c) && is_held c
