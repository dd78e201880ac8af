-- The names at a place of a term, and what may be used as true there.
use Rattle.std.specs.Prelude.{ℕ, zero, suc, List, [], ◌∷◌, ◌++◌, Ok}
use Rattle.kid_value.specs.PlainSort.{PlainSort, never, sets}
use Rattle.kid_term.specs.PlainTerm.{PlainHead, op, PlainTerm, var, number, truth, tag, app, bind, PlainTerms, no_term, term}
use Rattle.kid_term.specs.Names.{Names, PlainDef}
use Rattle.kid_term.specs.Sorted.{Sorted}
use Rattle.kid_term.specs.Sorting.{least_sort}
use Rattle.kid_term.specs.declared.operator.Op.TheVariants.{Logic, Set}
use Rattle.kid_term.specs.declared.operator.LogicOp.TheVariants.{Not, And, Implies, If}
use Rattle.kid_term.specs.declared.operator.SetOp.TheVariants as set_word

-- names with their sorts, the innermost first; the facts of a proof, numbered from 1; and what the way down to the place lets be assumed besides
pub record PlainScope : Type 0 where
  pub names : Names
  pub facts : List PlainTerm
  pub assumed : List PlainTerm

abbrev pub negated : PlainTerm → PlainTerm
negated p = app (op (Logic Not)) (term p no_term)

abbrev pub member : PlainTerm → PlainTerm → PlainTerm
member t s = app (op (Set set_word.In)) (term t (term s no_term))

abbrev pub first_alone : PlainTerms → List PlainTerm
first_alone no_term = []
first_alone (term t ts) = t ∷ []

abbrev pub negated_first : PlainTerms → List PlainTerm
negated_first no_term = []
negated_first (term t ts) = negated t ∷ []

-- in the second argument of `and` or `implies` the first is assumed, in the second of `if` its condition, and in the third its negation
abbrev pub assumptions : PlainHead → ℕ → PlainTerms → List PlainTerm
assumptions (op (Logic And)) (suc zero) ts = first_alone ts
assumptions (op (Logic Implies)) (suc zero) ts = first_alone ts
assumptions (op (Logic If)) (suc zero) ts = first_alone ts
assumptions (op (Logic If)) (suc (suc zero)) ts = negated_first ts
assumptions h i ts = []

abbrev pub with_assumed : PlainScope → List PlainTerm → PlainScope
with_assumed sc ts = record { names = sc.names; facts = sc.facts; assumed = sc.assumed ++ ts }

abbrev pub element_sort : Sorted → PlainSort
element_sort (Ok (sets a)) = a
element_sort r = never

-- in the body of a binder its name has the sort of its set's elements, and is assumed to be a member
abbrev pub under_binder : PlainScope → List ℕ → Sorted → PlainTerm → PlainScope
under_binder sc x of_set s = record { names = (x, element_sort of_set) ∷ sc.names; facts = sc.facts; assumed = sc.assumed ++ member (var x) s ∷ [] }

-- the scope at the path, over definitions of which the last comes first
module _ (known : List PlainDef) where
  abbrev mutual
    pub scope_at : PlainTerm → List ℕ → PlainScope → PlainScope
    scope_at t [] sc = sc
    scope_at (var x) (i ∷ path) sc = sc
    scope_at (number n) (i ∷ path) sc = sc
    scope_at (truth b) (i ∷ path) sc = sc
    scope_at (tag n) (i ∷ path) sc = sc
    scope_at (app h ts) (i ∷ path) sc = scope_among ts i path (with_assumed sc (assumptions h i ts))
    scope_at (bind b x s t) (zero ∷ path) sc = scope_at s path sc
    scope_at (bind b x s t) (suc zero ∷ path) sc = scope_at t path (under_binder sc x (least_sort known sc.names s) s)
    scope_at (bind b x s t) (suc (suc i) ∷ path) sc = sc

    pub scope_among : PlainTerms → ℕ → List ℕ → PlainScope → PlainScope
    scope_among no_term i path sc = sc
    scope_among (term t ts) zero path sc = scope_at t path sc
    scope_among (term t ts) (suc i) path sc = scope_among ts i path sc
