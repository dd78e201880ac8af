-- Rules by a law or an axiom of the theory, over any way to find the terms of its variables.
use Rattle.std.specs.Prelude.{◌≡◌, ℕ, Bool, true, false, ◌||◌, nat_eq, cond, List, [], ◌∷◌, ◌++◌, map, length, Option, Some, None, Result, Ok, Err}
use Rattle.kid_term.specs.PlainTerm.{PlainTerm}
use Rattle.kid_term.specs.Names.{same_name, Names}
use Rattle.kid_term.specs.Simultaneous.{Subst, substituted, captures_any}
use Rattle.kid_term.specs.PlainLaw.{PlainConclusion, equal, holds, PlainLaw}
use Rattle.kid_term.specs.PlainTheory.{PlainTheory}
use Rattle.kid_term.specs.declared.why.Why.{Why}
use Rattle.kid_term.specs.declared.why.Why.TheVariants.{UnknownLaw, Capture}
use Rattle.kid_scope.specs.Rewriting.{PlainInstance, Rule}
use Rattle.kid_scope.specs.Instances.{no_match}
use Rattle.kid_scope.specs.LawInstances.{sorts_for}
use Rattle.kid_scope.specs.Unfolding.{paired}

-- of variables, the side that they stand in, arguments and a term: the term of each variable
abbrev pub Way : Type 0
Way = List (List ℕ) → PlainTerm → List PlainTerm → PlainTerm → Option (List PlainTerm)

abbrev pub names_of : Names → List (List ℕ)
names_of vs = map (λ v. v.0) vs

-- with the terms that it finds the side is the term, and none of their names is bound
abbrev pub StandsFor : Way → Type 0
StandsFor m =
    (vs : Names) (side : PlainTerm) (args : List PlainTerm) (old : PlainTerm) (ts : List PlainTerm) → m (names_of vs) side args old ≡ Some ts
    → (length ts ≡ length vs) × (substituted (paired vs ts) side ≡ old) × (captures_any (paired vs ts) side ≡ false)

-- the first of the name
abbrev pub law_named : List ℕ → List PlainLaw → Option PlainLaw
law_named f [] = None
law_named f (l ∷ ls) = cond (same_name f l.name) (Some l) (law_named f ls)

-- whether a name of the terms that are put in would be bound in one of these
abbrev pub some_bound : Subst → List PlainTerm → Bool
some_bound σ [] = false
some_bound σ (t ∷ ts) = captures_any σ t || some_bound σ ts

-- a term under conditions, with a term of its variable's sort in the place of each variable
abbrev pub put_in : Names → List PlainTerm → List PlainTerm → PlainTerm → Result PlainInstance Why
put_in vs ts cs new =
    cond (some_bound (paired vs ts) (new ∷ cs)) (Err Capture)
    (Ok (record { conditions = map (substituted (paired vs ts)) cs; term = substituted (paired vs ts) new; within = sorts_for vs ts }))

-- ---- a side of an equation becomes the other

abbrev pub put_found : Option (List PlainTerm) → PlainLaw → PlainTerm → Result PlainInstance Why
put_found None law new = no_match
put_found (Some ts) law new = put_in law.variables ts law.conditions new

module _ (m : Way) where
  abbrev pub by_sides : PlainLaw → PlainTerm → PlainTerm → List PlainTerm → PlainTerm → Result PlainInstance Why
  by_sides law from to args old = put_found (m (names_of law.variables) from args old) law to

  -- a law that says that a term is true has no sides
  abbrev pub by_conclusion : Bool → PlainLaw → PlainConclusion → List PlainTerm → PlainTerm → Result PlainInstance Why
  by_conclusion false law (equal l r) args old = by_sides law l r args old
  by_conclusion true law (equal l r) args old = by_sides law r l args old
  by_conclusion back law (holds c) args old = Err UnknownLaw

  abbrev pub by_named : Bool → Option PlainLaw → List PlainTerm → PlainTerm → Result PlainInstance Why
  by_named back None args old = Err UnknownLaw
  by_named back (Some law) args old = by_conclusion back law law.conclusion args old

  -- the law or axiom of the name f, from left to right or back
  abbrev pub by_law : List ℕ → Bool → List PlainTerm → Rule
  by_law f back args = λ t sc old. by_named back (law_named f (t.laws ++ t.axioms)) args old

-- ---- what a law says of a term for each of its variables

abbrev pub concluded_of : PlainLaw → PlainConclusion → List PlainTerm → Result PlainInstance Why
concluded_of law (equal l r) ts = Err UnknownLaw
concluded_of law (holds c) ts = cond (nat_eq (length ts) (length law.variables)) (put_in law.variables ts law.conditions c) no_match

abbrev pub concluded_named : Option PlainLaw → List PlainTerm → Result PlainInstance Why
concluded_named None ts = Err UnknownLaw
concluded_named (Some law) ts = concluded_of law law.conclusion ts

-- that the term is true which the law or axiom of the name f says to be true
abbrev pub law_conclusion : List ℕ → List PlainTerm → PlainTheory → Result PlainInstance Why
law_conclusion f ts t = concluded_named (law_named f (t.laws ++ t.axioms)) ts
