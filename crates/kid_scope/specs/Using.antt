-- What a numbered fact makes of a term: of one side of an equation the other, and of any other fact the word true.
use Rattle.std.specs.Prelude.{ℕ, zero, suc, Bool, true, false, cond, List, [], ◌∷◌, Option, Some, None, Result}
use Rattle.kid_term.specs.PlainTerm.{PlainTerm, op, truth, app, no_term, term}
use Rattle.kid_term.specs.declared.operator.Op.TheVariants.{Logic}
use Rattle.kid_term.specs.declared.operator.LogicOp.TheVariants.{Eq}
use Rattle.kid_term.specs.declared.why.Why.{Why}
use Rattle.kid_scope.specs.Same.{same_term}
use Rattle.kid_scope.specs.Rewriting.{PlainInstance, Rule}
use Rattle.kid_scope.specs.Instances.{no_match, just}

abbrev pub nth : List PlainTerm → ℕ → Option PlainTerm
nth [] k = None
nth (t ∷ ts) zero = Some t
nth (t ∷ ts) (suc k) = nth ts k

-- the fact of a number, counted from 1
abbrev pub fact_at : List PlainTerm → ℕ → Option PlainTerm
fact_at facts zero = None
fact_at facts (suc k) = nth facts k

abbrev pub sides_of : PlainTerm → Option (PlainTerm × PlainTerm)
sides_of (app (op (Logic Eq)) (term l (term r no_term))) = Some (l, r)
sides_of t = None

abbrev pub exchanged : PlainTerm → PlainTerm → PlainTerm → Result PlainInstance Why
exchanged from to old = cond (same_term from old) (just to) no_match

abbrev pub used_as : Bool → PlainTerm → Option (PlainTerm × PlainTerm) → PlainTerm → Result PlainInstance Why
used_as false fact (Some p) old = exchanged p.0 p.1 old
used_as true fact (Some p) old = exchanged p.1 p.0 old
used_as false fact None old = exchanged fact (truth true) old
used_as true fact None old = no_match

abbrev pub used : Bool → Option PlainTerm → PlainTerm → Result PlainInstance Why
used back None old = no_match
used back (Some fact) old = used_as back fact (sides_of fact) old

abbrev pub use_alone : ℕ → Bool → List PlainTerm → List PlainTerm → PlainTerm → Result PlainInstance Why
use_alone k back [] facts old = used back (fact_at facts k) old
use_alone k back args facts old = no_match

-- the fact of the number k, or its equation from right to left
abbrev pub use_fact : ℕ → Bool → List PlainTerm → Rule
use_fact k back args = λ t sc old. use_alone k back args sc.facts old
