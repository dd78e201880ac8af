-- What a rule gives: conditions and a new term, or why it gives nothing.
use Rattle.std.specs.Prelude.{◌≡◌, ℕ, cond, List, [], ◌∷◌, Option, Some, None, Result, Ok, Err}
use Rattle.kid_term.specs.PlainTerm.{PlainTerm}
use Rattle.kid_term.specs.TermView.{plain_term}
use Rattle.kid_term.specs.Substitution.{replaced, captures}
use Rattle.kid_binders.specs.declared.bound.Bound.{Bound}
use Rattle.kid_binders.specs.declared.bound.RuleFault.{RuleFault}
use Rattle.kid_binders.specs.declared.bound.RuleFault.TheVariants as fault

pub record PlainBound : Type 0 where
  pub conditions : List PlainTerm
  pub term : PlainTerm

abbrev pub Outcome : Type 0
Outcome = Result PlainBound RuleFault

abbrev pub no_match : Outcome
no_match = Err fault.NoMatch

abbrev pub capture : Outcome
capture = Err fault.Capture

abbrev pub made : PlainTerm → Outcome
made t = Ok (record { conditions = []; term = t })

abbrev pub made_if : PlainTerm → PlainTerm → Outcome
made_if c t = Ok (record { conditions = c ∷ []; term = t })

-- what is made of the parts, where the term has the shape
abbrev pub of_one : Option PlainTerm → (PlainTerm → Outcome) → Outcome
of_one None k = no_match
of_one (Some t) k = k t

abbrev pub of_two : Option (PlainTerm × PlainTerm) → (PlainTerm → PlainTerm → Outcome) → Outcome
of_two None k = no_match
of_two (Some p) k = k p.0 p.1

-- what is made of p[x:=t]
abbrev pub with_put : List ℕ → PlainTerm → PlainTerm → (PlainTerm → Outcome) → Outcome
with_put x t p k = cond (captures x t p) capture (k (replaced x t p))

abbrev pub plain_bound : Bound → PlainBound
plain_bound b = record { conditions = b.conditions; term = plain_term b.term }

-- the rule has such a term as an instance
abbrev pub IsInstance : Outcome → Type 0
IsInstance (Ok b) = Unit {0}
IsInstance (Err fault.Capture) = Unit {0}
IsInstance (Err e) = ⊥

-- what the program answers; want of memory has no cause, but never stands where there is no instance
abbrev pub Gives : Result Bound RuleFault → Outcome → Type 0
Gives (Ok b) o = o ≡ Ok (plain_bound b)
Gives (Err fault.Memory) o = IsInstance o
Gives (Err e) o = o ≡ Err e
