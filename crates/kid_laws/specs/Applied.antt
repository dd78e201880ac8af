-- What a law makes of a term or says of terms, and why it does not.
use Rattle.std.specs.Prelude.{◌≡◌, ℕ, Bool, true, false, not, nat_eq, cond, List, [], ◌∷◌, map, length, Option, Some, None, option_map, Result, Ok, Err}
use Rattle.kid_term.specs.PlainTerm.{PlainTerm}
use Rattle.kid_term.specs.TermView.{plain_term}
use Rattle.kid_term.specs.Simultaneous.{Subst, term_at, substituted}
use Rattle.kid_laws.specs.Law.{Law}
use Rattle.kid_laws.specs.Found.{found}
use Rattle.kid_laws.specs.Table.{equations, implications, law_at}
use Rattle.kid_laws.specs.declared.parts.Applied.{Applied}
use Rattle.kid_laws.specs.declared.parts.ApplyFault.{ApplyFault}
use Rattle.kid_laws.specs.declared.parts.ApplyFault.TheVariants as fault

pub record PlainApplied : Type 0 where
  pub conditions : List PlainTerm
  pub term : PlainTerm

abbrev pub plain_applied : Applied → PlainApplied
plain_applied a = record { conditions = a.conditions; term = plain_term a.term }

abbrev pub Outcome : Type 0
Outcome = Result PlainApplied ApplyFault

-- the names with their terms
abbrev pub zipped : List (List ℕ) → List PlainTerm → Subst
zipped [] ts = []
zipped (x ∷ xs) [] = []
zipped (x ∷ xs) (t ∷ ts) = (x, t) ∷ zipped xs ts

-- a term that is there, or else the next argument, before the others that are made of the arguments that are left
abbrev pub with_next : Option PlainTerm → List PlainTerm → (List PlainTerm → Option (List PlainTerm)) → Option (List PlainTerm)
with_next (Some t) args others = option_map (λ ts. t ∷ ts) (others args)
with_next None [] others = None
with_next None (t ∷ args) others = option_map (λ ts. t ∷ ts) (others args)

-- for each name the term that it has, or else the next argument; none where an argument is missing or left over
abbrev pub terms_of : Subst → List (List ℕ) → List PlainTerm → Option (List PlainTerm)
terms_of σ [] [] = Some []
terms_of σ [] (t ∷ args) = None
terms_of σ (x ∷ xs) args = with_next (term_at x σ) args (λ rest. terms_of σ xs rest)

abbrev pub terms_found : Option Subst → List (List ℕ) → List PlainTerm → Option (List PlainTerm)
terms_found None xs args = None
terms_found (Some σ) xs args = terms_of σ xs args

-- for each variable of a side its term where the side is matched with the term, or else the next argument
abbrev pub matched_terms : List (List ℕ) → PlainTerm → List PlainTerm → PlainTerm → Option (List PlainTerm)
matched_terms xs side args t = terms_found (found [] xs side t []) xs args

-- the side that is matched, and the one that takes its place
abbrev pub side_from : Bool → Law → PlainTerm
side_from false l = l.left
side_from true l = l.right

abbrev pub side_to : Bool → Law → PlainTerm
side_to back l = side_from (not back) l

-- the conditions of a law, and the term, with terms put in
abbrev pub put_in : Law → PlainTerm → Subst → PlainApplied
put_in l t σ = record { conditions = map (substituted σ) l.conditions; term = substituted σ t }

abbrev pub answered : Option PlainApplied → Outcome
answered None = Err fault.NoMatch
answered (Some a) = Ok a

abbrev pub applied_terms : Law → Bool → List PlainTerm → PlainTerm → Option PlainApplied
applied_terms l back args t = option_map (λ ts. put_in l (side_to back l) (zipped l.variables ts)) (matched_terms l.variables (side_from back l) args t)

abbrev pub applied_law : Option Law → Bool → List PlainTerm → PlainTerm → Outcome
applied_law None back args t = Err fault.NoLaw
applied_law (Some l) back args t = answered (applied_terms l back args t)

-- what the equation of a number makes of the term, from the right to the left where back is true
abbrev pub applied_by : ℕ → Bool → List PlainTerm → PlainTerm → Outcome
applied_by n back args t = applied_law (law_at equations n) back args t

abbrev pub concluded_terms : Law → List PlainTerm → Option PlainApplied
concluded_terms l ts = cond (nat_eq (length ts) (length l.variables)) (Some (put_in l l.left (zipped l.variables ts))) None

abbrev pub concluded_law : Option Law → List PlainTerm → Outcome
concluded_law None ts = Err fault.NoLaw
concluded_law (Some l) ts = answered (concluded_terms l ts)

-- what the implication of a number says, with a term for each of its variables
abbrev pub concluded_by : ℕ → List PlainTerm → Outcome
concluded_by n ts = concluded_law (law_at implications n) ts

-- what the program answers, want of memory aside
abbrev pub Applies : Result Applied ApplyFault → Outcome → Type 0
Applies (Ok a) o = o ≡ Ok (plain_applied a)
Applies (Err fault.Memory) o = Unit {0}
Applies (Err e) o = o ≡ Err e
