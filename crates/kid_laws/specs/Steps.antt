-- The program's way to write a law, as a law.
use Rattle.std.specs.Prelude.{List, [], ◌∷◌, map, reverse, false}
use Rattle.kid_term.specs.PlainTerm.{PlainTerm, number, truth}
use Rattle.kid_term.specs.TermView.{plain_term}
use Rattle.kid_term.specs.declared.Term.{Term}
use Rattle.kid_laws.specs.Law.{Law, none, one, two, three}
use Rattle.kid_term.specs.Simultaneous.{Subst, term_for}
use Rattle.kid_laws.specs.declared.step.Row.{Row}
use Rattle.kid_laws.specs.declared.step.Step.{Step}
use Rattle.kid_laws.specs.declared.step.Step.TheVariants.{Var, Int, Bool, Zero, One, Two, Three}

abbrev pub first_term : List PlainTerm → PlainTerm
first_term [] = truth false
first_term (t ∷ ts) = t

abbrev pub other_terms : List PlainTerm → List PlainTerm
other_terms [] = []
other_terms (t ∷ ts) = ts

-- one head more, before terms from which it takes its own
abbrev pub headed : Subst → Step → List PlainTerm → List PlainTerm
headed σ (Var x) ts = term_for (x ∷ []) σ ∷ ts
headed σ (Int n) ts = number n ∷ ts
headed σ (Bool b) ts = truth b ∷ ts
headed σ (Zero o) ts = none o ∷ ts
headed σ (One o) ts = one o (first_term ts) ∷ other_terms ts
headed σ (Two o) ts = two o (first_term ts) (first_term (other_terms ts)) ∷ other_terms (other_terms ts)
headed σ (Three o) ts = three o (first_term ts) (first_term (other_terms ts)) (first_term (other_terms (other_terms ts))) ∷ other_terms (other_terms (other_terms ts))

-- the terms that heads spell, with terms put in for the variables
abbrev pub spelled : Subst → List Step → List PlainTerm
spelled σ [] = []
spelled σ (s ∷ ss) = headed σ s (spelled σ ss)

abbrev pub term_of : Subst → List Step → PlainTerm
term_of σ ss = first_term (spelled σ ss)

abbrev pub plain_row : Row → Law
plain_row r =
    record {
      variables = map (λ x. x ∷ []) r.variables.now;
      conditions = map (λ c. term_of [] c.now) r.conditions.now;
      left = term_of [] r.left.now;
      right = term_of [] r.right.now;
    }

-- terms that were piled up, the last one first
abbrev pub pile_of : List Term → List PlainTerm
pile_of ts = reverse (map plain_term ts)
