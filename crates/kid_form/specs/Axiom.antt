-- The form of an axiom.
use Rattle.std.proofs.Common.{◌⊎◌, inl, inr}
use Rattle.std.specs.Prelude.{ℕ, List, codes}
use Rattle.kid_sexp.specs.Plain.{Plain}
use Rattle.kid_term.specs.Names.{Names}
use Rattle.kid_term.specs.PlainLaw.{PlainConclusion, equal, holds, PlainLaw}
use Rattle.kid_term.specs.PlainTerm.{PlainTerm}
use Rattle.kid_form.specs.Form.{Form}
use Rattle.kid_form.specs.FormData.{renamed}
use Rattle.kid_form.specs.FormLists.{one, two, four, each}
use Rattle.kid_form.specs.FormTrees.{headed, either}
use Rattle.kid_form.specs.Leaves.{word_form, theory_term_form, declared_names}

-- (given CONDITION ..)
abbrev pub given_form : Form Plain (List PlainTerm)
given_form = headed (codes "given") (each theory_term_form)

abbrev pub conclusion_of : (PlainTerm × PlainTerm) ⊎ PlainTerm → PlainConclusion
conclusion_of (inl p) = equal p.0 p.1
conclusion_of (inr c) = holds c

abbrev pub sides_of : PlainConclusion → (PlainTerm × PlainTerm) ⊎ PlainTerm
sides_of (equal l r) = inl (l, r)
sides_of (holds c) = inr c

-- (equal LEFT RIGHT) or (holds TERM)
abbrev pub conclusion_form : Form Plain PlainConclusion
conclusion_form = renamed conclusion_of sides_of (either (codes "equal") (two theory_term_form theory_term_form) (headed (codes "holds") (one theory_term_form)))

abbrev pub axiom_of : List ℕ × Names × List PlainTerm × PlainConclusion → PlainLaw
axiom_of p = record { name = p.0; variables = p.1; conditions = p.2; conclusion = p.3 }

abbrev pub parts_of : PlainLaw → List ℕ × Names × List PlainTerm × PlainConclusion
parts_of a = (a.name, a.variables, a.conditions, a.conclusion)

-- (axiom NAME ((NAME SORT) ..) (given CONDITION ..) CONCLUSION)
abbrev pub axiom_form : Form Plain PlainLaw
axiom_form = renamed axiom_of parts_of (headed (codes "axiom") (four word_form (declared_names word_form) given_form conclusion_form))
