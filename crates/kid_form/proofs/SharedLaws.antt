-- The laws of the forms that theories and programs share.
use Rattle.std.proofs.Common.{◌≡◌, inl, inr, ℕ, ℤ, pos, negsuc, Bool, true, List, Some, None, refl, sym, ap, ◌∙◌}
use Rattle.std.specs.Prelude.{codes, if◌then◌else◌}
use Rattle.kid_sexp.specs.Plain.{Plain}
use Rattle.kid_term.specs.PlainLaw.{equal, holds}
use Rattle.kid_term.specs.PlainTerm.{PlainTerm}
use Rattle.kid_codec.proofs.Found.{same_some, if_some}
use Rattle.kid_form.specs.Axiom.{given_form, conclusion_of, sides_of, conclusion_form, axiom_of, parts_of as axiom_parts, axiom_form}
use Rattle.kid_form.specs.Definition.{definition_of, parts_of, definition_form}
use Rattle.kid_form.specs.First.{is_count, count_of, first_form}
use Rattle.kid_form.specs.Form.{Form, Lawful}
use Rattle.kid_form.specs.FormLaws.{SharedFormsAreLawful}
use Rattle.kid_form.proofs.DataLaws.{renamed-lawful, narrowed-lawful}
use Rattle.kid_form.proofs.LeafLaws.{word_form-lawful, name_form-lawful, number_form-lawful, sort_form-lawful, term_form-lawful, theory_term_form-lawful, declared_names-lawful}
use Rattle.kid_form.proofs.ListLaws.{one-lawful, two-lawful, four-lawful, each-lawful}
use Rattle.kid_form.proofs.TreeLaws.{headed-lawful, either-lawful}

pub definition_form-lawful : {n : Form Plain (List ℕ)} {body : Form Plain PlainTerm} → Lawful n → Lawful body → Lawful (definition_form n body)
definition_form-lawful name body =
    renamed-lawful definition_of parts_of (headed-lawful (codes "def") (four-lawful name (declared_names-lawful name) sort_form-lawful body)) (λ p. refl) (λ d. refl)

counted : (z : ℤ) (n : ℕ) → count_of z ≡ Some n → (z ≡ pos n) × (is_count n ≡ true)
counted (pos m) n e = let r = if_some (is_count m) (Some m) n e in let is = same_some m n r.1 in (ap pos is, ap is_count (sym is) ∙ r.0)
counted (negsuc m) n e = cc

pub first_form-lawful : Lawful first_form
first_form-lawful =
    headed-lawful (codes "first") (one-lawful (narrowed-lawful is_count count_of pos number_form-lawful counted (λ n h. ap (λ (b : Bool). if b then Some n else None) h)))

pub given_form-lawful : Lawful given_form
given_form-lawful = headed-lawful (codes "given") (each-lawful theory_term_form-lawful)

pub conclusion_form-lawful : Lawful conclusion_form
conclusion_form-lawful = renamed-lawful conclusion_of sides_of
    (either-lawful (codes "equal") (two-lawful theory_term_form-lawful theory_term_form-lawful) (headed-lawful (codes "holds") (one-lawful theory_term_form-lawful)) (λ c h. refl))
    (elim [ inl p ↦ refl | inr c ↦ refl ]) (elim [ equal l r ↦ refl | holds c ↦ refl ])

pub axiom_form-lawful : Lawful axiom_form
axiom_form-lawful = renamed-lawful axiom_of axiom_parts
    (headed-lawful (codes "axiom") (four-lawful word_form-lawful (declared_names-lawful word_form-lawful) given_form-lawful conclusion_form-lawful))
    (λ p. refl) (λ a. refl)

pub shared_forms : SharedFormsAreLawful
shared_forms = record {
  theory_definition = definition_form-lawful word_form-lawful theory_term_form-lawful;
  program_definition = definition_form-lawful name_form-lawful term_form-lawful;
  first = first_form-lawful;
  axioms = axiom_form-lawful;
}
