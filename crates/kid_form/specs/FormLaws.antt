-- What the laws of forms say.
use Rattle.std.specs.Prelude.{◌≡◌, true, Some}
use Rattle.kid_value.specs.Canonical.{IsCanonical}
use Rattle.kid_value.specs.PlainValue.{PlainValue}
use Rattle.kid_form.specs.Axiom.{axiom_form}
use Rattle.kid_form.specs.Definition.{theory_definition_form, program_definition_form}
use Rattle.kid_form.specs.First.{first_form}
use Rattle.kid_form.specs.Form.{Lawful}
use Rattle.kid_form.specs.Leaves.{value_form}

-- the forms that theories and programs share are read as they are spelled
pub record SharedFormsAreLawful : Type 0 where
  pub theory_definition : Lawful theory_definition_form
  pub program_definition : Lawful program_definition_form
  pub first : Lawful first_form
  pub axioms : Lawful axiom_form

-- a canonical value that has a spelling is read back
abbrev pub ValuesAreReadBack : Type 0
ValuesAreReadBack = (v : PlainValue) → IsCanonical v → value_form.spelled v ≡ true → value_form.read (value_form.spell v) ≡ Some v
