-- What holds of each theory that is read.
use Rattle.std.specs.Prelude.{◌≡◌, Bool, true, ◌&&◌}
use Rattle.std.specs.List.{list_all}
use Rattle.kid_codec.specs.DeclaredSpelling.{is_spelled_name, is_spelled_definition}
use Rattle.kid_codec.specs.TermSpelling.{is_spelled_term}
use Rattle.kid_kernel.specs.IsTheory.{IsTheory}
use Rattle.kid_term.specs.PlainTheory.{PlainTheory}
use Rattle.kid_kernel.specs.Held.{LawsHold}
use Rattle.kid_theory.specs.Formed.{is_spelled_law}

-- its definitions, names, sorts and terms have spellings, but for those of laws and axioms
abbrev pub is_spelled_theory : PlainTheory → Bool
is_spelled_theory t =
    list_all is_spelled_definition t.signature.definitions && list_all is_spelled_name t.spec.inputs && is_spelled_term t.spec.condition
    && is_spelled_name (t.spec.output, t.spec.sort) && is_spelled_term t.spec.relation

-- It is a theory, and all that it holds has a spelling. At all good inputs each of its laws holds for all values of its variables.
pub record IsRead (t : PlainTheory) : Type 0 where
  pub is_theory : IsTheory t
  pub spelled : is_spelled_theory t ≡ true
  pub laws_spelled : list_all is_spelled_law t.laws ≡ true
  pub axioms_spelled : list_all is_spelled_law t.axioms ≡ true
  pub laws_hold : LawsHold t
