-- A signature as plain data, and how the logic stores it.
use Rattle.std.specs.Prelude.{◌≡◌, List, refl}
use Rattle.std.specs.Coded.{Coded, code_by, coded×}
use Rattle.kid_term.specs.Names.{Names, PlainDef}
use Rattle.kid_term.specs.DefCode.{coded_names, coded_defs}

-- definitions in their order, and inputs with their sorts
pub record PlainSignature : Type 0 where
  pub definitions : List PlainDef
  pub inputs : Names

abbrev pub SignatureParts : Type 0
SignatureParts = List PlainDef × Names

abbrev pub parts_of : PlainSignature → SignatureParts
parts_of s = (s.definitions, s.inputs)

abbrev pub signature_from : SignatureParts → PlainSignature
signature_from p = record { definitions = p.0; inputs = p.1 }

pub signature_from-parts : (s : PlainSignature) → signature_from (parts_of s) ≡ s
signature_from-parts s = refl

abbrev pub coded_signature : Coded PlainSignature
coded_signature = code_by SignatureParts (coded× coded_defs coded_names) parts_of signature_from signature_from-parts
