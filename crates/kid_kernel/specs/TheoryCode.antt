-- How the logic stores a theory.
use Rattle.std.specs.Prelude.{ℕ, List, Option, refl}
use Rattle.std.specs.Coded.{Coded, code_by, coded_ℕ, coded_option, coded×}
use Rattle.kid_value.specs.PlainSort.{PlainSort}
use Rattle.kid_value.specs.SortCode.{coded_sort}
use Rattle.kid_term.specs.Names.{Names}
use Rattle.kid_term.specs.PlainLaw.{PlainLaw}
use Rattle.kid_term.specs.PlainSignature.{PlainSignature, coded_signature}
use Rattle.kid_term.specs.PlainSpec.{PlainSpec}
use Rattle.kid_term.specs.PlainTerm.{PlainTerm}
use Rattle.kid_term.specs.PlainTheory.{PlainTheory}
use Rattle.kid_term.specs.TermCode.{coded_name, coded_term}
use Rattle.kid_term.specs.DefCode.{coded_names}
use Rattle.kid_kernel.specs.LawCode.{coded_laws}

abbrev pub SpecParts : Type 0
SpecParts = Names × (PlainTerm × (List ℕ × (PlainSort × (PlainTerm × Option ℕ))))

abbrev pub coded_spec : Coded PlainSpec
coded_spec =
    code_by SpecParts (coded× coded_names (coded× coded_term (coded× coded_name (coded× coded_sort (coded× coded_term (coded_option coded_ℕ))))))
    (λ s. (s.inputs, (s.condition, (s.output, (s.sort, (s.relation, s.first))))))
    (λ p. record { inputs = p.0; condition = p.1.0; output = p.1.1.0; sort = p.1.1.1.0; relation = p.1.1.1.1.0; first = p.1.1.1.1.1 }) (λ _. refl)

abbrev pub TheoryParts : Type 0
TheoryParts = PlainSignature × (List PlainLaw × (List PlainLaw × PlainSpec))

abbrev pub coded_theory : Coded PlainTheory
coded_theory =
    code_by TheoryParts (coded× coded_signature (coded× coded_laws (coded× coded_laws coded_spec)))
    (λ t. (t.signature, (t.laws, (t.axioms, t.spec)))) (λ p. record { signature = p.0; laws = p.1.0; axioms = p.1.1.0; spec = p.1.1.1 }) (λ _. refl)
