-- How the logic stores laws.
use Rattle.std.specs.Prelude.{◌≡◌, ◌⊎◌, ℕ, List, refl}
use Rattle.std.proofs.Common.{inl, inr}
use Rattle.std.specs.Coded.{Coded, code_by, coded_list, coded×, coded⊎}
use Rattle.kid_term.specs.PlainTerm.{PlainTerm}
use Rattle.kid_term.specs.Names.{Names}
use Rattle.kid_term.specs.TermCode.{coded_name, coded_term, coded_terms}
use Rattle.kid_term.specs.DefCode.{coded_names}
use Rattle.kid_term.specs.PlainLaw.{PlainConclusion, equal, holds, PlainLaw}

abbrev pub Sides : Type 0
Sides = (PlainTerm × PlainTerm) ⊎ PlainTerm

abbrev pub sides_of : PlainConclusion → Sides
sides_of (equal l r) = inl (l, r)
sides_of (holds c) = inr c

abbrev pub conclusion_from : Sides → PlainConclusion
conclusion_from (inl p) = equal p.0 p.1
conclusion_from (inr c) = holds c

pub conclusion_from-sides : (c : PlainConclusion) → conclusion_from (sides_of c) ≡ c
conclusion_from-sides (equal l r) = refl
conclusion_from-sides (holds c) = refl

abbrev pub coded_conclusion : Coded PlainConclusion
coded_conclusion = code_by Sides (coded⊎ (coded× coded_term coded_term) coded_term) sides_of conclusion_from conclusion_from-sides

abbrev pub LawParts : Type 0
LawParts = List ℕ × (Names × (List PlainTerm × PlainConclusion))

abbrev pub parts_of : PlainLaw → LawParts
parts_of l = (l.name, (l.variables, (l.conditions, l.conclusion)))

abbrev pub law_from : LawParts → PlainLaw
law_from p = record { name = p.0; variables = p.1.0; conditions = p.1.1.0; conclusion = p.1.1.1 }

pub law_from-parts : (l : PlainLaw) → law_from (parts_of l) ≡ l
law_from-parts l = refl

abbrev pub coded_laws : Coded (List PlainLaw)
coded_laws = coded_list (code_by LawParts (coded× coded_name (coded× coded_names (coded× coded_terms coded_conclusion))) parts_of law_from law_from-parts)
