-- How the logic stores cuts and maintained parameters.
use Rattle.std.specs.Prelude.{◌≡◌, ℕ, List, refl}
use Rattle.std.specs.Coded.{Coded, code_by, coded_list, coded×}
use Rattle.kid_value.specs.PlainSort.{PlainSort}
use Rattle.kid_value.specs.SortCode.{coded_sort}
use Rattle.kid_term.specs.PlainTerm.{PlainTerm}
use Rattle.kid_term.specs.TermCode.{coded_name, coded_term, coded_terms}
use Rattle.kid_search.specs.PlainPlan.{PlainCut, PlainParameter}
use Rattle.kid_search.specs.declared.cut_kind.CutKind.{CutKind}
use Rattle.kid_search.specs.contracts.cut_kind.CutKind as contract_of_kind

abbrev pub CutParts : Type 0
CutParts = CutKind × PlainTerm

abbrev pub cut_parts : PlainCut → CutParts
cut_parts c = (c.kind, c.term)

abbrev pub cut_from : CutParts → PlainCut
cut_from p = record { kind = p.0; term = p.1 }

pub cut_from-parts : (c : PlainCut) → cut_from (cut_parts c) ≡ c
cut_from-parts c = refl

abbrev pub coded_cuts : Coded (List PlainCut)
coded_cuts = coded_list (code_by CutParts (coded× contract_of_kind.the_row.coded coded_term) cut_parts cut_from cut_from-parts)

abbrev pub ParameterParts : Type 0
ParameterParts = List ℕ × (PlainSort × (PlainTerm × (PlainTerm × List PlainTerm)))

abbrev pub parameter_parts : PlainParameter → ParameterParts
parameter_parts p = (p.name, (p.sort, (p.expression, (p.start, p.kids))))

abbrev pub parameter_from : ParameterParts → PlainParameter
parameter_from p = record { name = p.0; sort = p.1.0; expression = p.1.1.0; start = p.1.1.1.0; kids = p.1.1.1.1 }

pub parameter_from-parts : (p : PlainParameter) → parameter_from (parameter_parts p) ≡ p
parameter_from-parts p = refl

abbrev pub coded_parameters : Coded (List PlainParameter)
coded_parameters =
    coded_list (code_by ParameterParts (coded× coded_name (coded× coded_sort (coded× coded_term (coded× coded_term coded_terms)))) parameter_parts parameter_from parameter_from-parts)
