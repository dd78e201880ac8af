-- How the logic stores a definition.
use Rattle.std.specs.Prelude.{◌≡◌, ℕ, List, refl}
use Rattle.std.specs.Coded.{Coded, code_by, coded_list, coded×}
use Rattle.kid_value.specs.PlainSort.{PlainSort}
use Rattle.kid_value.specs.SortCode.{coded_sort}
use Rattle.kid_term.specs.PlainTerm.{PlainTerm}
use Rattle.kid_term.specs.Names.{Names, PlainDef}
use Rattle.kid_term.specs.TermCode.{coded_name, coded_term}

abbrev pub DefParts : Type 0
DefParts = List ℕ × (Names × (PlainSort × PlainTerm))

abbrev pub parts_of : PlainDef → DefParts
parts_of d = (d.name, (d.parameters, (d.sort, d.body)))

abbrev pub def_from : DefParts → PlainDef
def_from p = record { name = p.0; parameters = p.1.0; sort = p.1.1.0; body = p.1.1.1 }

pub def_from-parts : (d : PlainDef) → def_from (parts_of d) ≡ d
def_from-parts d = refl

abbrev pub coded_names : Coded Names
coded_names = coded_list (coded× coded_name coded_sort)

abbrev pub coded_defs : Coded (List PlainDef)
coded_defs = coded_list (code_by DefParts (coded× coded_name (coded× coded_names (coded× coded_sort coded_term))) parts_of def_from def_from-parts)
