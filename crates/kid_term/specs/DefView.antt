-- A definition of the program as a plain record.
use Rattle.kid_value.specs.SortView.{plain_sort}
use Rattle.kid_term.specs.Names.{PlainDef}
use Rattle.kid_term.specs.TermView.{plain_term}
use Rattle.kid_term.specs.declared.definition.Def.{Def}

abbrev pub plain_def : Def → PlainDef
plain_def d = record { name = d.name; parameters = d.parameters; sort = plain_sort d.sort; body = plain_term d.body }
