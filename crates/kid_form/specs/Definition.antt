-- The form of a definition.
use Rattle.std.specs.Prelude.{ℕ, List, codes}
use Rattle.kid_sexp.specs.Plain.{Plain}
use Rattle.kid_value.specs.PlainSort.{PlainSort}
use Rattle.kid_term.specs.Names.{Names, PlainDef}
use Rattle.kid_term.specs.PlainTerm.{PlainTerm}
use Rattle.kid_form.specs.Form.{Form}
use Rattle.kid_form.specs.FormData.{renamed}
use Rattle.kid_form.specs.FormLists.{four}
use Rattle.kid_form.specs.FormTrees.{headed}
use Rattle.kid_form.specs.Leaves.{word_form, name_form, sort_form, term_form, theory_term_form, declared_names}

abbrev pub definition_of : List ℕ × Names × PlainSort × PlainTerm → PlainDef
definition_of p = record { name = p.0; parameters = p.1; sort = p.2; body = p.3 }

abbrev pub parts_of : PlainDef → List ℕ × Names × PlainSort × PlainTerm
parts_of d = (d.name, d.parameters, d.sort, d.body)

-- (def NAME ((NAME SORT) ..) SORT TERM), with names and a body of these forms
abbrev pub definition_form : Form Plain (List ℕ) → Form Plain PlainTerm → Form Plain PlainDef
definition_form n body = renamed definition_of parts_of (headed (codes "def") (four n (declared_names n) sort_form body))

-- in a theory, which tells a word that is no name from another shape; and in a program, which does not
abbrev pub theory_definition_form : Form Plain PlainDef
theory_definition_form = definition_form word_form theory_term_form

abbrev pub program_definition_form : Form Plain PlainDef
program_definition_form = definition_form name_form term_form
