-- Names with sorts and definitions: their trees, and those that have a spelling.
use Rattle.std.specs.Prelude.{ℕ, Bool, ◌&&◌, List, [], ◌∷◌, codes}
use Rattle.std.specs.List.{list_all}
use Rattle.kid_sexp.specs.Plain.{Plain, Plains, atom, list, none, more, one}
use Rattle.kid_value.specs.PlainSort.{PlainSort}
use Rattle.kid_term.specs.Names.{Names, PlainDef}
use Rattle.kid_codec.specs.Name.{is_name}
use Rattle.kid_codec.specs.SortSpelling.{headed, sort_spelling, is_spelled_sort}
use Rattle.kid_codec.specs.TermSpelling.{term_spelling, is_spelled_term}

-- a name before its sort
abbrev pub named_spelling : List ℕ × PlainSort → Plains
named_spelling n = more (atom n.0) (one (sort_spelling n.1))

abbrev pub names_spelling : Names → Plains
names_spelling [] = none
names_spelling (n ∷ ns) = more (list (named_spelling n)) (names_spelling ns)

abbrev pub definition_spelling : PlainDef → Plain
definition_spelling d =
    headed (codes "def") (more (atom d.name) (more (list (names_spelling d.parameters)) (more (sort_spelling d.sort) (one (term_spelling d.body)))))

-- forms, and then those after them
abbrev pub definitions_before : List PlainDef → Plains → Plains
definitions_before [] rest = rest
definitions_before (d ∷ ds) rest = more (definition_spelling d) (definitions_before ds rest)

abbrev pub inputs_before : Names → Plains → Plains
inputs_before [] rest = rest
inputs_before (n ∷ ns) rest = more (headed (codes "input") (named_spelling n)) (inputs_before ns rest)

abbrev pub is_spelled_name : List ℕ × PlainSort → Bool
is_spelled_name n = is_name n.0 && is_spelled_sort n.1

abbrev pub is_spelled_definition : PlainDef → Bool
is_spelled_definition d = is_name d.name && list_all is_spelled_name d.parameters && is_spelled_sort d.sort && is_spelled_term d.body
