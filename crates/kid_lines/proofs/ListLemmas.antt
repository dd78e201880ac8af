-- Numbers, terms and lines, read and put one after another.
use Rattle.std.proofs.Common.{ℕ, List, map, refl}
use Rattle.std.specs.Prelude.{pos}
use Rattle.kid_sexp.specs.Plain.{Plain, Plains}
use Rattle.kid_codec.proofs.Each.{ReadsEach, PrintsEach}
use Rattle.kid_moves.specs.RuleView.{plain_line}
use Rattle.kid_moves.specs.declared.rule.Line.{Line}
use Rattle.kid_lines.specs.LineReading.{spelled_indexes, spelled_line, spelled_lines}
use Rattle.kid_lines.specs.LineSpelling.{index_spelling, index_spellings, line_spelling, line_spellings}
use Rattle.kid_lines.specs.RuleReading.{spelled_index, spelled_plain_term, spelled_plain_terms}

pub indexes_each : ReadsEach spelled_index spelled_indexes
indexes_each = record { at_none = refl; at_more = λ t ts. refl }

pub terms_each : ReadsEach spelled_plain_term spelled_plain_terms
terms_each = record { at_none = refl; at_more = λ t ts. refl }

pub lines_each : ReadsEach spelled_line spelled_lines
lines_each = record { at_none = refl; at_more = λ t ts. refl }

abbrev pub line_tree : Line → Plain
line_tree l = line_spelling (plain_line l)

abbrev pub line_trees : List Line → Plains
line_trees ls = line_spellings (map plain_line ls)

pub indexes_print : PrintsEach index_spelling index_spellings
indexes_print = record { at_none = refl; at_more = λ n ns. refl }

pub lines_print : PrintsEach line_tree line_trees
lines_print = record { at_none = refl; at_more = λ l ls. refl }
