-- Theories without operators on words and rows, which stand in programs alone.
use Rattle.std.specs.Prelude.{Bool, not, ◌&&◌}
use Rattle.std.specs.List.{list_all}
use Rattle.kid_term.specs.Names.{PlainDef}
use Rattle.kid_term.specs.PlainTerm.{PlainTerm}
use Rattle.kid_term.specs.WordTerms.{holds_word_operator}
use Rattle.kid_term.specs.PlainLaw.{PlainConclusion, equal, holds, PlainLaw}

abbrev pub is_wordless : PlainTerm → Bool
is_wordless t = not (holds_word_operator t)

abbrev pub is_wordless_definition : PlainDef → Bool
is_wordless_definition d = is_wordless d.body

abbrev pub is_wordless_conclusion : PlainConclusion → Bool
is_wordless_conclusion (equal l r) = is_wordless l && is_wordless r
is_wordless_conclusion (holds c) = is_wordless c

abbrev pub is_wordless_law : PlainLaw → Bool
is_wordless_law l = list_all is_wordless l.conditions && is_wordless_conclusion l.conclusion
