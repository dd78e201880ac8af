-- Which trees are read as a sort or a term: those that spell one.
use Rattle.std.specs.Prelude.{◌≡◌, true, Ok}
use Rattle.kid_sexp.specs.Plain.{Plain}
use Rattle.kid_value.specs.PlainSort.{PlainSort}
use Rattle.kid_term.specs.PlainTerm.{PlainTerm}
use Rattle.kid_codec.specs.SortSpelling.{is_spelled_sort, sort_spelling, sort_reading}
use Rattle.kid_codec.specs.TermSpelling.{is_spelled_term, term_spelling, term_reading}

-- a tree that spells a sort is read as that sort
abbrev pub SpelledSortsAreRead : Type 0
SpelledSortsAreRead = (t : Plain) (s : PlainSort) → is_spelled_sort s ≡ true → t ≡ sort_spelling s → sort_reading t ≡ Ok s

-- a tree that spells a term is read as that term
abbrev pub SpelledTermsAreRead : Type 0
SpelledTermsAreRead = (t : Plain) (u : PlainTerm) → is_spelled_term u ≡ true → t ≡ term_spelling u → term_reading t ≡ Ok u
