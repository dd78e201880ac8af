-- The numbers that are written as numbers at the front of an application.
use Rattle.std.specs.Prelude.{ℤ, Option, Some, None}
use Rattle.kid_term.specs.PlainTerm.{PlainTerm, number, PlainTerms, no_term, term}

-- the number that a term is, where it is one
abbrev pub number_in : PlainTerm → Option ℤ
number_in (number n) = Some n
number_in t = None

-- the first and the second term, where they are numbers
abbrev pub Numbers : Type 0
Numbers = Option ℤ × Option ℤ

abbrev pub first_number : PlainTerms → Option ℤ
first_number no_term = None
first_number (term t ts) = number_in t

abbrev pub second_number : PlainTerms → Option ℤ
second_number no_term = None
second_number (term t ts) = first_number ts

abbrev pub written : PlainTerms → Numbers
written ts = (first_number ts, second_number ts)
