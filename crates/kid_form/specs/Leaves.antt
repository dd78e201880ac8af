-- The forms of names, numbers, sorts, terms and values, and of names with their sorts.
use Rattle.std.specs.Prelude.{ℕ, ℤ, pos, negsuc, true, not, nat_le, List, Option, Some, None, if◌then◌else◌}
use Rattle.std.specs.Fmt.{signed_decimal}
use Rattle.kid_sexp.specs.Plain.{Plain, Plains}
use Rattle.kid_value.specs.PlainSort.{PlainSort}
use Rattle.kid_value.specs.PlainValue.{PlainValue}
use Rattle.kid_value.specs.SortLimits.{in_limits, is_allowed}
use Rattle.kid_term.specs.Names.{Names}
use Rattle.kid_term.specs.PlainTerm.{PlainTerm}
use Rattle.kid_term.specs.WordTerms.{holds_word_operator}
use Rattle.kid_codec.specs.Name.{is_name}
use Rattle.kid_codec.specs.Number.{number_of}
use Rattle.kid_codec.specs.SortSpelling.{sort_spelling, is_spelled_sort, spelled_sort}
use Rattle.kid_codec.specs.TermSpelling.{term_spelling, is_spelled_term, spelled_term, casts_are_allowed}
use Rattle.kid_codec.specs.ValueSpelling.{value_spelling, is_spelled_value, spelled_value}
use Rattle.kid_form.specs.Form.{Form}
use Rattle.kid_form.specs.FormData.{narrowed, restricted, strict}
use Rattle.kid_form.specs.FormLists.{two, each}
use Rattle.kid_form.specs.FormTrees.{word, as_atom, listed}

-- a word that is to be a name, which is tested later; and a name
abbrev pub word_form : Form Plain (List ℕ)
word_form = word is_name

abbrev pub name_form : Form Plain (List ℕ)
name_form = strict word_form

-- ---- numbers

-- the decimal text of a number within the limits
abbrev pub digits_form : Form (List ℕ) ℤ
digits_form = record { read = number_of; spell = signed_decimal; valid = λ n. true; spelled = in_limits }

abbrev pub number_form : Form Plain ℤ
number_form = as_atom digits_form

abbrev pub natural_up_to : ℕ → ℤ → Option ℕ
natural_up_to top (pos n) = if nat_le n top then Some n else None
natural_up_to top (negsuc n) = None

-- a number from 0 to the top
abbrev pub up_to : {T : Type 0} → ℕ → Form T ℤ → Form T ℕ
up_to top f = narrowed (λ n. nat_le n top) (natural_up_to top) pos f

-- a number of 32 bits, which counts children or facts
abbrev pub index_form : Form Plain ℕ
index_form = up_to 4294967295 number_form

-- the child numbers from the root of a term down
abbrev pub path_form : Form Plain (List ℕ)
path_form = listed (each index_form)

-- ---- sorts, terms and values

-- a sort, which may be allowed or not
abbrev pub sort_form : Form Plain PlainSort
sort_form = record { read = spelled_sort; spell = sort_spelling; valid = is_allowed; spelled = is_spelled_sort }

-- a term, whose casts may be to allowed sorts or not
abbrev pub term_form : Form Plain PlainTerm
term_form = record { read = spelled_term; spell = term_spelling; valid = casts_are_allowed; spelled = is_spelled_term }

-- a term whose casts are to allowed sorts
abbrev pub allowed_term_form : Form Plain PlainTerm
allowed_term_form = strict term_form

-- a term of a theory; the operators on words and rows stand in programs alone
abbrev pub theory_term_form : Form Plain PlainTerm
theory_term_form = restricted (λ t. not (holds_word_operator t)) term_form

-- a value; the members of a set may stand in any order, so what is read back is all that is lawful
abbrev pub value_form : Form Plain PlainValue
value_form = record { read = spelled_value; spell = value_spelling; valid = λ v. true; spelled = is_spelled_value }

-- ---- names with their sorts

-- a name of this form before its sort
abbrev pub declared : Form Plain (List ℕ) → Form Plains (List ℕ × PlainSort)
declared n = two n sort_form

-- a list of lists of a name and its sort
abbrev pub declared_names : Form Plain (List ℕ) → Form Plain Names
declared_names n = listed (each (listed (declared n)))
