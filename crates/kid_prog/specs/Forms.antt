-- The forms of a program file: what each holds by its shape, and the rules that it meets.
use Rattle.std.specs.Prelude.{ℕ, ℤ, pos, int_le, nat_lt, Bool, true, ◌&&◌, List, [], ◌∷◌, ◌++◌, length, Option, Some, None, Result, Ok, Err, if◌then◌else◌, codes}
use Rattle.std.specs.Ordering.{int_eq}
use Rattle.kid_sexp.specs.Plain.{Plain, Plains, atom, list, none, more}
use Rattle.kid_value.specs.PlainSort.{PlainSort}
use Rattle.kid_value.specs.Rows.Kinds.{natural}
use Rattle.kid_value.specs.SortOrder.{both}
use Rattle.kid_value.specs.SortLimits.{is_allowed}
use Rattle.kid_term.specs.PlainTerm.{PlainTerm}
use Rattle.kid_term.specs.Names.{Names, PlainDef}
use Rattle.kid_term.specs.Sorting.{sort_of}
use Rattle.kid_sorting.specs.Declaring.{is_new, are_new, are_allowed, is_truth, is_sorted_definition, is_shallow, is_undefined}
use Rattle.kid_term.specs.PlainSignature.{PlainSignature}
use Rattle.kid_codec.specs.NamedValues.{term_has_tags}
use Rattle.kid_codec.specs.Reading.{◌>>=◌}
use Rattle.kid_codec.specs.Shape.{form, begins, single, couple, quadruple}
use Rattle.kid_codec.specs.SortSpelling.{spelled_number, spelled_sort}
use Rattle.kid_codec.specs.NameSpelling.{spelled_name}
use Rattle.kid_codec.specs.TermSpelling.{spelled_term}
use Rattle.kid_prog.specs.Formats.{may_stand}
use Rattle.kid_prog.specs.PlainStmt.{PlainStmts}
use Rattle.kid_prog.specs.StmtShape.{spelled_stmts}
use Rattle.kid_prog.specs.Rules.{Setting, obey}
use Rattle.kid_prog.specs.Tags.{name_has_tags, names_have_tags, definition_has_tags, stmts_have_tags, search_has_tags}
use Rattle.kid_prog.specs.declared.fault.LoadCode.{LoadCode}
use Rattle.kid_prog.specs.declared.fault.LoadCode.TheVariants as code
use Rattle.kid_prog.specs.declared.format.Format.{Format}
use Rattle.kid_prog.specs.declared.format.Format.TheVariants.{One, Two}

-- what a form holds, if it has a shape and meets the rules of form, which go first, and those of sorts; what its file's format does not take breaks a rule of form
abbrev pub judged : {A : Type 0} → (A → Bool) → (A → Bool) → Option A → Result A LoadCode
judged is_formed is_sorted None = Err code.Form
judged is_formed is_sorted (Some x) = if is_formed x then (if is_sorted x then Ok x else Err code.Sort) else Err code.Form

-- a name with a sort
abbrev pub named : Plain → Plain → Option (List ℕ × PlainSort)
named x s = both (λ name sort. (name, sort)) (spelled_name x) (spelled_sort s)

abbrev pub named_pair : Plains → Option (List ℕ × PlainSort)
named_pair ts = couple ts >>= λ p. named p.0 p.1

abbrev pub named_list : Plain → Option (List ℕ × PlainSort)
named_list (atom w) = None
named_list (list ts) = named_pair ts

-- a list of names with sorts
abbrev pub spelled_names : Plains → Option Names
spelled_names none = Some []
spelled_names (more t ts) = both (λ n ns. n ∷ ns) (named_list t) (spelled_names ts)

abbrev pub names_list : Plain → Option Names
names_list (atom w) = None
names_list (list ts) = spelled_names ts

-- ---- (program 1) or (program 2)

abbrev pub version_of : Option ℤ → Result Format LoadCode
version_of None = Err code.Form
version_of (Some n) = if int_eq n (pos 1) then Ok One else (if int_eq n (pos 2) then Ok Two else Err code.Version)

abbrev pub version_form : Plain → Result Format LoadCode
version_form t = version_of (form (codes "program") t >>= single >>= spelled_number)

-- ---- (def NAME ((NAME SORT) ..) SORT TERM)

abbrev pub is_def : Plain → Bool
is_def t = begins (codes "def") t

abbrev pub definition : List ℕ → Names → PlainSort → PlainTerm → PlainDef
definition f ps s t = record { name = f; parameters = ps; sort = s; body = t }

abbrev pub def_parts : Plains → Option PlainDef
def_parts ts = quadruple ts >>= λ q. spelled_name q.0 >>= λ f. names_list q.1 >>= λ ps. both (definition f ps) (spelled_sort q.2) (spelled_term q.3)

-- a new name, parameters that differ from one another, and calls that do not go too deep
abbrev pub is_formed_definition : List PlainDef → PlainDef → Bool
is_formed_definition defs d = is_undefined d.name defs && are_new [] d.parameters && is_shallow defs d

-- after these definitions
abbrev pub def_form : Format → List PlainDef → Plain → Result PlainDef LoadCode
def_form f defs t =
    judged (λ d. may_stand f (definition_has_tags d) && is_formed_definition defs d) (is_sorted_definition defs) (form (codes "def") t >>= def_parts)

-- ---- (input NAME SORT)

abbrev pub is_input : Plain → Bool
is_input t = begins (codes "input") t

-- a name that no definition and no input has
abbrev pub is_undeclared : PlainSignature → List ℕ → Bool
is_undeclared s x = is_undefined x s.definitions && is_new s.inputs x

-- the shape of a form of a word, a name and a sort
abbrev pub named_form : List ℕ → Plain → Option (List ℕ × PlainSort)
named_form word t = form word t >>= named_pair

-- after these definitions and inputs, of which there are at most 16
abbrev pub input_form : Format → PlainSignature → Plain → Result (List ℕ × PlainSort) LoadCode
input_form f s t =
    judged (λ n. may_stand f (name_has_tags n) && is_undeclared s n.0 && nat_lt (length s.inputs) 16) (λ n. is_allowed n.1) (named_form (codes "input") t)

-- ---- (require TERM)

abbrev pub require_form : Format → PlainSignature → Plain → Result PlainTerm LoadCode
require_form f s t =
    judged (λ c. may_stand f (term_has_tags c)) (λ c. is_truth (sort_of s.definitions s.inputs c)) (form (codes "require") t >>= single >>= spelled_term)

-- ---- (output NAME SORT)

abbrev pub output_form : Format → PlainSignature → Plain → Result (List ℕ × PlainSort) LoadCode
output_form f s t = judged (λ n. may_stand f (name_has_tags n) && is_undeclared s n.0) (λ n. is_allowed n.1) (named_form (codes "output") t)

-- ---- (first NUMBER), from 1 to 1,000,000

abbrev pub is_first : Plain → Bool
is_first t = begins (codes "first") t

abbrev pub counted : Option ℤ → Result ℕ LoadCode
counted None = Err code.Form
counted (Some n) = if int_le (pos 1) n && int_le n (pos 1000000) then Ok (natural n) else Err code.Form

abbrev pub first_form : Plain → Result ℕ LoadCode
first_form t = counted (form (codes "first") t >>= single >>= spelled_number)

-- ---- (main STATEMENT ..), which calls the search procedure of the next form, where its parameters are there and not refused

-- no definition has one of the names
abbrev pub are_undefined : Names → List PlainDef → Bool
are_undefined [] defs = true
are_undefined (n ∷ ns) defs = is_undefined n.0 defs && are_undefined ns defs

-- names that differ from one another, from definitions and inputs, and from the output
abbrev pub are_undeclared : PlainSignature → List ℕ × PlainSort → Names → Bool
are_undeclared s output ns = are_undefined ns s.definitions && are_new (s.inputs ++ output ∷ []) ns

abbrev pub first_names : Plains → Option Names
first_names none = None
first_names (more t ts) = names_list t

abbrev pub if_proper : Format → PlainSignature → List ℕ × PlainSort → Names → Option Names
if_proper f s output ns = if may_stand f (names_have_tags ns) && are_undeclared s output ns && are_allowed ns then Some ns else None

abbrev pub known_parameters : Format → PlainSignature → List ℕ × PlainSort → Plains → Option Names
known_parameters f s output none = None
known_parameters f s output (more t ts) = form (codes "search") t >>= first_names >>= if_proper f s output

abbrev pub setting : List PlainDef → PlainSort → Option Names → Setting
setting defs s parameters = record { definitions = defs; sort = s; parameters = parameters }

abbrev pub main_sorted : PlainSignature → PlainSort → Option Names → PlainStmts → Bool
main_sorted s output_sort parameters ss = obey (setting s.definitions output_sort parameters) s.inputs ss

abbrev pub main_form : Format → PlainSignature → PlainSort → Option Names → Plain → Result PlainStmts LoadCode
main_form f s output_sort parameters t =
    judged (λ ss. may_stand f (stmts_have_tags ss)) (main_sorted s output_sort parameters) (form (codes "main") t >>= spelled_stmts)

-- ---- (search ((NAME SORT) ..) STATEMENT ..)

abbrev pub search_parts : Plains → Option (Names × PlainStmts)
search_parts none = None
search_parts (more t ts) = both (λ ns ss. (ns, ss)) (names_list t) (spelled_stmts ts)

abbrev pub search_sorted : PlainSignature → PlainSort → Names × PlainStmts → Bool
search_sorted s output_sort p = are_allowed p.0 && obey (setting s.definitions output_sort (Some p.0)) (p.0 ++ s.inputs) p.1

-- after definitions, inputs and an output
abbrev pub search_form : Format → PlainSignature → List ℕ × PlainSort → Plain → Result (Names × PlainStmts) LoadCode
search_form f s output t =
    judged (λ p. may_stand f (search_has_tags p) && are_undeclared s output p.0) (search_sorted s output.1) (form (codes "search") t >>= search_parts)
