-- The tree of a form reads back to what it holds, which the rules then judge.
use Rattle.std.proofs.Common.{◌≡◌, ℕ, Bool, true, List, Option, Some, None, Result, Ok, Err, refl, ap, ◌∙◌, arith}
use Rattle.std.specs.Prelude.{pos, negsuc, ◌&&◌, int_le, nat_le, nat_lt, length, if◌then◌else◌, codes}
use Rattle.std.specs.List.{list_all}
use Rattle.std.proofs.lemmas.Bool.Decides.{nat_tests}
use Rattle.kid_sexp.specs.Plain.{Plain, list, more, one}
use Rattle.kid_value.specs.PlainSort.{PlainSort}
use Rattle.kid_value.specs.SortOrder.{both}
use Rattle.kid_value.specs.SortLimits.{in_limits, is_allowed}
use Rattle.kid_value.proofs.SortLemmas.{and_parts, and_both}
use Rattle.kid_term.specs.Names.{Names, PlainDef}
use Rattle.kid_term.specs.PlainSpec.{is_count}
use Rattle.kid_term.specs.PlainTerm.{PlainTerm}
use Rattle.kid_term.specs.Sorting.{sort_of}
use Rattle.kid_sorting.specs.Declaring.{are_allowed, is_truth, is_sorted_definition}
use Rattle.kid_term.specs.PlainSignature.{PlainSignature}
use Rattle.kid_codec.specs.Name.{is_name}
use Rattle.kid_codec.specs.Reading.{◌>>=◌}
use Rattle.kid_codec.specs.Shape.{form}
use Rattle.kid_codec.specs.SortSpelling.{number_tree, headed, is_spelled_sort}
use Rattle.kid_codec.specs.TermSpelling.{term_spelling, is_spelled_term}
use Rattle.kid_codec.proofs.Numbers.{number_of-decimal}
use Rattle.kid_codec.proofs.SortBack.{spelled_parts}
use Rattle.kid_codec.proofs.TermBack.{term_back}
use Rattle.kid_codec.specs.NamedValues.{term_has_tags}
use Rattle.kid_prog.specs.Formats.{may_stand}
use Rattle.kid_prog.specs.PlainStmt.{PlainStmts}
use Rattle.kid_prog.specs.Spelling.{named_spelling, names_spelling, format_spelling, first_spelling, definition_spelling, stmt_spellings, is_spelled_name, is_spelled_definition, are_spelled_stmts}
use Rattle.kid_prog.specs.Tags.{name_has_tags, names_have_tags, definition_has_tags, stmts_have_tags, search_has_tags}
use Rattle.kid_prog.specs.Forms.{judged, version_of, version_form, definition, def_parts, is_formed_definition, def_form, is_undeclared, input_form, require_form, output_form, counted, first_form, are_undeclared, if_proper, known_parameters, main_sorted, main_form, search_parts, search_sorted, search_form}
use Rattle.kid_prog.specs.declared.fault.LoadCode.{LoadCode}
use Rattle.kid_prog.specs.declared.fault.LoadCode.TheVariants as code
use Rattle.kid_prog.specs.declared.format.Format.{Format}
use Rattle.kid_prog.specs.declared.format.Format.TheVariants.{One, Two}
use Rattle.kid_prog.proofs.SpellingBack.{named_back, names_back, stmts_back}

abbrev made : {A : Type 0} → A → Result A LoadCode
made x = Ok x

-- what the rules make of what a form holds
abbrev pub verdict : {A : Type 0} → Bool → Bool → A → Result A LoadCode
verdict is_formed is_sorted x = if is_formed then (if is_sorted then Ok x else Err code.Sort) else Err code.Form

pub version_back : (f : Format) → version_form (format_spelling f) ≡ Ok f
version_back One = ap version_of (number_of-decimal (pos 1) refl)
version_back Two = ap version_of (number_of-decimal (pos 2) refl)

definition_back : (d : PlainDef) → is_spelled_definition d ≡ true → (form (codes "def") (definition_spelling d) >>= def_parts) ≡ Some d
definition_back d h =
    let a = and_parts _ (is_spelled_term d.body) h in
    let b = and_parts _ (is_spelled_sort d.sort) a.0 in
    let c = and_parts (is_name d.name) (list_all is_spelled_name d.parameters) b.0 in
    let name : (if is_name d.name then Some d.name else None) ≡ Some d.name = ap (λ (e : Bool). if e then Some d.name else None) c.0 in
    let parameters = names_back d.parameters c.1 in
    let sort = (spelled_parts d.sort b.1).1 in
    let body = term_back d.body a.1 in
    λ i. name i >>= λ f. parameters i >>= λ ps. both (definition f ps) (sort i) (body i)

pub def_back : (f : Format) (defs : List PlainDef) (d : PlainDef) → is_spelled_definition d ≡ true
    → def_form f defs (definition_spelling d) ≡ verdict (may_stand f (definition_has_tags d) && is_formed_definition defs d) (is_sorted_definition defs d) d
def_back f defs d h = ap (judged (λ (e : PlainDef). may_stand f (definition_has_tags e) && is_formed_definition defs e) (is_sorted_definition defs)) (definition_back d h)

pub input_back : (f : Format) (s : PlainSignature) (n : List ℕ × PlainSort) → is_spelled_name n ≡ true
    → input_form f s (headed (codes "input") (named_spelling n)) ≡ verdict (may_stand f (name_has_tags n) && is_undeclared s n.0 && nat_lt (length s.inputs) 16) (is_allowed n.1) n
input_back f s n h =
    ap (judged (λ (m : List ℕ × PlainSort). may_stand f (name_has_tags m) && is_undeclared s m.0 && nat_lt (length s.inputs) 16) (λ (m : List ℕ × PlainSort). is_allowed m.1)) (named_back n h)

pub require_back : (f : Format) (s : PlainSignature) (c : PlainTerm) → is_spelled_term c ≡ true
    → require_form f s (headed (codes "require") (one (term_spelling c))) ≡ verdict (may_stand f (term_has_tags c)) (is_truth (sort_of s.definitions s.inputs c)) c
require_back f s c h =
    ap (judged (λ (d : PlainTerm). may_stand f (term_has_tags d)) (λ (d : PlainTerm). is_truth (sort_of s.definitions s.inputs d))) (term_back c h)

pub output_back : (f : Format) (s : PlainSignature) (n : List ℕ × PlainSort) → is_spelled_name n ≡ true
    → output_form f s (headed (codes "output") (named_spelling n)) ≡ verdict (may_stand f (name_has_tags n) && is_undeclared s n.0) (is_allowed n.1) n
output_back f s n h =
    ap (judged (λ (m : List ℕ × PlainSort). may_stand f (name_has_tags m) && is_undeclared s m.0) (λ (m : List ℕ × PlainSort). is_allowed m.1)) (named_back n h)

-- a count is no large number
pub count_small : (n : ℕ) → is_count n ≡ true → in_limits (pos n) ≡ true
count_small n h =
    let r = and_parts (nat_le 1 n) (nat_le n 1000000) h in
    and_both (int_le (negsuc 4611686018427387903) (pos n)) (int_le (pos n) (pos 4611686018427387904)) refl (grind (arith, nat_tests))

pub first_back : (n : ℕ) → is_count n ≡ true → first_form (first_spelling n) ≡ Ok n
first_back n h =
    ap counted (number_of-decimal (pos n) (count_small n h)) ∙ ap (λ (b : Bool). if b then made n else Err code.Form) h

pub main_back : (f : Format) (s : PlainSignature) (a : PlainSort) (parameters : Option Names) (main : PlainStmts) → are_spelled_stmts main ≡ true
    → main_form f s a parameters (headed (codes "main") (stmt_spellings main)) ≡ verdict (may_stand f (stmts_have_tags main)) (main_sorted s a parameters main) main
main_back f s a parameters main h = ap (judged (λ (ss : PlainStmts). may_stand f (stmts_have_tags ss)) (main_sorted s a parameters)) (stmts_back main h)

-- the tree of the search procedure
abbrev pub search_spelling : Names × PlainStmts → Plain
search_spelling p = headed (codes "search") (more (list (names_spelling p.0)) (stmt_spellings p.1))

pub search_back : (f : Format) (s : PlainSignature) (output : List ℕ × PlainSort) (search : Names × PlainStmts) → list_all is_spelled_name search.0 ≡ true → are_spelled_stmts search.1 ≡ true
    → search_form f s output (search_spelling search) ≡ verdict (may_stand f (search_has_tags search) && are_undeclared s output search.0) (search_sorted s output.1 search) search
search_back f s output search h k =
    let names = names_back search.0 h in
    let body = stmts_back search.1 k in
    let parts : (form (codes "search") (search_spelling search) >>= search_parts) ≡ Some search = λ i. both (λ ns ss. (ns, ss)) (names i) (body i) in
    ap (judged (λ (p : Names × PlainStmts). may_stand f (search_has_tags p) && are_undeclared s output p.0) (search_sorted s output.1)) parts

-- main sees the parameters of the search procedure
pub known_back : (f : Format) (s : PlainSignature) (output : List ℕ × PlainSort) (search : Names × PlainStmts) → list_all is_spelled_name search.0 ≡ true
    → may_stand f (names_have_tags search.0) ≡ true → are_undeclared s output search.0 ≡ true → are_allowed search.0 ≡ true
    → known_parameters f s output (one (search_spelling search)) ≡ Some search.0
known_back f s output search h stand new allowed =
    ap (λ (o : Option Names). o >>= if_proper f s output) (names_back search.0 h)
    ∙ ap (λ (b : Bool). if b then Some search.0 else None)
    (and_both (may_stand f (names_have_tags search.0) && are_undeclared s output search.0) (are_allowed search.0)
    (and_both (may_stand f (names_have_tags search.0)) (are_undeclared s output search.0) stand new) allowed)
