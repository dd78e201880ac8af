-- A program that keeps the rules loads from each file that spells it.
use Rattle.std.proofs.Common.{◌≡◌, ℕ, suc, ◌+◌, ◌<◌, ◌≤◌, Bool, true, List, [], ◌∷◌, ◌++◌, length, Option, Some, None, Result, Ok, refl, sym, ap, ◌∙◌, append_assoc, append-nil, arith}
use Rattle.std.specs.Prelude.{◌&&◌, ◌||◌, nat_le, nat_lt, if◌then◌else◌, codes}
use Rattle.std.specs.List.{list_all, list_any}
use Rattle.std.proofs.lemmas.Bool.Decides.{nat_tests}
use Rattle.std.proofs.lemmas.List.{length-append}
use Rattle.kid_sexp.specs.Plain.{Plain, Plains, none, more, one}
use Rattle.kid_sexp.specs.Reading.{reading}
use Rattle.kid_sexp.proofs.Printed.{text-spells}
use Rattle.kid_sexp.proofs.Spelled.{spelled-reading}
use Rattle.kid_value.specs.PlainSort.{PlainSort}
use Rattle.kid_value.specs.SortLimits.{is_allowed}
use Rattle.kid_value.proofs.SortLemmas.{and_parts, and_both}
use Rattle.kid_term.specs.Names.{Names, PlainDef}
use Rattle.kid_term.specs.Sorting.{sort_of}
use Rattle.kid_term.specs.PlainSpec.{is_wanted}
use Rattle.kid_sorting.specs.Declaring.{is_new, are_new, are_allowed, is_truth, is_sorted_definition}
use Rattle.kid_term.specs.PlainSignature.{PlainSignature}
use Rattle.kid_codec.specs.SortSpelling.{headed}
use Rattle.kid_codec.specs.TermSpelling.{term_spelling}
use Rattle.kid_prog.specs.Formed.{are_formed, signature_of, output_of, IsFormed}
use Rattle.kid_prog.specs.Forms.{is_formed_definition, def_form, is_undeclared, input_form, require_form, output_form, first_form, are_undefined, are_undeclared, known_parameters, main_sorted, main_form, search_sorted, search_form}
use Rattle.kid_prog.specs.Laws.{FormedProgramsLoad, TextsLoad}
use Rattle.kid_prog.specs.Loading.{◌>>=◌, Loaded, refused, at, Heading, program_with, at_end, after_main, after_first, after_output, after_condition, with_input, after_inputs, defined, after_definitions, program_from, from_forest}
use Rattle.kid_codec.specs.NamedValues.{sort_has_tags, term_has_tags}
use Rattle.kid_prog.specs.Formats.{may_stand, format_for}
use Rattle.kid_prog.specs.Tags.{name_has_tags, names_have_tags, definition_has_tags, stmts_have_tags, search_has_tags, program_has_tags}
use Rattle.kid_prog.specs.PlainProgram.{PlainProgram}
use Rattle.kid_prog.specs.PlainStmt.{PlainStmts}
use Rattle.kid_prog.specs.ProgramText.{program_text}
use Rattle.kid_prog.specs.Spelling.{named_spelling, stmt_spellings, definitions_before, inputs_before, definition_spelling, format_spelling, first_spelling, first_before, main_forms, last_forms, spelling_in, program_spelling, is_spelled_name, is_spelled_definition}
use Rattle.kid_prog.specs.declared.fault.LoadCode.{LoadCode}
use Rattle.kid_prog.specs.declared.fault.LoadCode.TheVariants as code
use Rattle.kid_prog.specs.declared.format.Format.{Format}
use Rattle.kid_prog.proofs.FormBack.{verdict, version_back, def_back, input_back, require_back, output_back, first_back, main_back, search_spelling, search_back, known_back}
use Rattle.kid_prog.proofs.Printable.{program_printable}
use Rattle.kid_prog.proofs.ProgramParts.{IsSpelled, spelled_parts}
use Rattle.kid_prog.proofs.Standing.{stand_parts, stands_there, Stands, stands_parts}

-- a form that keeps the rules hands on what it holds
passed : {A B : Type 0} (k : ℕ) (b c : Bool) (r : Result A LoadCode) (x : A) (next : A → Loaded B) → r ≡ verdict b c x → b ≡ true → c ≡ true → (at k r >>= next) ≡ next x
passed k b c r x next is p q = (λ i. at k (is i) >>= next) ∙ (λ i. at k (verdict (p i) (q i) x) >>= next)

-- ---- the last forms

abbrev pub require_tree : PlainProgram → Plain
require_tree p = headed (codes "require") (one (term_spelling p.condition))

abbrev pub output_tree : PlainProgram → Plain
output_tree p = headed (codes "output") (named_spelling (output_of p))

abbrev pub main_tree : PlainProgram → Plain
main_tree p = headed (codes "main") (stmt_spellings p.main)

abbrev pub search_of : PlainProgram → Names × PlainStmts
search_of p = (p.parameters, p.search)

abbrev pub search_tree : PlainProgram → Plain
search_tree p = search_spelling (search_of p)

abbrev pub heading : Format → PlainProgram → List ℕ × PlainSort → Option ℕ → Heading
heading g p output first = record { format = g; signature = signature_of p; condition = p.condition; output = output; first = first }

abbrev pub heading_of : Format → PlainProgram → Heading
heading_of g p = heading g p (output_of p) p.first

abbrev pub known : Format → PlainProgram → Option Names
known g p = known_parameters g (signature_of p) (output_of p) (one (search_tree p))

known_are : (g : Format) (p : PlainProgram) → IsSpelled p → IsFormed p → Stands g p → known g p ≡ Some p.parameters
known_are g p s f t =
    known_back g (signature_of p) (output_of p) (search_of p) s.parameters (stand_parts g (names_have_tags p.parameters) (stmts_have_tags p.search) t.search).0 f.parameters_new f.parameters_allowed

search_loads : (k : ℕ) (g : Format) (p : PlainProgram) → IsSpelled p → IsFormed p → Stands g p → after_main k (heading_of g p) p.main (one (search_tree p)) ≡ Ok p
search_loads k g p s f t =
    passed (suc k) (may_stand g (search_has_tags (search_of p)) && are_undeclared (signature_of p) (output_of p) p.parameters) (search_sorted (signature_of p) p.sort (search_of p))
    (search_form g (signature_of p) (output_of p) (search_tree p)) (search_of p) (λ search. at_end (suc k) (program_with (heading_of g p) p.main search) none)
    (search_back g (signature_of p) (output_of p) (search_of p) s.parameters s.search)
    (and_both (may_stand g (search_has_tags (search_of p))) (are_undeclared (signature_of p) (output_of p) p.parameters) t.search f.parameters_new) (and_both (are_allowed p.parameters) _ f.parameters_allowed f.search)

main_loads : (k : ℕ) (g : Format) (p : PlainProgram) → IsSpelled p → IsFormed p → Stands g p → after_first k (heading_of g p) (main_forms p) ≡ Ok p
main_loads k g p s f t =
    passed (suc k) (may_stand g (stmts_have_tags p.main)) (main_sorted (signature_of p) p.sort (known g p) p.main) (main_form g (signature_of p) p.sort (known g p) (main_tree p)) p.main
    (λ main. after_main (suc k) (heading_of g p) main (one (search_tree p)))
    (main_back g (signature_of p) p.sort (known g p) p.main s.main) t.main
    (ap (λ (ps : Option Names). main_sorted (signature_of p) p.sort ps p.main) (known_are g p s f t) ∙ f.main)
    ∙ search_loads (suc k) g p s f t

-- what the forms after the output lead to
pub first_follows : (k : ℕ) (g : Format) (p : PlainProgram) (output : List ℕ × PlainSort) (first : Option ℕ) → is_wanted first ≡ true
    → (j : ℕ) × (after_output k (heading g p output None) (first_before first (main_forms p)) ≡ after_first j (heading g p output first) (main_forms p))
first_follows k g p output None h = (k, refl)
first_follows k g p output (Some n) h =
    (suc k, ap (λ (r : Result ℕ LoadCode). at (suc k) r >>= λ m. after_first (suc k) (heading g p output (Some m)) (main_forms p)) (first_back n h))

output_loads : (k : ℕ) (g : Format) (p : PlainProgram) → IsSpelled p → IsFormed p → Stands g p
    → after_condition k g (signature_of p) p.condition (more (output_tree p) (first_before p.first (main_forms p))) ≡ Ok p
output_loads k g p s f t =
    passed (suc k) (may_stand g (sort_has_tags p.sort) && is_undeclared (signature_of p) p.output) (is_allowed p.sort) (output_form g (signature_of p) (output_tree p)) (output_of p)
    (λ output. after_output (suc k) (heading g p output None) (first_before p.first (main_forms p)))
    (output_back g (signature_of p) (output_of p) s.output) (and_both (may_stand g (sort_has_tags p.sort)) (is_undeclared (signature_of p) p.output) t.sort f.output_new) f.output_allowed
    ∙ (let after = first_follows (suc k) g p (output_of p) p.first f.wanted in after.1 ∙ main_loads after.0 g p s f t)

last_load : (k : ℕ) (g : Format) (p : PlainProgram) → IsSpelled p → IsFormed p → Stands g p → after_inputs k g (signature_of p) (last_forms p) ≡ Ok p
last_load k g p s f t =
    passed (suc k) (may_stand g (term_has_tags p.condition)) (is_truth (sort_of p.definitions p.inputs p.condition)) (require_form g (signature_of p) (require_tree p)) p.condition
    (λ condition. after_condition (suc k) g (signature_of p) condition (more (output_tree p) (first_before p.first (main_forms p))))
    (require_back g (signature_of p) p.condition s.condition) t.condition (ap is_truth f.condition)
    ∙ output_loads (suc k) g p s f t

-- ---- inputs

-- these inputs after the definitions of the program
abbrev pub with_inputs : PlainProgram → Names → PlainSignature
with_inputs p done = record { definitions = p.definitions; inputs = done }

room_left : (done ns all : Names) (n : List ℕ × PlainSort) → done ++ n ∷ ns ≡ all → length all ≤ 16 → nat_lt (length done) 16 ≡ true
room_left done ns all n is few =
    let sum : length all ≡ length done + suc (length ns) = ap length (sym is) ∙ length-append done (n ∷ ns) in
    let room : length done < 16 = omega (arith, sum) in
    grind (arith, nat_tests)

inputs_load : (k : ℕ) (g : Format) (done ns : Names) (p : PlainProgram) → done ++ ns ≡ p.inputs → IsSpelled p → IsFormed p → Stands g p
    → may_stand g (names_have_tags ns) ≡ true → list_all is_spelled_name ns ≡ true → are_undefined ns p.definitions ≡ true → are_new done ns ≡ true → are_allowed ns ≡ true
    → after_inputs k g (with_inputs p done) (inputs_before ns (last_forms p)) ≡ Ok p
inputs_load k g done [] p is s f t stand h undefined new allowed =
    ap (λ (ns : Names). after_inputs k g (with_inputs p ns) (last_forms p)) (sym (append-nil done) ∙ is) ∙ last_load k g p s f t
inputs_load k g done (n ∷ ns) p is s f t stand h undefined new allowed =
    let stands = stand_parts g (name_has_tags n) (names_have_tags ns) stand in
    let a = and_parts (is_spelled_name n) (list_all is_spelled_name ns) h in
    let b = and_parts _ (are_undefined ns p.definitions) undefined in
    let c = and_parts (is_new done n.0) (are_new (done ++ n ∷ []) ns) new in
    let d = and_parts (is_allowed n.1) (are_allowed ns) allowed in
    let room = room_left done ns p.inputs n is f.inputs_few in
    passed (suc k) (may_stand g (name_has_tags n) && is_undeclared (with_inputs p done) n.0 && nat_lt (length done) 16) (is_allowed n.1) (input_form g (with_inputs p done) (headed (codes "input") (named_spelling n))) n
    (λ m. after_inputs (suc k) g (with_input (with_inputs p done) m) (inputs_before ns (last_forms p)))
    (input_back g (with_inputs p done) n a.0)
    (and_both _ (nat_lt (length done) 16) (and_both (may_stand g (name_has_tags n)) (is_undeclared (with_inputs p done) n.0) stands.0 (and_both _ (is_new done n.0) b.0 c.0)) room) d.0
    ∙ inputs_load (suc k) g (done ++ n ∷ []) ns p (append_assoc done (n ∷ []) ns ∙ is) s f t stands.1 a.1 b.1 c.1 d.1

-- ---- definitions

-- what follows definitions is none
pub inputs_follow : (k : ℕ) (g : Format) (defs : List PlainDef) (ns : Names) (p : PlainProgram)
    → after_definitions k g defs (inputs_before ns (last_forms p)) ≡ after_inputs k g (defined defs) (inputs_before ns (last_forms p))
inputs_follow k g defs [] p = refl
inputs_follow k g defs (n ∷ ns) p = refl

-- the forms after the definitions
abbrev pub forms_after : PlainProgram → Plains
forms_after p = inputs_before p.inputs (last_forms p)

definitions_load : (k : ℕ) (g : Format) (before rest : List PlainDef) (p : PlainProgram) → before ++ rest ≡ p.definitions
    → ((j : ℕ) → after_inputs j g (defined p.definitions) (forms_after p) ≡ Ok p)
    → may_stand g (list_any definition_has_tags rest) ≡ true → list_all is_spelled_definition rest ≡ true → are_formed before rest ≡ true
    → after_definitions k g before (definitions_before rest (forms_after p)) ≡ Ok p
definitions_load k g before [] p is later stand h f =
    inputs_follow k g before p.inputs p
    ∙ ap (λ (ds : List PlainDef). after_inputs k g (defined ds) (forms_after p)) (sym (append-nil before) ∙ is) ∙ later k
definitions_load k g before (d ∷ ds) p is later stand h f =
    let stands = stand_parts g (definition_has_tags d) (list_any definition_has_tags ds) stand in
    let a = and_parts (is_spelled_definition d) (list_all is_spelled_definition ds) h in
    let b = and_parts _ (are_formed (before ++ d ∷ []) ds) f in
    let c = and_parts (is_formed_definition before d) (is_sorted_definition before d) b.0 in
    passed (suc k) (may_stand g (definition_has_tags d) && is_formed_definition before d) (is_sorted_definition before d) (def_form g before (definition_spelling d)) d
    (λ e. after_definitions (suc k) g (before ++ e ∷ []) (definitions_before ds (forms_after p)))
    (def_back g before d a.0) (and_both (may_stand g (definition_has_tags d)) (is_formed_definition before d) stands.0 c.0) c.1
    ∙ definitions_load (suc k) g (before ++ d ∷ []) ds p (append_assoc before (d ∷ []) ds ∙ is) later stands.1 a.1 b.1

-- ---- the whole

program_loads : (g : Format) (p : PlainProgram) → IsSpelled p → IsFormed p → Stands g p → program_from (spelling_in g p) ≡ Ok p
program_loads g p s f t =
    ap (λ (r : Result Format LoadCode). at 1 r >>= λ h. after_definitions 1 h [] (definitions_before p.definitions (forms_after p))) (version_back g)
    ∙ definitions_load 1 g [] p.definitions p refl
    (λ j. inputs_load j g [] p.inputs p refl s f t t.inputs s.inputs f.inputs_undefined f.inputs_differ f.inputs_allowed)
    t.definitions s.definitions f.definitions

is_at_most : (n limit : ℕ) → n ≤ limit → nat_le n limit ≡ true
is_at_most n limit h = grind (arith, nat_tests)

pub formed_load : FormedProgramsLoad
formed_load bytes g p spelled formed stands few spells =
    ap (λ (b : Bool). if b then from_forest (reading bytes) else refused 0 code.Large) (is_at_most (length bytes) 4194304 few)
    ∙ ap from_forest (spelled-reading bytes (spelling_in g p) spells)
    ∙ program_loads g p (spelled_parts p spelled) formed (stands_parts g p stands)

pub text_loads : TextsLoad
text_loads p spelled formed shallow few =
    formed_load (program_text p) (format_for (program_has_tags p)) p spelled formed (stands_there (program_has_tags p)) few
    (text-spells (program_spelling p) (program_printable p spelled) shallow)
