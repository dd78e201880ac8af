-- A program that loads keeps the rules.
use Rattle.std.proofs.Common.{◌≡◌, ℕ, suc, ◌<◌, ◌≤◌, Bool, true, false, List, [], ◌∷◌, ◌++◌, length, Option, None, Result, Ok, refl, sym, ap, ◌∙◌, append_assoc, append-nil, subst, arith}
use Rattle.std.specs.Prelude.{◌&&◌, ◌||◌, nat_le, nat_lt, if◌then◌else◌, codes}
use Rattle.std.specs.List.{list_all}
use Rattle.std.proofs.lemmas.Bool.Decides.{nat_tests}
use Rattle.std.proofs.lemmas.List.{length-append}
use Rattle.kid_sexp.specs.Brackets.{Fault}
use Rattle.kid_sexp.specs.Plain.{Plains, none, more, one}
use Rattle.kid_sexp.specs.Reading.{reading}
use Rattle.kid_value.specs.PlainSort.{PlainSort, bools}
use Rattle.kid_value.specs.SortLimits.{is_allowed}
use Rattle.kid_value.proofs.SortLemmas.{and_parts, and_both}
use Rattle.kid_term.specs.Names.{Names, PlainDef}
use Rattle.kid_term.specs.Sorting.{sort_of}
use Rattle.kid_sorting.specs.Declaring.{is_new, are_new, are_allowed, is_truth, is_sorted_definition}
use Rattle.kid_codec.specs.SortSpelling.{headed}
use Rattle.kid_prog.specs.Formed.{are_formed, signature_of, output_of, IsFormed}
use Rattle.kid_prog.specs.Forms.{version_form, is_formed_definition, def_form, is_undeclared, input_form, require_form, output_form, are_undefined, are_undeclared, main_sorted, main_form, search_sorted, search_form}
use Rattle.kid_codec.specs.NamedValues.{sort_has_tags, term_has_tags}
use Rattle.kid_prog.specs.Formats.{may_stand}
use Rattle.kid_prog.specs.Tags.{name_has_tags, names_have_tags, definition_has_tags, stmts_have_tags, search_has_tags}
use Rattle.kid_prog.specs.Laws.{LoadsAreFormed}
use Rattle.kid_prog.specs.Loading.{◌>>=◌, Loaded, refused, at, program_with, at_end, after_main, after_first, after_output, after_condition, with_input, after_inputs, defined, after_definitions, program_from, from_forest}
use Rattle.kid_prog.specs.PlainProgram.{PlainProgram}
use Rattle.kid_prog.specs.Rules.{obey, setting_of, search_scope}
use Rattle.kid_prog.specs.Spelling.{named_spelling, definitions_before, inputs_before, definition_spelling, format_spelling, first_before, main_forms, last_forms, spelling_in, is_spelled_name, is_spelled_definition}
use Rattle.kid_prog.specs.declared.fault.LoadCode.{LoadCode}
use Rattle.kid_prog.specs.declared.fault.LoadCode.TheVariants as code
use Rattle.kid_prog.specs.declared.format.Format.{Format}
use Rattle.kid_prog.proofs.Casts.{truth_sorted}
use Rattle.kid_prog.proofs.FormBack.{verdict, def_back, input_back, require_back, output_back, main_back, search_back, known_back}
use Rattle.kid_prog.proofs.LoadBack.{require_tree, output_tree, main_tree, search_of, search_tree, heading, heading_of, known, first_follows, with_inputs, inputs_follow, forms_after}
use Rattle.kid_prog.proofs.LoadTold.{program_told}
use Rattle.kid_prog.proofs.ProgramParts.{IsSpelled, spelled_parts}
use Rattle.kid_prog.proofs.Stages.{staged, loaded_forest}
use Rattle.kid_prog.proofs.Standing.{stand_parts}

-- a form that was handed on keeps the rules
met : {A B : Type 0} (k : ℕ) (b c : Bool) (x : A) (next : A → Loaded B) (y : B) → (at k (verdict b c x) >>= next) ≡ Ok y → (b ≡ true) × (c ≡ true) × (next x ≡ Ok y)
met k true true x next y e = (refl, refl, e)
met k true false x next y e = absurd (let no : ⊥ = cc in no)
met k false c x next y e = absurd (let no : ⊥ = cc in no)

kept : {A B : Type 0} (k : ℕ) (b c : Bool) (r : Result A LoadCode) (x : A) (next : A → Loaded B) (y : B) → r ≡ verdict b c x → (at k r >>= next) ≡ Ok y
    → (b ≡ true) × (c ≡ true) × (next x ≡ Ok y)
kept k b c r x next y is e = met k b c x next y (ap (λ s. at k s >>= next) (sym is) ∙ e)

-- the rules of the last forms
record LastFormed (p : PlainProgram) : Type 0 where
  condition : sort_of p.definitions p.inputs p.condition ≡ Ok bools
  output_new : is_undeclared (signature_of p) p.output ≡ true
  output_allowed : is_allowed p.sort ≡ true
  parameters_new : are_undeclared (signature_of p) (output_of p) p.parameters ≡ true
  parameters_allowed : are_allowed p.parameters ≡ true
  main : obey (setting_of p) p.inputs p.main ≡ true
  search : obey (setting_of p) (search_scope p) p.search ≡ true

last_formed : (k : ℕ) (h : Format) (p : PlainProgram) → IsSpelled p → after_inputs k h (signature_of p) (last_forms p) ≡ Ok p → LastFormed p
last_formed k h p s e =
    let g = signature_of p in
    let a = kept (suc k) (may_stand h (term_has_tags p.condition)) (is_truth (sort_of p.definitions p.inputs p.condition)) (require_form h g (require_tree p)) p.condition
    (λ condition. after_condition (suc k) h g condition (more (output_tree p) (first_before p.first (main_forms p)))) p (require_back h g p.condition s.condition) e in
    let b = kept (suc (suc k)) (may_stand h (sort_has_tags p.sort) && is_undeclared g p.output) (is_allowed p.sort) (output_form h g (output_tree p)) (output_of p)
    (λ output. after_output (suc (suc k)) (heading h p output None) (first_before p.first (main_forms p))) p (output_back h g (output_of p) s.output) a.2 in
    let follows = first_follows (suc (suc k)) h p (output_of p) p.first s.wanted in
    let j : ℕ = follows.0 in
    let c = kept (suc j) (may_stand h (stmts_have_tags p.main)) (main_sorted g p.sort (known h p) p.main) (main_form h g p.sort (known h p) (main_tree p)) p.main
    (λ main. after_main (suc j) (heading_of h p) main (one (search_tree p))) p (main_back h g p.sort (known h p) p.main s.main) (sym follows.1 ∙ b.2) in
    let d = kept (suc (suc j)) (may_stand h (search_has_tags (search_of p)) && are_undeclared g (output_of p) p.parameters) (search_sorted g p.sort (search_of p)) (search_form h g (output_of p) (search_tree p)) (search_of p)
    (λ search. at_end (suc (suc j)) (program_with (heading_of h p) p.main search) none) p (search_back h g (output_of p) (search_of p) s.parameters s.search) c.2 in
    let sorted = and_parts (are_allowed p.parameters) (obey (setting_of p) (search_scope p) p.search) d.1 in
    let standing = and_parts (may_stand h (search_has_tags (search_of p))) (are_undeclared g (output_of p) p.parameters) d.0 in
    let parameters = stand_parts h (names_have_tags p.parameters) (stmts_have_tags p.search) standing.0 in
    let are_known = known_back h g (output_of p) (search_of p) s.parameters parameters.0 standing.1 sorted.0 in
    record {
      condition = truth_sorted (sort_of p.definitions p.inputs p.condition) a.1;
      output_new = (and_parts (may_stand h (sort_has_tags p.sort)) (is_undeclared g p.output) b.0).1;
      output_allowed = b.1;
      parameters_new = standing.1;
      parameters_allowed = sorted.0;
      main = ap (λ (ps : Option Names). main_sorted g p.sort ps p.main) (sym are_known) ∙ c.1;
      search = sorted.1;
    }

-- the rules of these inputs, after others, and of the last forms
record InputsFormed (done ns : Names) (p : PlainProgram) : Type 0 where
  undefined : are_undefined ns p.definitions ≡ true
  differ : are_new done ns ≡ true
  few : length p.inputs ≤ 16
  allowed : are_allowed ns ≡ true
  last : LastFormed p

one_longer : (done : Names) (n : List ℕ × PlainSort) → nat_lt (length done) 16 ≡ true → length (done ++ n ∷ []) ≤ 16
one_longer done n h =
    let room : length done < 16 = grind (arith, nat_tests) in
    omega (arith, length-append done (n ∷ []))

inputs_formed : (k : ℕ) (g : Format) (done ns : Names) (p : PlainProgram) → done ++ ns ≡ p.inputs → length done ≤ 16 → IsSpelled p → list_all is_spelled_name ns ≡ true
    → after_inputs k g (with_inputs p done) (inputs_before ns (last_forms p)) ≡ Ok p → InputsFormed done ns p
inputs_formed k g done [] p is few s h e =
    let all : done ≡ p.inputs = sym (append-nil done) ∙ is in
    record {
      undefined = refl;
      differ = refl;
      few = subst (λ (ns : Names). length ns ≤ 16) all few;
      allowed = refl;
      last = last_formed k g p s (ap (λ (ns : Names). after_inputs k g (with_inputs p ns) (last_forms p)) (sym all) ∙ e);
    }
inputs_formed k g done (n ∷ ns) p is few s h e =
    let a = and_parts (is_spelled_name n) (list_all is_spelled_name ns) h in
    let b = kept (suc k) (may_stand g (name_has_tags n) && is_undeclared (with_inputs p done) n.0 && nat_lt (length done) 16) (is_allowed n.1) (input_form g (with_inputs p done) (headed (codes "input") (named_spelling n))) n
    (λ m. after_inputs (suc k) g (with_input (with_inputs p done) m) (inputs_before ns (last_forms p))) p (input_back g (with_inputs p done) n a.0) e in
    let c = and_parts (may_stand g (name_has_tags n) && is_undeclared (with_inputs p done) n.0) (nat_lt (length done) 16) b.0 in
    let undeclared = and_parts (may_stand g (name_has_tags n)) (is_undeclared (with_inputs p done) n.0) c.0 in
    let d = and_parts _ (is_new done n.0) undeclared.1 in
    let r = inputs_formed (suc k) g (done ++ n ∷ []) ns p (append_assoc done (n ∷ []) ns ∙ is) (one_longer done n c.1) s a.1 b.2 in
    record {
      undefined = and_both _ (are_undefined ns p.definitions) d.0 r.undefined;
      differ = and_both (is_new done n.0) (are_new (done ++ n ∷ []) ns) d.1 r.differ;
      few = r.few;
      allowed = and_both (is_allowed n.1) (are_allowed ns) b.1 r.allowed;
      last = r.last;
    }

definitions_formed : (k : ℕ) (g : Format) (before rest : List PlainDef) (p : PlainProgram) → before ++ rest ≡ p.definitions → list_all is_spelled_definition rest ≡ true
    → after_definitions k g before (definitions_before rest (forms_after p)) ≡ Ok p
    → (are_formed before rest ≡ true) × (j : ℕ) × (after_inputs j g (defined p.definitions) (forms_after p) ≡ Ok p)
definitions_formed k g before [] p is h e =
    let all : before ≡ p.definitions = sym (append-nil before) ∙ is in
    (refl, k, ap (λ (ds : List PlainDef). after_inputs k g (defined ds) (forms_after p)) (sym all) ∙ sym (inputs_follow k g before p.inputs p) ∙ e)
definitions_formed k g before (d ∷ ds) p is h e =
    let a = and_parts (is_spelled_definition d) (list_all is_spelled_definition ds) h in
    let b = kept (suc k) (may_stand g (definition_has_tags d) && is_formed_definition before d) (is_sorted_definition before d) (def_form g before (definition_spelling d)) d
    (λ f. after_definitions (suc k) g (before ++ f ∷ []) (definitions_before ds (forms_after p))) p (def_back g before d a.0) e in
    let formed = (and_parts (may_stand g (definition_has_tags d)) (is_formed_definition before d) b.0).1 in
    let r = definitions_formed (suc k) g (before ++ d ∷ []) ds p (append_assoc before (d ∷ []) ds ∙ is) a.1 b.2 in
    (and_both _ (are_formed (before ++ d ∷ []) ds) (and_both (is_formed_definition before d) (is_sorted_definition before d) formed b.1) r.0, r.1, r.2)

program_formed : (f : Format) (p : PlainProgram) → IsSpelled p → program_from (spelling_in f p) ≡ Ok p → IsFormed p
program_formed f p s e =
    let a = staged 1 (version_form (format_spelling f)) (λ g. after_definitions 1 g [] (definitions_before p.definitions (forms_after p))) p e in
    let g : Format = a.0 in
    let d = definitions_formed 1 g [] p.definitions p refl s.definitions a.2 in
    let n = inputs_formed d.1 g [] p.inputs p refl (let none_yet : 0 ≤ 16 = omega arith in none_yet) s s.inputs d.2 in
    record {
      definitions = d.0;
      inputs_undefined = n.undefined;
      inputs_differ = n.differ;
      inputs_few = n.few;
      inputs_allowed = n.allowed;
      condition = n.last.condition;
      output_new = n.last.output_new;
      output_allowed = n.last.output_allowed;
      wanted = s.wanted;
      parameters_new = n.last.parameters_new;
      parameters_allowed = n.last.parameters_allowed;
      main = n.last.main;
      search = n.last.search;
    }

few_bytes : (b : Bool) (r : Result Plains Fault) (p : PlainProgram) → (if b then from_forest r else refused 0 code.Large) ≡ Ok p → b ≡ true
few_bytes true r p e = refl
few_bytes false r p e = absurd (let no : ⊥ = cc in no)

at_most : (n limit : ℕ) → nat_le n limit ≡ true → n ≤ limit
at_most n limit h = grind (arith, nat_tests)

pub loads_formed : LoadsAreFormed
loads_formed bytes p e =
    let f = loaded_forest bytes p e in
    let told = program_told f.0 p f.2 in (
      at_most (length bytes) 4194304 (few_bytes (nat_le (length bytes) 4194304) (reading bytes) p e),
      program_formed told.format p (spelled_parts p told.spelled) (ap program_from (sym told.trees) ∙ f.2),
    )
