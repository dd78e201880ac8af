-- A program that loads can be run, and is the one that the forms spell.
use Rattle.std.proofs.Common.{◌≡◌, ℕ, suc, Bool, true, false, List, [], ◌∷◌, ◌++◌, Option, Some, None, Ok, refl, sym, ap, ◌∙◌, append_assoc, append-nil, subst}
use Rattle.std.specs.Prelude.{◌&&◌, ◌||◌, not, if◌then◌else◌}
use Rattle.std.specs.List.{list_all, list_any}
use Rattle.std.proofs.lemmas.List.Folds.{list_all-append, list_any-append}
use Rattle.kid_sexp.specs.Plain.{Plain, Plains, none, more, one}
use Rattle.kid_value.specs.PlainSort.{PlainSort, has_never}
use Rattle.kid_value.specs.SortLimits.{is_allowed}
use Rattle.kid_value.proofs.SortLemmas.{and_parts, and_both}
use Rattle.kid_term.specs.Fitting.{AreSound}
use Rattle.kid_term.specs.Names.{Names, PlainDef}
use Rattle.kid_term.specs.PlainSpec.{is_wanted}
use Rattle.kid_term.specs.PlainTerm.{PlainTerm}
use Rattle.kid_sorting.specs.Declaring.{are_allowed}
use Rattle.kid_term.specs.PlainSignature.{PlainSignature}
use Rattle.kid_sorting.proofs.SoundDefinitions.{names-allowed, sound-more}
use Rattle.kid_codec.specs.Name.{is_name}
use Rattle.kid_codec.specs.SortSpelling.{has_spelled_names, is_spelled_sort}
use Rattle.kid_codec.specs.NamedValues.{sort_has_tags}
use Rattle.kid_prog.specs.Formats.{may_stand}
use Rattle.kid_prog.specs.Tags.{name_has_tags, names_have_tags, definition_has_tags, program_has_tags}
use Rattle.kid_prog.specs.PlainProgram.{PlainProgram}
use Rattle.kid_prog.specs.PlainStmt.{PlainStmts}
use Rattle.kid_prog.specs.Rules.{IsRunnable, obey}
use Rattle.kid_prog.specs.Spelling.{definitions_before, inputs_before, first_before, last_forms, spelling_in, is_spelled_name, is_spelled_definition, is_spelled_program}
use Rattle.kid_prog.specs.Forms.{version_form, is_def, def_form, input_form, require_form, output_form, is_first, first_form, is_input, setting, known_parameters, main_form, search_form}
use Rattle.kid_prog.specs.Loading.{◌>>=◌, refused, at, Heading, program_with, at_end, after_main, after_first, after_output, after_condition, with_input, after_inputs, defined, after_definitions, program_from}
use Rattle.kid_prog.specs.declared.fault.LoadCode.{LoadCode}
use Rattle.kid_prog.specs.declared.fault.LoadCode.TheVariants as code
use Rattle.kid_prog.specs.declared.format.Format.{Format}
use Rattle.kid_prog.specs.declared.format.Format.TheVariants.{One, Two}
use Rattle.kid_prog.proofs.DefTold.{def_told}
use Rattle.kid_prog.proofs.ProgramParts.{IsSpelled, spelled_whole}
use Rattle.kid_prog.proofs.Stages.{staged, ended}
use Rattle.kid_prog.proofs.Standing.{stand_both, Stands, stands_whole}
use Rattle.kid_prog.proofs.StageForms.{version_told, input_told, output_told, first_told, require_told, main_told, search_told}

not_refused : {A : Type 0} (k : ℕ) (c : LoadCode) (x : A) → refused k c ≡ Ok x → ⊥
not_refused k c x p = cc

-- what has a spelling is allowed
spelled_allowed : (s : PlainSort) → is_spelled_sort s ≡ true → is_allowed s ≡ true
spelled_allowed s h = (and_parts (is_allowed s) (not (has_never s)) (and_parts (is_allowed s && not (has_never s)) (has_spelled_names s) h).0).0

-- names that have spellings have allowed sorts
spelled-allowed : (ns : Names) → list_all is_spelled_name ns ≡ true → are_allowed ns ≡ true
spelled-allowed [] h = refl
spelled-allowed (n ∷ ns) h =
    let r = and_parts (is_spelled_name n) (list_all is_spelled_name ns) h in
    and_both (is_allowed n.1) (are_allowed ns) (name_allowed n r.0) (spelled-allowed ns r.1)
  where
    name_allowed : (n : List ℕ × PlainSort) → is_spelled_name n ≡ true → is_allowed n.1 ≡ true
    name_allowed n h = spelled_allowed n.1 (and_parts (is_name n.0) (is_spelled_sort n.1) h).1

-- definitions that are sound, and names that have spellings, which may stand in a file of the format
record Proper (f : Format) (s : PlainSignature) : Type 0 where
  definitions_stand : may_stand f (list_any definition_has_tags s.definitions) ≡ true
  inputs_stand : may_stand f (names_have_tags s.inputs) ≡ true
  sound : AreSound s.definitions
  definitions : list_all is_spelled_definition s.definitions ≡ true
  inputs : list_all is_spelled_name s.inputs ≡ true

-- the forms main and search
record MainFound (h : Heading) (ts : Plains) (p : PlainProgram) : Type 0 where
  main_tree : Plain
  search_tree : Plain
  main : PlainStmts
  search : Names × PlainStmts
  trees : ts ≡ more main_tree (one search_tree)
  main_is : main_form h.format h.signature h.output.1 (known_parameters h.format h.signature h.output (one search_tree)) main_tree ≡ Ok main
  search_is : search_form h.format h.signature h.output search_tree ≡ Ok search
  whole : program_with h main search ≡ p

main_found : (k : ℕ) (h : Heading) (ts : Plains) (p : PlainProgram) → after_first k h ts ≡ Ok p → MainFound h ts p
main_found k h none p e = absurd (not_refused (suc k) code.Form p e)
main_found k h (more u none) p e =
    let b = staged (suc k) (main_form h.format h.signature h.output.1 (known_parameters h.format h.signature h.output none) u) (λ main. after_main (suc k) h main none) p e in
    absurd (not_refused (suc (suc k)) code.Form p b.2)
main_found k h (more u (more v vs)) p e =
    let b = staged (suc k) (main_form h.format h.signature h.output.1 (known_parameters h.format h.signature h.output (more v vs)) u) (λ main. after_main (suc k) h main (more v vs)) p e in
    let c = staged (suc (suc k)) (search_form h.format h.signature h.output v) (λ search. at_end (suc (suc k)) (program_with h b.0 search) vs) p b.2 in
    let d = ended (suc (suc k)) (program_with h b.0 c.0) p vs c.2 in
    record {
      main_tree = u;
      search_tree = v;
      main = b.0;
      search = c.0;
      trees = ap (λ (ws : Plains). more u (more v ws)) d.0;
      main_is = b.1;
      search_is = c.1;
      whole = d.1;
    }

abbrev heading : Format → PlainSignature → PlainTerm → List ℕ × PlainSort → Option ℕ → Heading
heading f s condition output first = record { format = f; signature = s; condition = condition; output = output; first = first }

-- how many values are wanted, and the forms main and search
record FirstFound (f : Format) (s : PlainSignature) (condition : PlainTerm) (output : List ℕ × PlainSort) (ts : Plains) (p : PlainProgram) : Type 0 where
  first : Option ℕ
  wanted : is_wanted first ≡ true
  rest : Plains
  trees : ts ≡ first_before first rest
  last : MainFound (heading f s condition output first) rest p

first_found : (k : ℕ) (f : Format) (s : PlainSignature) (condition : PlainTerm) (output : List ℕ × PlainSort) (ts : Plains) (p : PlainProgram)
    → after_output k (heading f s condition output None) ts ≡ Ok p → FirstFound f s condition output ts p
first_found k f s condition output none p e = absurd (not_refused (suc k) code.Form p e)
first_found k f s condition output (more t ts) p e = by (is_first t) e
  where
    by : (b : Bool)
        → (if b then (at (suc k) (first_form t) >>= λ n. after_first (suc k) (heading f s condition output (Some n)) ts) else after_first k (heading f s condition output None) (more t ts)) ≡ Ok p
        → FirstFound f s condition output (more t ts) p
    by true e =
        let a = staged (suc k) (first_form t) (λ n. after_first (suc k) (heading f s condition output (Some n)) ts) p e in
        let n : ℕ = a.0 in
        let told = first_told t n a.1 in
        record { first = Some n; wanted = told.1; rest = ts; trees = ap (λ (u : Plain). more u ts) told.0; last = main_found (suc k) (heading f s condition output (Some n)) ts p a.2 }
    by false e = record { first = None; wanted = refl; rest = more t ts; trees = refl; last = main_found k (heading f s condition output None) (more t ts) p e }

-- the forms after the condition
record LastFound (f : Format) (s : PlainSignature) (condition : PlainTerm) (ts : Plains) (p : PlainProgram) : Type 0 where
  output_tree : Plain
  output : List ℕ × PlainSort
  rest : Plains
  trees : ts ≡ more output_tree rest
  output_is : output_form f s output_tree ≡ Ok output
  found : FirstFound f s condition output rest p

last_found : (k : ℕ) (f : Format) (s : PlainSignature) (condition : PlainTerm) (ts : Plains) (p : PlainProgram) → after_condition k f s condition ts ≡ Ok p → LastFound f s condition ts p
last_found k f s condition none p e = absurd (not_refused (suc k) code.Form p e)
last_found k f s condition (more t ts) p e =
    let a = staged (suc k) (output_form f s t) (λ output. after_output (suc k) (heading f s condition output None) ts) p e in
    record { output_tree = t; output = a.0; rest = ts; trees = refl; output_is = a.1; found = first_found (suc k) f s condition a.0 ts p a.2 }

-- what the forms after these definitions and inputs tell
record RestTold (f : Format) (s : PlainSignature) (ts : Plains) (p : PlainProgram) : Type 0 where
  rest : Names
  inputs : s.inputs ++ rest ≡ p.inputs
  definitions : s.definitions ≡ p.definitions
  trees : ts ≡ inputs_before rest (last_forms p)
  stands : Stands f p
  runnable : IsRunnable p
  spelled : IsSpelled p

last_told : (k : ℕ) (h : Format) (s : PlainSignature) (t : Plain) (condition : PlainTerm) (ts : Plains) (p : PlainProgram) → Proper h s
    → require_form h s t ≡ Ok condition → after_condition k h s condition ts ≡ Ok p → RestTold h s (more t ts) p
last_told k h s t condition ts p proper required e =
    let f = last_found k h s condition ts p e in
    let g = f.found in
    let l = g.last in
    let r = require_told h s t condition required in
    let o = output_told h s f.output_tree f.output f.output_is in
    let m = main_told h s f.output.1 (known_parameters h s f.output (one l.search_tree)) l.main_tree l.main l.main_is in
    let n = search_told h s f.output l.search_tree l.search l.search_is in
    let a = r.tree in
    let b = o.tree in
    let c = m.tree in
    let d = n.tree in
    subst (RestTold h s (more t ts)) l.whole
    (record {
      rest = [];
      inputs = append-nil s.inputs;
      definitions = refl;
      trees = ap (more t) (f.trees ∙ ap (more f.output_tree) (g.trees ∙ ap (first_before g.first) l.trees))
          ∙ (λ i. more (a i) (more (b i) (first_before g.first (more (c i) (one (d i))))));
      stands = record {
        definitions = proper.definitions_stand;
        inputs = proper.inputs_stand;
        condition = r.stands;
        sort = o.stands;
        main = m.stands;
        search = n.stands;
      };
      runnable = record {
        sound = proper.sound;
        inputs_allowed = names-allowed s.inputs (spelled-allowed s.inputs proper.inputs);
        parameters_allowed = names-allowed l.search.0 (spelled-allowed l.search.0 n.parameters);
        sort_allowed = output_allowed f.output o.spelled;
        spelled = (and_parts (is_name f.output.0) (is_spelled_sort f.output.1) o.spelled).1;
        wanted = g.wanted;
        condition = r.sorted;
        main = ap (λ (ps : Option Names). obey (setting s.definitions f.output.1 ps) s.inputs l.main) (sym n.known) ∙ m.obeys;
        search = n.obeys;
      };
      spelled = record {
        definitions = proper.definitions;
        inputs = proper.inputs;
        condition = r.spelled;
        output = o.spelled;
        wanted = g.wanted;
        main = m.spelled;
        parameters = n.parameters;
        search = n.spelled;
      };
    })
  where
    output_allowed : (n : List ℕ × PlainSort) → is_spelled_name n ≡ true → is_allowed n.1 ≡ true
    output_allowed n h = spelled_allowed n.1 (and_parts (is_name n.0) (is_spelled_sort n.1) h).1

-- one more input
input_more : (k : ℕ) (f : Format) (s : PlainSignature) (t : Plain) (ts : Plains) (p : PlainProgram) (n : List ℕ × PlainSort) → input_form f s t ≡ Ok n → RestTold f (with_input s n) ts p → RestTold f s (more t ts) p
input_more k f s t ts p n is r =
    let a = (input_told f s t n is).tree in
    let b = r.trees in
    record {
      rest = n ∷ r.rest;
      inputs = sym (append_assoc s.inputs (n ∷ []) r.rest) ∙ r.inputs;
      definitions = r.definitions;
      trees = λ i. more (a i) (b i);
      stands = r.stands;
      runnable = r.runnable;
      spelled = r.spelled;
    }

one_more : {A : Type 0} (test : A → Bool) (xs : List A) (x : A) → list_all test xs ≡ true → test x ≡ true → list_all test (xs ++ x ∷ []) ≡ true
one_more test xs x h k = list_all-append test xs (x ∷ []) ∙ and_both (list_all test xs) (test x && true) h (and_both (test x) true k refl)

one_more_stands : {A : Type 0} (f : Format) (has_tags : A → Bool) (xs : List A) (x : A) → may_stand f (list_any has_tags xs) ≡ true → may_stand f (has_tags x) ≡ true
    → may_stand f (list_any has_tags (xs ++ x ∷ [])) ≡ true
one_more_stands f has_tags xs x h k =
    ap (may_stand f) (list_any-append has_tags xs (x ∷ []))
    ∙ stand_both f (list_any has_tags xs) (has_tags x || false) h (stand_both f (has_tags x) false k (none_stands f))
  where
    none_stands : (g : Format) → may_stand g false ≡ true
    none_stands One = refl
    none_stands Two = refl

input_proper : (f : Format) (s : PlainSignature) (t : Plain) (n : List ℕ × PlainSort) → input_form f s t ≡ Ok n → Proper f s → Proper f (with_input s n)
input_proper f s t n is h =
    let told = input_told f s t n is in
    record {
      definitions_stand = h.definitions_stand;
      inputs_stand = one_more_stands f name_has_tags s.inputs n h.inputs_stand told.stands;
      sound = h.sound;
      definitions = h.definitions;
      inputs = one_more is_spelled_name s.inputs n h.inputs told.spelled;
    }

abbrev TellsRest : ℕ → Format → Plains → PlainProgram → Type 0
TellsRest k f ts p = (s : PlainSignature) → after_inputs k f s ts ≡ Ok p → Proper f s → RestTold f s ts p

step_told : (k : ℕ) (f : Format) (s : PlainSignature) (t : Plain) (ts : Plains) (p : PlainProgram) → Proper f s → TellsRest (suc k) f ts p
    → (b : Bool)
    → (if b then (at (suc k) (input_form f s t) >>= λ n. after_inputs (suc k) f (with_input s n) ts) else (at (suc k) (require_form f s t) >>= λ condition. after_condition (suc k) f s condition ts)) ≡ Ok p
    → RestTold f s (more t ts) p
step_told k f s t ts p proper tells true e =
    let a = staged (suc k) (input_form f s t) (λ n. after_inputs (suc k) f (with_input s n) ts) p e in
    input_more k f s t ts p a.0 a.1 (tells (with_input s a.0) a.2 (input_proper f s t a.0 a.1 proper))
step_told k f s t ts p proper tells false e =
    let a = staged (suc k) (require_form f s t) (λ condition. after_condition (suc k) f s condition ts) p e in
    last_told (suc k) f s t a.0 ts p proper a.1 a.2

rest_told : (k : ℕ) (f : Format) (ts : Plains) (p : PlainProgram) → TellsRest k f ts p
rest_told k f none p s e h = absurd (not_refused (suc k) code.Form p e)
rest_told k f (more t ts) p s e h = step_told k f s t ts p h (λ z q j. rest_told (suc k) f ts p z q j) (is_input t) e

-- what the forms after these definitions tell
record AllTold (f : Format) (defs : List PlainDef) (ts : Plains) (p : PlainProgram) : Type 0 where
  rest : List PlainDef
  definitions : defs ++ rest ≡ p.definitions
  trees : ts ≡ definitions_before rest (inputs_before p.inputs (last_forms p))
  stands : Stands f p
  runnable : IsRunnable p
  spelled : IsSpelled p

no_more : (k : ℕ) (f : Format) (defs : List PlainDef) (ts : Plains) (p : PlainProgram) → Proper f (defined defs) → after_inputs k f (defined defs) ts ≡ Ok p → AllTold f defs ts p
no_more k f defs ts p proper e =
    let r = rest_told k f ts p (defined defs) e proper in
    record {
      rest = [];
      definitions = append-nil defs ∙ r.definitions;
      trees = r.trees ∙ ap (λ (ns : Names). inputs_before ns (last_forms p)) r.inputs;
      stands = r.stands;
      runnable = r.runnable;
      spelled = r.spelled;
    }

def_proper : (f : Format) (defs : List PlainDef) (t : Plain) (d : PlainDef) → def_form f defs t ≡ Ok d → Proper f (defined defs) → Proper f (defined (defs ++ d ∷ []))
def_proper f defs t d is h =
    let told = def_told f defs t d is in
    record {
      definitions_stand = one_more_stands f definition_has_tags defs d h.definitions_stand told.stands;
      inputs_stand = h.inputs_stand;
      sound = sound-more defs d h.sound told.sorted;
      definitions = one_more is_spelled_definition defs d h.definitions told.spelled;
      inputs = refl;
    }

def_more : (f : Format) (defs : List PlainDef) (t : Plain) (ts : Plains) (p : PlainProgram) (d : PlainDef) → def_form f defs t ≡ Ok d → AllTold f (defs ++ d ∷ []) ts p → AllTold f defs (more t ts) p
def_more f defs t ts p d is r =
    let a = (def_told f defs t d is).tree in
    let b = r.trees in
    record {
      rest = d ∷ r.rest;
      definitions = sym (append_assoc defs (d ∷ []) r.rest) ∙ r.definitions;
      trees = λ i. more (a i) (b i);
      stands = r.stands;
      runnable = r.runnable;
      spelled = r.spelled;
    }

abbrev TellsAll : ℕ → Format → Plains → PlainProgram → Type 0
TellsAll k f ts p = (defs : List PlainDef) → after_definitions k f defs ts ≡ Ok p → Proper f (defined defs) → AllTold f defs ts p

def_step : (k : ℕ) (f : Format) (defs : List PlainDef) (t : Plain) (ts : Plains) (p : PlainProgram) → Proper f (defined defs) → TellsAll (suc k) f ts p
    → (b : Bool)
    → (if b then (at (suc k) (def_form f defs t) >>= λ d. after_definitions (suc k) f (defs ++ d ∷ []) ts) else after_inputs k f (defined defs) (more t ts)) ≡ Ok p
    → AllTold f defs (more t ts) p
def_step k f defs t ts p proper tells true e =
    let a = staged (suc k) (def_form f defs t) (λ d. after_definitions (suc k) f (defs ++ d ∷ []) ts) p e in
    def_more f defs t ts p a.0 a.1 (tells (defs ++ a.0 ∷ []) a.2 (def_proper f defs t a.0 a.1 proper))
def_step k f defs t ts p proper tells false e = no_more k f defs (more t ts) p proper e

all_told : (k : ℕ) (f : Format) (ts : Plains) (p : PlainProgram) → TellsAll k f ts p
all_told k f none p defs e h = no_more k f defs none p h e
all_told k f (more t ts) p defs e h = def_step k f defs t ts p h (λ ds q j. all_told (suc k) f ts p ds q j) (is_def t) e

pub record ProgramTold (ts : Plains) (p : PlainProgram) : Type 0 where
  pub format : Format
  pub stands : may_stand format (program_has_tags p) ≡ true
  pub trees : ts ≡ spelling_in format p
  pub runnable : IsRunnable p
  pub spelled : is_spelled_program p ≡ true

-- no definitions and no inputs
none_proper : (f : Format) → Proper f (defined [])
none_proper One = record { definitions_stand = refl; inputs_stand = refl; sound = tt; definitions = refl; inputs = refl }
none_proper Two = record { definitions_stand = refl; inputs_stand = refl; sound = tt; definitions = refl; inputs = refl }

pub program_told : (ts : Plains) (p : PlainProgram) → program_from ts ≡ Ok p → ProgramTold ts p
program_told none p e = absurd (not_refused 1 code.Form p e)
program_told (more t ts) p e =
    let a = staged 1 (version_form t) (λ f. after_definitions 1 f [] ts) p e in
    let f : Format = a.0 in
    let r = all_told 1 f ts p [] a.2 (none_proper f) in
    let v = version_told t f a.1 in
    let is = r.trees ∙ ap (λ (ds : List PlainDef). definitions_before ds (inputs_before p.inputs (last_forms p))) r.definitions in
    record { format = f; stands = stands_whole f p r.stands; trees = λ i. more (v i) (is i); runnable = r.runnable; spelled = spelled_whole p r.spelled }
