-- A theory file that is read is spelled by the forms, and keeps the rules.
use Rattle.std.proofs.Common.{◌≡◌, ℕ, suc, ◌+◌, ◌≤◌, Bool, true, false, if◌then◌else◌, List, [], ◌∷◌, ◌++◌, Result, Ok, refl, sym, ap, ◌∙◌, subst, arith, append_assoc, append-nil}
use Rattle.std.specs.Prelude.{nat_le, length, codes}
use Rattle.std.specs.List.{list_all}
use Rattle.std.proofs.lemmas.List.{map-append}
use Rattle.kid_sexp.specs.Plain.{Plain, Plains, atom, none, more, one, forest_len}
use Rattle.kid_sexp.specs.Brackets.{Fault}
use Rattle.kid_sexp.specs.Reading.{reading}
use Rattle.kid_sexp.specs.Spells.{Spells}
use Rattle.kid_sexp.proofs.Spelled.{reading-spelled}
use Rattle.kid_value.specs.PlainSort.{PlainSort, bools}
use Rattle.kid_value.specs.SortLimits.{is_allowed}
use Rattle.kid_value.proofs.SortLemmas.{and_both}
use Rattle.kid_term.specs.Names.{Names, PlainDef}
use Rattle.kid_term.specs.PlainSpec.{is_wanted}
use Rattle.kid_term.specs.PlainTerm.{PlainTerm}
use Rattle.kid_term.specs.Sorting.{sort_of}
use Rattle.kid_sorting.specs.Declaring.{are_allowed, is_truth}
use Rattle.kid_codec.specs.DeclaredSpelling.{named_spelling, definitions_before, inputs_before, is_spelled_name, is_spelled_definition}
use Rattle.kid_codec.specs.Name.{is_name}
use Rattle.kid_codec.specs.SortSpelling.{headed}
use Rattle.kid_codec.specs.TermSpelling.{term_spelling, is_spelled_term}
use Rattle.kid_kernel.specs.Differ.{words_of}
use Rattle.kid_term.specs.PlainLaw.{PlainLaw}
use Rattle.kid_kernel.specs.SortedLaw.{is_sorted_law}
use Rattle.kid_kernel.specs.Wordless.{is_wordless, is_wordless_definition, is_wordless_law}
use Rattle.kid_term.specs.PlainTheory.{PlainTheory}
use Rattle.kid_theory.specs.Before.{theory_before, with_claim as with_law, is_shown, are_shown}
use Rattle.kid_theory.specs.Claims.{PlainClaim, law_of, claimed}
use Rattle.kid_theory.specs.Formed.{is_spelled_claim, is_formed_definition, are_formed_definitions, are_named_before, IsFormed, IsFileOf}
use Rattle.kid_theory.specs.Forms.{begins, title_form, definition_form, input_form, output_form, condition_form, is_named_law, is_claim, claim_form}
use Rattle.kid_theory.specs.Judged.{Judged}
use Rattle.kid_theory.specs.Known.{names_of}
use Rattle.kid_theory.specs.PlainFile.{PlainFile, output_of, relation_names}
use Rattle.kid_theory.specs.Reading.{Read, ◌>>=◌, refused, at, Front, with_claim, file_with, front_of, after_relation, after_output, after_condition, after_inputs, after_definitions, file_from, from_forest, file_reading}
use Rattle.kid_theory.specs.Spelling.{claims_before, last_forms, later_forms, from_inputs, file_spelling}
use Rattle.kid_theory.specs.Taken.{Taken, is_free, are_free}
use Rattle.kid_theory.specs.declared.fault.TheoryCode.TheVariants as code
use Rattle.kid_theory.proofs.ClaimTold.{claim_told}
use Rattle.kid_theory.proofs.FormKept.{condition_kept, definition_kept}
use Rattle.kid_theory.proofs.FirstTold.{wanted_told}
use Rattle.kid_theory.proofs.FormTold.{NameTold, title_told, condition_told, output_told, input_told, definition_form_told}
use Rattle.kid_theory.proofs.Stages.{not_refused, staged, at_most, within, read_forest}
use Rattle.kid_theory.proofs.TakenLemmas.{few_more}

one_more : (k : ℕ) (u : Plain) (us : Plains) → suc k + forest_len us ≤ 1024 → k + forest_len (more u us) ≤ 1024
one_more k u us few = omega arith

joined : {X : Type 0} (before : List X) (x : X) (rest all : List X) → (before ++ x ∷ []) ++ rest ≡ all → before ++ (x ∷ rest) ≡ all
joined before x rest all p = sym (append_assoc before (x ∷ []) rest) ∙ p

-- ---- the forms after the condition

-- the output, the relation and how many answers are wanted
record LastKept (t : PlainFile) : Type 0 where
  output_spelled : is_spelled_name (output_of t) ≡ true
  sort_allowed : is_allowed t.sort ≡ true
  relation_spelled : is_spelled_term t.relation ≡ true
  relation_wordless : is_wordless t.relation ≡ true
  relation_sorted : is_truth (sort_of t.definitions (relation_names t) t.relation) ≡ true
  wanted : is_wanted t.first ≡ true

-- laws and axioms that are still to come, over the theory before them
record LawsKept (before : PlainTheory) (cs : List PlainClaim) : Type 0 where
  spelled : list_all is_spelled_claim cs ≡ true
  wordless : list_all is_wordless_law (claimed cs) ≡ true
  sorted : list_all (is_sorted_law before.signature.definitions before.signature.inputs) (claimed cs) ≡ true
  shown : are_shown before cs ≡ true

-- what is still to come is spelled by these forms and keeps the rules, and the forms are not too many
record ClaimsKept (k : ℕ) (f : Front) (ts : Plains) (t : PlainFile) : Type 0 where
  few : k + forest_len ts ≤ 1024
  rest : List PlainClaim
  all : f.claims ++ rest ≡ t.claims
  title : f.title ≡ t.title
  definitions : f.theory.signature.definitions ≡ t.definitions
  inputs : f.theory.signature.inputs ≡ t.inputs
  condition : f.theory.spec.condition ≡ t.condition
  trees : ts ≡ claims_before rest (last_forms t)
  named : are_named_before f.taken f.variables (claimed rest) t.output ≡ true
  laws : LawsKept f.theory rest
  last : LastKept t

output_kept : (k : ℕ) (f : Front) (output : List ℕ × PlainSort) (v : Plain) (ts : Plains) (t : PlainFile) → NameTold (f.taken ++ f.variables) output
    → v ≡ headed (codes "output") (named_spelling output) → after_output (suc k) f output ts ≡ Ok t → ClaimsKept k f (more v ts) t
output_kept k f output v none t told is e = absurd (not_refused (suc (suc k)) code.Form t e)
output_kept k f output v (more u us) t told is e =
    let defs : List PlainDef = f.theory.signature.definitions in
    let names : Names = f.theory.signature.inputs ++ output ∷ [] in
    let stage : PlainTerm → Read PlainFile = λ relation. after_relation (suc (suc k)) (file_with f output relation) us in
    let form : Judged PlainTerm = condition_form (codes "ensure") defs names u in
    let a = staged (suc (suc k)) form stage t e in
    let relation : PlainTerm = a.0 in
    let c = condition_told (codes "ensure") defs names u relation a.1 in
    let number = within (suc (suc k)) form stage t e in
    let last = wanted_told (suc (suc k)) f output relation t us number a.2 in
    let tree = c.2 in
    let trees = last.trees in
    subst (ClaimsKept k f (more v (more u us))) last.whole
    (record {
      few = one_more k v (more u us) (one_more (suc k) u us last.few);
      rest = [];
      all = append-nil f.claims;
      title = refl;
      definitions = refl;
      inputs = refl;
      condition = refl;
      trees = λ i. more (is i) (more (tree i) (trees i));
      named = told.free;
      laws = record { spelled = refl; wordless = refl; sorted = refl; shown = refl };
      last = record {
        output_spelled = told.spelled;
        sort_allowed = told.allowed;
        relation_spelled = c.1;
        relation_wordless = condition_kept (codes "ensure") defs names u relation a.1;
        relation_sorted = ap is_truth c.0;
        wanted = last.wanted;
      };
    })

abbrev ConditionKept : ℕ → Plains → PlainFile → Type 0
ConditionKept k ts t = (f : Front) → after_condition k f ts ≡ Ok t → ClaimsKept k f ts t

claim_before : (k : ℕ) (f : Front) (c : PlainClaim) (u : Plain) (us : Plains) (t : PlainFile) → ClaimsKept (suc k) (with_claim f c) us t
    → claim_form f.theory f.taken f.variables u ≡ Ok c → ClaimsKept k f (more u us) t
claim_before k f c u us t after form =
    let told = claim_told f.theory f.taken f.variables u c form in
    let l : PlainLaw = law_of c in
    let tree = told.tree in
    let trees = after.trees in
    let is_sorted : PlainLaw → Bool = is_sorted_law f.theory.signature.definitions f.theory.signature.inputs in
    record {
      few = one_more k u us after.few;
      rest = c ∷ after.rest;
      all = joined f.claims c after.rest t.claims after.all;
      title = after.title;
      definitions = after.definitions;
      inputs = after.inputs;
      condition = after.condition;
      trees = λ i. more (tree i) (trees i);
      named = and_both (is_named_law f.taken f.variables l) (are_named_before (f.taken ++ l.name ∷ []) (f.variables ++ words_of l.variables) (claimed after.rest) t.output) told.named after.named;
      laws = record {
        spelled = and_both (is_spelled_claim c) (list_all is_spelled_claim after.rest) told.spelled after.laws.spelled;
        wordless = and_both (is_wordless_law l) (list_all is_wordless_law (claimed after.rest)) told.wordless after.laws.wordless;
        sorted = and_both (is_sorted l) (list_all is_sorted (claimed after.rest)) told.sorted after.laws.sorted;
        shown = and_both (is_shown f.theory c) (are_shown (with_law f.theory c) after.rest) told.shown after.laws.shown;
      };
      last = after.last;
    }

claim_read : (k : ℕ) (f : Front) (u : Plain) (us : Plains) (t : PlainFile) → ConditionKept (suc k) us t
    → (b : Bool)
    → (if b
    then (at (suc k) (claim_form f.theory f.taken f.variables u) >>= λ c. after_condition (suc k) (with_claim f c) us)
    else (at (suc k) (output_form (f.taken ++ f.variables) u) >>= λ output. after_output (suc k) f output us)) ≡ Ok t
    → ClaimsKept k f (more u us) t
claim_read k f u us t kept true e =
    let a = staged (suc k) (claim_form f.theory f.taken f.variables u) (λ c. after_condition (suc k) (with_claim f c) us) t e in
    claim_before k f a.0 u us t (kept (with_claim f a.0) a.2) a.1
claim_read k f u us t kept false e =
    let a = staged (suc k) (output_form (f.taken ++ f.variables) u) (λ output. after_output (suc k) f output us) t e in
    let told = output_told (f.taken ++ f.variables) u a.0 a.1 in
    output_kept k f a.0 u us t told.0 told.1 a.2

condition_read : (k : ℕ) (ts : Plains) (t : PlainFile) → ConditionKept k ts t
condition_read k none t f e = absurd (not_refused (suc k) code.Form t e)
condition_read k (more u us) t f e = claim_read k f u us t (λ g p. condition_read (suc k) us t g p) (is_claim u) e

-- ---- the inputs

-- what comes after the inputs, where these names are taken
record LaterKept (taken : Taken) (t : PlainFile) : Type 0 where
  named : are_named_before taken [] (claimed t.claims) t.output ≡ true
  spelled : is_spelled_term t.condition ≡ true
  wordless : is_wordless t.condition ≡ true
  sorted : is_truth (sort_of t.definitions t.inputs t.condition) ≡ true
  laws : LawsKept (theory_before t.definitions t.inputs t.condition) t.claims
  last : LastKept t

-- inputs that are still to come, and what comes after them
record NamesKept (taken : Taken) (rest : Names) (t : PlainFile) : Type 0 where
  spelled : list_all is_spelled_name rest ≡ true
  free : are_free taken rest ≡ true
  allowed : are_allowed rest ≡ true
  later : LaterKept (taken ++ words_of rest) t

record InputsKept (k : ℕ) (title : List ℕ) (defs : List PlainDef) (inputs : Names) (taken : Taken) (ts : Plains) (t : PlainFile) : Type 0 where
  few : k + forest_len ts ≤ 1024
  rest : Names
  all : inputs ++ rest ≡ t.inputs
  room : length t.inputs ≤ 16
  title_is : title ≡ t.title
  definitions : defs ≡ t.definitions
  trees : ts ≡ inputs_before rest (later_forms t)
  names : NamesKept taken rest t

require_later : (title : List ℕ) (defs : List PlainDef) (inputs : Names) (taken : Taken) (c : PlainTerm) (k : ℕ) (us : Plains) (t : PlainFile)
    → ClaimsKept k (front_of title defs inputs taken c) us t → sort_of defs inputs c ≡ Ok bools → is_spelled_term c ≡ true → is_wordless c ≡ true → LaterKept taken t
require_later title defs inputs taken c k us t after sorted spelled wordless =
    let ds = after.definitions in
    let ns = after.inputs in
    let condition = after.condition in
    let is : after.rest ≡ t.claims = after.all in
    record {
      named = subst (λ (cs : List PlainClaim). are_named_before taken [] (claimed cs) t.output ≡ true) is after.named;
      spelled = subst (λ (b : PlainTerm). is_spelled_term b ≡ true) condition spelled;
      wordless = subst (λ (b : PlainTerm). is_wordless b ≡ true) condition wordless;
      sorted = sym (λ i. is_truth (sort_of (ds i) (ns i) (condition i))) ∙ ap is_truth sorted;
      laws = subst (LawsKept (theory_before t.definitions t.inputs t.condition)) is (subst (λ (before : PlainTheory). LawsKept before after.rest) (λ i. theory_before (ds i) (ns i) (condition i)) after.laws);
      last = after.last;
    }

require_before : (k : ℕ) (title : List ℕ) (defs : List PlainDef) (inputs : Names) (taken : Taken) (c : PlainTerm) (u : Plain) (us : Plains) (t : PlainFile) → length inputs ≤ 16
    → ClaimsKept (suc k) (front_of title defs inputs taken c) us t → condition_form (codes "require") defs inputs u ≡ Ok c → InputsKept k title defs inputs taken (more u us) t
require_before k title defs inputs taken c u us t room after form =
    let told = condition_told (codes "require") defs inputs u c form in
    let tree = told.2 ∙ ap (λ (b : PlainTerm). headed (codes "require") (one (term_spelling b))) after.condition in
    let trees = after.trees ∙ ap (λ (cs : List PlainClaim). claims_before cs (last_forms t)) after.all in
    record {
      few = one_more k u us after.few;
      rest = [];
      all = append-nil inputs ∙ after.inputs;
      room = subst (λ (ns : Names). length ns ≤ 16) after.inputs room;
      title_is = after.title;
      definitions = after.definitions;
      trees = λ i. more (tree i) (trees i);
      names = record {
        spelled = refl;
        free = refl;
        allowed = refl;
        later = subst (λ (names : Taken). LaterKept names t) (sym (append-nil taken))
            (require_later title defs inputs taken c (suc k) us t after told.0 told.1 (condition_kept (codes "require") defs inputs u c form));
      };
    }

input_before : (k : ℕ) (title : List ℕ) (defs : List PlainDef) (inputs : Names) (taken : Taken) (n : List ℕ × PlainSort) (u : Plain) (us : Plains) (t : PlainFile)
    → InputsKept (suc k) title defs (inputs ++ n ∷ []) (taken ++ n.0 ∷ []) us t → NameTold taken n → u ≡ headed (codes "input") (named_spelling n)
    → InputsKept k title defs inputs taken (more u us) t
input_before k title defs inputs taken n u us t after told is =
    let trees = after.trees in
    let names = after.names in
    record {
      few = one_more k u us after.few;
      rest = n ∷ after.rest;
      all = joined inputs n after.rest t.inputs after.all;
      room = after.room;
      title_is = after.title_is;
      definitions = after.definitions;
      trees = λ i. more (is i) (trees i);
      names = record {
        spelled = and_both (is_spelled_name n) (list_all is_spelled_name after.rest) told.spelled names.spelled;
        free = and_both (is_free taken n.0) (are_free (taken ++ n.0 ∷ []) after.rest) told.free names.free;
        allowed = and_both (is_allowed n.1) (are_allowed after.rest) told.allowed names.allowed;
        later = subst (λ (words : Taken). LaterKept words t) (append_assoc taken (n.0 ∷ []) (words_of after.rest)) names.later;
      };
    }

abbrev InputsAre : ℕ → List ℕ → List PlainDef → Plains → PlainFile → Type 0
InputsAre k title defs ts t = (inputs : Names) (taken : Taken) → length inputs ≤ 16 → after_inputs k title defs inputs taken ts ≡ Ok t → InputsKept k title defs inputs taken ts t

input_read : (k : ℕ) (title : List ℕ) (defs : List PlainDef) (inputs : Names) (taken : Taken) (u : Plain) (us : Plains) (t : PlainFile) → length inputs ≤ 16 → InputsAre (suc k) title defs us t
    → (b : Bool)
    → (if b
    then (at (suc k) (input_form inputs taken u) >>= λ n. after_inputs (suc k) title defs (inputs ++ n ∷ []) (taken ++ n.0 ∷ []) us)
    else (at (suc k) (condition_form (codes "require") defs inputs u) >>= λ condition. after_condition (suc k) (front_of title defs inputs taken condition) us)) ≡ Ok t
    → InputsKept k title defs inputs taken (more u us) t
input_read k title defs inputs taken u us t room kept true e =
    let a = staged (suc k) (input_form inputs taken u) (λ n. after_inputs (suc k) title defs (inputs ++ n ∷ []) (taken ++ n.0 ∷ []) us) t e in
    let n : List ℕ × PlainSort = a.0 in
    let told = input_told inputs taken u n a.1 in
    input_before k title defs inputs taken n u us t (kept (inputs ++ n ∷ []) (taken ++ n.0 ∷ []) (few_more inputs n told.0) a.2) told.1 told.2
input_read k title defs inputs taken u us t room kept false e =
    let a = staged (suc k) (condition_form (codes "require") defs inputs u) (λ condition. after_condition (suc k) (front_of title defs inputs taken condition) us) t e in
    require_before k title defs inputs taken a.0 u us t room (condition_read (suc k) us t (front_of title defs inputs taken a.0) a.2) a.1

inputs_read : (k : ℕ) (title : List ℕ) (defs : List PlainDef) (ts : Plains) (t : PlainFile) → InputsAre k title defs ts t
inputs_read k title defs none t inputs taken room e = absurd (not_refused (suc k) code.Form t e)
inputs_read k title defs (more u us) t inputs taken room e =
    input_read k title defs inputs taken u us t room (λ ns names r p. inputs_read (suc k) title defs us t ns names r p) (begins (codes "input") u) e

-- ---- the definitions

-- definitions that are still to come after these, and the inputs and what comes after them
record DefinitionsKept (k : ℕ) (title : List ℕ) (defs : List PlainDef) (ts : Plains) (t : PlainFile) : Type 0 where
  few : k + forest_len ts ≤ 1024
  rest : List PlainDef
  all : defs ++ rest ≡ t.definitions
  title_is : title ≡ t.title
  trees : ts ≡ definitions_before rest (from_inputs t)
  spelled : list_all is_spelled_definition rest ≡ true
  wordless : list_all is_wordless_definition rest ≡ true
  formed : are_formed_definitions defs rest (from_inputs t) ≡ true
  room : length t.inputs ≤ 16
  names : NamesKept (names_of t.definitions) t.inputs t

inputs_after : (k : ℕ) (title : List ℕ) (defs : List PlainDef) (ts : Plains) (t : PlainFile) → InputsKept k title defs [] (names_of defs) ts t → DefinitionsKept k title defs ts t
inputs_after k title defs ts t kept =
    let is : kept.rest ≡ t.inputs = kept.all in
    record {
      few = kept.few;
      rest = [];
      all = append-nil defs ∙ kept.definitions;
      title_is = kept.title_is;
      trees = kept.trees ∙ ap (λ (ns : Names). inputs_before ns (later_forms t)) is;
      spelled = refl;
      wordless = refl;
      formed = refl;
      room = kept.room;
      names = subst (λ (ds : List PlainDef). NamesKept (names_of ds) t.inputs t) kept.definitions (subst (λ (ns : Names). NamesKept (names_of defs) ns t) is kept.names);
    }

definition_before : (k : ℕ) (title : List ℕ) (defs : List PlainDef) (d : PlainDef) (u : Plain) (us : Plains) (t : PlainFile) → DefinitionsKept (suc k) title (defs ++ d ∷ []) us t
    → definition_form defs (names_of defs) us u ≡ Ok d → DefinitionsKept k title defs (more u us) t
definition_before k title defs d u us t after form =
    let told = definition_form_told defs (names_of defs) us u d form in
    let kept = definition_kept defs us u d form in
    let tree = told.2 in
    let trees = after.trees in
    let formed_before = ap (λ (ts : Plains). is_formed_definition defs ts d) (sym trees) ∙ kept.0 in
    record {
      few = one_more k u us after.few;
      rest = d ∷ after.rest;
      all = joined defs d after.rest t.definitions after.all;
      title_is = after.title_is;
      trees = λ i. more (tree i) (trees i);
      spelled = and_both (is_spelled_definition d) (list_all is_spelled_definition after.rest) told.1 after.spelled;
      wordless = and_both (is_wordless_definition d) (list_all is_wordless_definition after.rest) kept.1 after.wordless;
      formed = and_both (is_formed_definition defs (definitions_before after.rest (from_inputs t)) d) (are_formed_definitions (defs ++ d ∷ []) after.rest (from_inputs t)) formed_before after.formed;
      room = after.room;
      names = after.names;
    }

abbrev DefinitionsAre : ℕ → List ℕ → Plains → PlainFile → Type 0
DefinitionsAre k title ts t = (defs : List PlainDef) (taken : Taken) → taken ≡ names_of defs → after_definitions k title defs taken ts ≡ Ok t → DefinitionsKept k title defs ts t

names_more : (defs : List PlainDef) (taken : Taken) (d : PlainDef) → taken ≡ names_of defs → taken ++ d.name ∷ [] ≡ names_of (defs ++ d ∷ [])
names_more defs taken d is = ap (λ (names : Taken). names ++ d.name ∷ []) is ∙ sym (map-append (λ (e : PlainDef). e.name) defs (d ∷ []))

definition_read : (k : ℕ) (title : List ℕ) (defs : List PlainDef) (taken : Taken) (u : Plain) (us : Plains) (t : PlainFile) → taken ≡ names_of defs → DefinitionsAre (suc k) title us t
    → (b : Bool)
    → (if b
    then (at (suc k) (definition_form defs taken us u) >>= λ d. after_definitions (suc k) title (defs ++ d ∷ []) (taken ++ d.name ∷ []) us)
    else after_inputs k title defs [] taken (more u us)) ≡ Ok t
    → DefinitionsKept k title defs (more u us) t
definition_read k title defs taken u us t named kept true e =
    let a = staged (suc k) (definition_form defs taken us u) (λ d. after_definitions (suc k) title (defs ++ d ∷ []) (taken ++ d.name ∷ []) us) t e in
    let d : PlainDef = a.0 in
    let form : definition_form defs (names_of defs) us u ≡ Ok d = ap (λ (names : Taken). definition_form defs names us u) (sym named) ∙ a.1 in
    definition_before k title defs d u us t (kept (defs ++ d ∷ []) (taken ++ d.name ∷ []) (names_more defs taken d named) a.2) form
definition_read k title defs taken u us t named kept false e =
    inputs_after k title defs (more u us) t
    (subst (λ (names : Taken). InputsKept k title defs [] names (more u us) t) named (inputs_read k title defs (more u us) t [] taken (omega arith) e))

definitions_read : (k : ℕ) (title : List ℕ) (ts : Plains) (t : PlainFile) → DefinitionsAre k title ts t
definitions_read k title none t defs taken named e = absurd (not_refused (suc k) code.Form t e)
definitions_read k title (more u us) t defs taken named e =
    definition_read k title defs taken u us t named (λ ds names is p. definitions_read (suc k) title us t ds names is p) (begins (codes "def") u) e

-- ---- the whole

-- the trees are the forms of the file
record FormsKept (ts : Plains) (t : PlainFile) : Type 0 where
  trees : ts ≡ file_spelling t
  formed : IsFormed t

forms_formed : (u : Plain) (us : Plains) (title : List ℕ) (t : PlainFile) → title_form u ≡ Ok title → DefinitionsKept 1 title [] us t → FormsKept (more u us) t
forms_formed u us title t form kept =
    let told = title_told u title form in
    let is = kept.title_is in
    let tree = told.1 ∙ ap (λ (w : List ℕ). headed (codes "theory") (one (atom w))) is in
    let rest = kept.trees ∙ ap (λ (ds : List PlainDef). definitions_before ds (from_inputs t)) kept.all in
    let trees : more u us ≡ file_spelling t = λ i. more (tree i) (rest i) in
    let names = kept.names in
    let later = names.later in
    record {
      trees = trees;
      formed = record {
        named = subst (λ (w : List ℕ). is_name w ≡ true) is told.0;
        few_forms = subst (λ (ts : Plains). forest_len ts ≤ 1024) trees kept.few;
        definitions_spelled = subst (λ (ds : List PlainDef). list_all is_spelled_definition ds ≡ true) kept.all kept.spelled;
        definitions_wordless = subst (λ (ds : List PlainDef). list_all is_wordless_definition ds ≡ true) kept.all kept.wordless;
        definitions_formed = subst (λ (ds : List PlainDef). are_formed_definitions [] ds (from_inputs t) ≡ true) kept.all kept.formed;
        few_inputs = kept.room;
        inputs_spelled = names.spelled;
        inputs_free = names.free;
        inputs_allowed = names.allowed;
        condition_spelled = later.spelled;
        condition_wordless = later.wordless;
        condition_sorted = later.sorted;
        claims_spelled = later.laws.spelled;
        laws_wordless = later.laws.wordless;
        laws_sorted = later.laws.sorted;
        laws_named = later.named;
        laws_shown = later.laws.shown;
        output_spelled = later.last.output_spelled;
        sort_allowed = later.last.sort_allowed;
        relation_spelled = later.last.relation_spelled;
        relation_wordless = later.last.relation_wordless;
        relation_sorted = later.last.relation_sorted;
        wanted = later.last.wanted;
      };
    }

forms_kept : (ts : Plains) (t : PlainFile) → file_from ts ≡ Ok t → FormsKept ts t
forms_kept none t e = absurd (not_refused 1 code.Form t e)
forms_kept (more u us) t e =
    let a = staged 1 (title_form u) (λ title. after_definitions 1 title [] [] us) t e in
    forms_formed u us a.0 t a.1 (definitions_read 1 a.0 us t [] [] refl a.2)

few_by : (b : Bool) (r : Result Plains Fault) (t : PlainFile) → (if b then from_forest r else refused 0 code.Large) ≡ Ok t → b ≡ true
few_by true r t e = refl
few_by false r t e = cc

pub read_kept : (bytes : List ℕ) (t : PlainFile) → file_reading bytes ≡ Ok t → IsFileOf bytes t
read_kept bytes t e =
    let f = read_forest bytes t e in
    let kept = forms_kept f.0 t f.2 in
    record {
      few = at_most (length bytes) 4194304 (few_by (nat_le (length bytes) 4194304) (reading bytes) t e);
      formed = kept.formed;
      spells = subst (Spells bytes) kept.trees (reading-spelled bytes f.0 f.1);
    }
