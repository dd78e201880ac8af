-- Bytes that spell a theory file which keeps the rules are read as that file.
use Rattle.std.proofs.Common.{◌≡◌, ℕ, suc, ◌+◌, ◌≤◌, Bool, true, List, [], ◌∷◌, ◌++◌, length, Option, Some, None, Ok, refl, sym, ap, ◌∙◌, subst, arith, append_assoc, append-nil}
use Rattle.std.specs.Prelude.{nat_le, nat_lt, if◌then◌else◌, codes}
use Rattle.std.specs.List.{list_all}
use Rattle.std.proofs.lemmas.Bool.Decides.{nat_tests}
use Rattle.std.proofs.lemmas.List.{length-append, map-append}
use Rattle.kid_sexp.specs.Plain.{Plain, Plains, atom, none, more, one, forest_len}
use Rattle.kid_sexp.specs.Reading.{reading}
use Rattle.kid_sexp.proofs.Spelled.{spelled-reading}
use Rattle.kid_value.specs.PlainSort.{PlainSort}
use Rattle.kid_value.specs.SortLimits.{is_allowed}
use Rattle.kid_value.proofs.SortLemmas.{and_parts}
use Rattle.kid_term.specs.Names.{Names, PlainDef}
use Rattle.kid_term.specs.PlainSpec.{is_wanted}
use Rattle.kid_term.specs.PlainTerm.{PlainTerm}
use Rattle.kid_sorting.specs.Declaring.{are_allowed}
use Rattle.kid_codec.specs.DeclaredSpelling.{named_spelling, definition_spelling, definitions_before, inputs_before, is_spelled_name, is_spelled_definition}
use Rattle.kid_codec.specs.SortSpelling.{headed}
use Rattle.kid_codec.specs.TermSpelling.{term_spelling}
use Rattle.kid_term.specs.PlainLaw.{PlainLaw}
use Rattle.kid_kernel.specs.Differ.{words_of}
use Rattle.kid_kernel.specs.SortedLaw.{is_sorted_law}
use Rattle.kid_kernel.specs.Wordless.{is_wordless_definition, is_wordless_law}
use Rattle.kid_term.specs.PlainTheory.{PlainTheory}
use Rattle.kid_theory.specs.Before.{theory_before, laws_with, axioms_with, with_claim as with_law, is_shown, are_shown}
use Rattle.kid_theory.specs.Claims.{PlainClaim, assumed, proved, law_of, claimed}
use Rattle.kid_theory.specs.Formed.{is_formed_definition, are_formed_definitions, are_named_before, names_before_laws, IsFormed, IsFileOf, is_spelled_claim}
use Rattle.kid_theory.specs.Forms.{title_form, definition_form, input_form, output_form, condition_form, first_form, is_named_law, is_claim, claim_form}
use Rattle.kid_theory.specs.Judged.{Judged}
use Rattle.kid_theory.specs.Known.{names_of}
use Rattle.kid_theory.specs.PlainFile.{PlainFile, output_of, relation_names}
use Rattle.kid_theory.specs.Reading.{Read, ◌>>=◌, refused, numbered, at, Front, with_claim, file_with, at_end, with_first, after_relation, after_output, after_condition, after_inputs, after_definitions, file_from, from_forest, front_of, file_reading}
use Rattle.kid_theory.specs.Spelling.{claim_spelling, claims_before, first_spelling, first_before, last_forms, later_forms, from_inputs, file_spelling}
use Rattle.kid_theory.specs.Taken.{Taken, is_free, are_free}
use Rattle.kid_theory.specs.declared.fault.TheoryCode.TheVariants as code
use Rattle.kid_theory.proofs.FirstTold.{wanting}
use Rattle.kid_theory.proofs.FormBack.{title_passed, condition_passed, first_passed, output_passed, input_passed, definition_passed, claim_passed}

is_at_most : (n limit : ℕ) → n ≤ limit → nat_le n limit ≡ true
is_at_most n limit h = grind (arith, nat_tests)

is_below : (n limit : ℕ) → n + 1 ≤ limit → nat_lt n limit ≡ true
is_below n limit h = grind (arith, nat_tests)

-- where a form holds this, and the later ones are read
passed : {A B : Type 0} (k : ℕ) (r : Judged A) (f : A → Read B) (x : A) (y : B) → k ≤ 1024 → r ≡ Ok x → f x ≡ Ok y → (at k r >>= f) ≡ Ok y
passed {A = A} k r f x y few is later =
    ap (λ (b : Bool). (if b then numbered k r else refused k code.Limit) >>= f) (is_at_most k 1024 few)
    ∙ ap (λ (s : Judged A). numbered k s >>= f) is ∙ later

-- a stage reads these forms after so many others that they are not too many
abbrev Reads : (ℕ → Plains → Read PlainFile) → Plains → PlainFile → Type 0
Reads stage ts t = (k : ℕ) → k + forest_len ts ≤ 1024 → stage k ts ≡ Ok t

further : (k : ℕ) (u : Plain) (us : Plains) → k + forest_len (more u us) ≤ 1024 → (suc k ≤ 1024) × (suc k + forest_len us ≤ 1024)
further k u us few = (omega arith, omega arith)

-- ---- definitions

names_more : (before : List PlainDef) (d : PlainDef) → names_of (before ++ d ∷ []) ≡ names_of before ++ d.name ∷ []
names_more before d = map-append (λ (e : PlainDef). e.name) before (d ∷ [])

abbrev DefinitionsRead : List PlainDef → Plains → PlainFile → Type 0
DefinitionsRead defs ts t = Reads (λ k us. after_definitions k t.title defs (names_of defs) us) ts t

definitions_read : (before rest : List PlainDef) (later : Plains) (t : PlainFile) → list_all is_spelled_definition rest ≡ true → list_all is_wordless_definition rest ≡ true
    → are_formed_definitions before rest later ≡ true → DefinitionsRead (before ++ rest) later t → DefinitionsRead before (definitions_before rest later) t
definitions_read before [] later t spelled wordless formed reads = subst (λ (ds : List PlainDef). DefinitionsRead ds later t) (append-nil before) reads
definitions_read before (d ∷ ds) later t spelled wordless formed reads = λ k few.
    let s = and_parts (is_spelled_definition d) (list_all is_spelled_definition ds) spelled in
    let w = and_parts (is_wordless_definition d) (list_all is_wordless_definition ds) wordless in
    let f = and_parts (is_formed_definition before (definitions_before ds later) d) (are_formed_definitions (before ++ d ∷ []) ds later) formed in
    let whole = subst (λ (all : List PlainDef). DefinitionsRead all later t) (sym (append_assoc before (d ∷ []) ds)) reads in
    let us : Plains = definitions_before ds later in
    let few_further = further k (definition_spelling d) us few in
    let after = definitions_read (before ++ d ∷ []) ds later t s.1 w.1 f.1 whole (suc k) few_further.1 in
    passed (suc k) (definition_form before (names_of before) us (definition_spelling d)) (λ e. after_definitions (suc k) t.title (before ++ e ∷ []) (names_of before ++ e.name ∷ []) us) d t
    few_further.0 (definition_passed before us d s.0 w.0 f.0)
    (ap (λ (taken : Taken). after_definitions (suc k) t.title (before ++ d ∷ []) taken us) (sym (names_more before d)) ∙ after)

-- ---- inputs

abbrev InputsRead : List PlainDef → Names → Taken → Plains → PlainFile → Type 0
InputsRead defs inputs taken ts t = Reads (λ k us. after_inputs k t.title defs inputs taken us) ts t

room_further : (inputs : Names) (n : List ℕ × PlainSort) (ns : Names) → length inputs + length (n ∷ ns) ≤ 16 → (length inputs + 1 ≤ 16) × (length (inputs ++ n ∷ []) + length ns ≤ 16)
room_further inputs n ns room =
    let l = length-append inputs (n ∷ []) in
    (omega arith, omega (arith, l))

inputs_read : (defs : List PlainDef) (inputs : Names) (taken : Taken) (rest : Names) (later : Plains) (t : PlainFile) → list_all is_spelled_name rest ≡ true
    → length inputs + length rest ≤ 16 → are_free taken rest ≡ true → are_allowed rest ≡ true
    → InputsRead defs (inputs ++ rest) (taken ++ words_of rest) later t → InputsRead defs inputs taken (inputs_before rest later) t
inputs_read defs inputs taken [] later t spelled room free allowed reads =
    subst (λ (names : Taken). InputsRead defs inputs names later t) (append-nil taken)
    (subst (λ (ns : Names). InputsRead defs ns (taken ++ []) later t) (append-nil inputs) reads)
inputs_read defs inputs taken (n ∷ ns) later t spelled room free allowed reads = λ k few.
    let s = and_parts (is_spelled_name n) (list_all is_spelled_name ns) spelled in
    let f = and_parts (is_free taken n.0) (are_free (taken ++ n.0 ∷ []) ns) free in
    let a = and_parts (is_allowed n.1) (are_allowed ns) allowed in
    let whole =
    subst (λ (names : Taken). InputsRead defs ((inputs ++ n ∷ []) ++ ns) names later t) (sym (append_assoc taken (n.0 ∷ []) (words_of ns)))
    (subst (λ (all : Names). InputsRead defs all (taken ++ n.0 ∷ words_of ns) later t) (sym (append_assoc inputs (n ∷ []) ns)) reads) in
    let places = room_further inputs n ns room in
    let us : Plains = inputs_before ns later in
    let few_further = further k (headed (codes "input") (named_spelling n)) us few in
    passed (suc k) (input_form inputs taken (headed (codes "input") (named_spelling n))) (λ m. after_inputs (suc k) t.title defs (inputs ++ m ∷ []) (taken ++ m.0 ∷ []) us) n t
    few_further.0 (input_passed inputs taken n (is_below (length inputs) 16 places.0) s.0 f.0 a.0)
    (inputs_read defs (inputs ++ n ∷ []) (taken ++ n.0 ∷ []) ns later t s.1 places.1 f.1 a.1 whole (suc k) few_further.1)

-- ---- the forms after the inputs

-- the theory of the forms before, with these laws and axioms
abbrev so_far : PlainFile → List PlainLaw → List PlainLaw → PlainTheory
so_far t laws axioms = record (theory_before t.definitions t.inputs t.condition) { laws = laws; axioms = axioms }

-- the forms of the file up to some claims
abbrev front : PlainFile → List PlainLaw → List PlainLaw → List PlainClaim → Taken → Taken → Front
front t laws axioms claims taken variables = record {
  title = t.title;
  theory = so_far t laws axioms;
  claims = claims;
  taken = taken;
  variables = variables;
}

-- what a file's parts give is the file
whole_file : (t : PlainFile) (laws axioms : List PlainLaw) (claims : List PlainClaim) (taken variables : Taken) → claims ≡ t.claims
    → wanting (file_with (front t laws axioms claims taken variables) (output_of t) t.relation) t.first ≡ t
whole_file t laws axioms claims taken variables is = ap (λ (cs : List PlainClaim). record t { claims = cs }) is

abbrev read : PlainFile → Read PlainFile
read t = Ok t

abbrev ConditionRead : PlainFile → Front → Plains → Type 0
ConditionRead t f ts = Reads (λ k us. after_condition k f us) ts t

-- how many answers are wanted
first_read : (f : Front) (output : List ℕ × PlainSort) (relation : PlainTerm) (first : Option ℕ) (t : PlainFile) → is_wanted first ≡ true
    → wanting (file_with f output relation) first ≡ t → Reads (λ k us. after_relation k (file_with f output relation) us) (first_before first none) t
first_read f output relation None t h is = λ k few. ap read is
first_read f output relation (Some n) t h is = λ k few.
    let few_further = further k (first_spelling n) none few in
    passed (suc k) (first_form (first_spelling n)) (λ m. at_end (suc k) (with_first (file_with f output relation) m) none) n t few_further.0 (first_passed n h) (ap read is)

relation_read : (t : PlainFile) (laws axioms : List PlainLaw) (claims : List PlainClaim) (taken variables : Taken) → IsFormed t → claims ≡ t.claims
    → Reads (λ k us. after_output k (front t laws axioms claims taken variables) (output_of t) us) (more (headed (codes "ensure") (one (term_spelling t.relation))) (first_before t.first none)) t
relation_read t laws axioms claims taken variables formed is = λ k few.
    let us : Plains = first_before t.first none in
    let few_further = further k (headed (codes "ensure") (one (term_spelling t.relation))) us few in
    let f : Front = front t laws axioms claims taken variables in
    passed (suc k) (condition_form (codes "ensure") t.definitions (relation_names t) (headed (codes "ensure") (one (term_spelling t.relation))))
    (λ relation. after_relation (suc k) (file_with f (output_of t) relation) us) t.relation t
    few_further.0 (condition_passed (codes "ensure") t.definitions (relation_names t) t.relation formed.relation_spelled formed.relation_wordless formed.relation_sorted)
    (first_read f (output_of t) t.relation t.first t formed.wanted
    (whole_file t laws axioms claims taken variables is) (suc k) few_further.1)

output_read : (t : PlainFile) (laws axioms : List PlainLaw) (claims : List PlainClaim) (taken variables : Taken) → IsFormed t → claims ≡ t.claims
    → is_free (taken ++ variables) t.output ≡ true → ConditionRead t (front t laws axioms claims taken variables) (last_forms t)
output_read t laws axioms claims taken variables formed is free = λ k few.
    let us : Plains = more (headed (codes "ensure") (one (term_spelling t.relation))) (first_before t.first none) in
    let few_further = further k (headed (codes "output") (named_spelling (output_of t))) us few in
    passed (suc k) (output_form (taken ++ variables) (headed (codes "output") (named_spelling (output_of t))))
    (λ output. after_output (suc k) (front t laws axioms claims taken variables) output us) (output_of t) t
    few_further.0 (output_passed (taken ++ variables) (output_of t) formed.output_spelled free formed.sort_allowed)
    (relation_read t laws axioms claims taken variables formed is (suc k) few_further.1)

-- what is still to come keeps the rules over the theory before it
record AreKept (t : PlainFile) (before : PlainTheory) (taken variables : Taken) (cs : List PlainClaim) : Type 0 where
  spelled : list_all is_spelled_claim cs ≡ true
  wordless : list_all is_wordless_law (claimed cs) ≡ true
  sorted : list_all (is_sorted_law t.definitions t.inputs) (claimed cs) ≡ true
  named : are_named_before taken variables (claimed cs) t.output ≡ true
  shown : are_shown before cs ≡ true

-- a claim is passed where the later forms are read
claim_next : (t : PlainFile) (laws axioms : List PlainLaw) (claims : List PlainClaim) (taken variables : Taken) (c : PlainClaim) (us : Plains) → is_spelled_claim c ≡ true → is_wordless_law (law_of c) ≡ true
    → is_named_law taken variables (law_of c) ≡ true → is_sorted_law t.definitions t.inputs (law_of c) ≡ true → is_shown (so_far t laws axioms) c ≡ true
    → ConditionRead t (with_claim (front t laws axioms claims taken variables) c) us → is_claim (claim_spelling c) ≡ true → ConditionRead t (front t laws axioms claims taken variables) (more (claim_spelling c) us)
claim_next t laws axioms claims taken variables c us spelled wordless named sorted shown later is = λ k few.
    let few_further = further k (claim_spelling c) us few in
    let f : Front = front t laws axioms claims taken variables in
    ap (λ (b : Bool). if b then (at (suc k) (claim_form f.theory taken variables (claim_spelling c)) >>= λ d. after_condition (suc k) (with_claim f d) us)
    else (at (suc k) (output_form (taken ++ variables) (claim_spelling c)) >>= λ output. after_output (suc k) f output us)) is
    ∙ passed (suc k) (claim_form f.theory taken variables (claim_spelling c)) (λ d. after_condition (suc k) (with_claim f d) us) c t
    few_further.0 (claim_passed f.theory taken variables c spelled wordless named sorted shown) (later (suc k) few_further.1)

is_claimed : (c : PlainClaim) → is_claim (claim_spelling c) ≡ true
is_claimed (assumed l) = refl
is_claimed (proved l moves) = refl

claims_read : (t : PlainFile) (laws axioms : List PlainLaw) (claims rest : List PlainClaim) (taken variables : Taken) → IsFormed t → claims ++ rest ≡ t.claims
    → AreKept t (so_far t laws axioms) taken variables rest → ConditionRead t (front t laws axioms claims taken variables) (claims_before rest (last_forms t))
claims_read t laws axioms claims [] taken variables formed is kept = output_read t laws axioms claims taken variables formed (sym (append-nil claims) ∙ is) kept.named
claims_read t laws axioms claims (c ∷ cs) taken variables formed is kept =
    let l : PlainLaw = law_of c in
    let s = and_parts (is_spelled_claim c) (list_all is_spelled_claim cs) kept.spelled in
    let w = and_parts (is_wordless_law l) (list_all is_wordless_law (claimed cs)) kept.wordless in
    let o = and_parts (is_sorted_law t.definitions t.inputs l) (list_all (is_sorted_law t.definitions t.inputs) (claimed cs)) kept.sorted in
    let n = and_parts (is_named_law taken variables l) (are_named_before (taken ++ l.name ∷ []) (variables ++ words_of l.variables) (claimed cs) t.output) kept.named in
    let q = and_parts (is_shown (so_far t laws axioms) c) (are_shown (with_law (so_far t laws axioms) c) cs) kept.shown in
    claim_next t laws axioms claims taken variables c (claims_before cs (last_forms t)) s.0 w.0 n.0 o.0 q.0
    (claims_read t (laws_with laws c) (axioms_with axioms c) (claims ++ c ∷ []) cs (taken ++ l.name ∷ []) (variables ++ words_of l.variables) formed (append_assoc claims (c ∷ []) cs ∙ is)
    (record { spelled = s.1; wordless = w.1; sorted = o.1; named = n.1; shown = q.1 }))
    (is_claimed c)

condition_read : (t : PlainFile) → IsFormed t → InputsRead t.definitions t.inputs (names_before_laws t) (later_forms t) t
condition_read t formed = λ k few.
    let us : Plains = claims_before t.claims (last_forms t) in
    let few_further = further k (headed (codes "require") (one (term_spelling t.condition))) us few in
    passed (suc k) (condition_form (codes "require") t.definitions t.inputs (headed (codes "require") (one (term_spelling t.condition))))
    (λ condition. after_condition (suc k) (front_of t.title t.definitions t.inputs (names_before_laws t) condition) us) t.condition t
    few_further.0 (condition_passed (codes "require") t.definitions t.inputs t.condition formed.condition_spelled formed.condition_wordless formed.condition_sorted)
    (claims_read t [] [] [] t.claims (names_before_laws t) [] formed refl
    (record { spelled = formed.claims_spelled; wordless = formed.laws_wordless; sorted = formed.laws_sorted; named = formed.laws_named; shown = formed.laws_shown }) (suc k) few_further.1)

-- ---- the whole

-- no definition comes after them
definitions_end : (k : ℕ) (defs : List PlainDef) (taken : Taken) (ns : Names) (t : PlainFile)
    → after_definitions k t.title defs taken (inputs_before ns (later_forms t)) ≡ after_inputs k t.title defs [] taken (inputs_before ns (later_forms t))
definitions_end k defs taken [] t = refl
definitions_end k defs taken (n ∷ ns) t = refl

forms_read : (t : PlainFile) → IsFormed t → file_from (file_spelling t) ≡ Ok t
forms_read t formed =
    let defs : List PlainDef = t.definitions in
    let ns : Names = t.inputs in
    let later : Plains = from_inputs t in
    let few = formed.few_inputs in
    let inputs = inputs_read defs [] (names_of defs) ns (later_forms t) t formed.inputs_spelled (omega (arith, few)) formed.inputs_free formed.inputs_allowed (condition_read t formed) in
    let definitions = definitions_read [] defs later t formed.definitions_spelled formed.definitions_wordless formed.definitions_formed
    (λ k few. definitions_end k defs (names_of defs) ns t ∙ inputs k few) in
    passed 1 (title_form (headed (codes "theory") (one (atom t.title)))) (λ title. after_definitions 1 title [] [] (definitions_before defs later)) t.title t
    (omega arith) (title_passed t.title formed.named) (definitions 1 formed.few_forms)

pub kept_read : (bytes : List ℕ) (t : PlainFile) → IsFileOf bytes t → file_reading bytes ≡ Ok t
kept_read bytes t is =
    ap (λ (b : Bool). if b then from_forest (reading bytes) else refused 0 code.Large) (is_at_most (length bytes) 4194304 is.few)
    ∙ ap from_forest (spelled-reading bytes (file_spelling t) is.spells) ∙ forms_read t is.formed
