-- One stage of reading after another.
use Rattle.std.proofs.Common.{◌≡◌, ℕ, suc, Bool, true, false, if◌then◌else◌, List, [], ◌∷◌, ◌++◌, length, Result, Ok, Err, refl, sym, ap, ◌∙◌, subst}
use Rattle.std.specs.Prelude.{nat_le, codes, IsErrAnd}
use Rattle.std.specs.Bool.{◌==◌}
use Rattle.kid_sexp.specs.declared.tree.Tree.{Tree}
use Rattle.kid_sexp.specs.Tree.{plain, plains}
use Rattle.kid_value.specs.NameView.{plain_name}
use Rattle.kid_value.specs.PlainSort.{PlainSort}
use Rattle.kid_value.specs.declared.sort.Sort.{Sort}
use Rattle.kid_term.specs.DefView.{plain_def}
use Rattle.kid_term.specs.Names.{Names, PlainDef}
use Rattle.kid_term.specs.TermView.{plain_term}
use Rattle.kid_term.specs.declared.Term.{Term}
use Rattle.kid_term.specs.declared.definition.Def.{Def}
use Rattle.kid_theory.specs.Judged.{Judged}
use Rattle.kid_theory.specs.Answers.{CodeFails, Judges, Fails, Reads, fault_at, placed, located}
use Rattle.kid_theory.specs.ClaimView.{plain_claim}
use Rattle.kid_theory.specs.FileView.{plain_file}
use Rattle.kid_theory.specs.Forms.{begins, definition_form, input_form, output_form, condition_form, first_form, is_claim, claim_form}
use Rattle.kid_theory.specs.PlainFile.{PlainFile}
use Rattle.kid_theory.specs.Reading.{Read, ◌>>=◌, refused, numbered, at, Front, with_claim, file_with, front_of, at_end, with_first, after_relation, after_output, after_condition, after_inputs, after_definitions}
use Rattle.kid_theory.specs.Taken.{Taken}
use Rattle.kid_theory.specs.declared.claims.Claim.{Claim}
use Rattle.kid_theory.specs.declared.fault.TheoryCode.{TheoryCode}
use Rattle.kid_theory.specs.declared.fault.TheoryCode.TheVariants as code
use Rattle.kid_theory.specs.declared.fault.TheoryFault.{TheoryFault}
use Rattle.kid_theory.specs.declared.file.TheoryFile.{TheoryFile}

abbrev placed_if : {A : Type 0} → Bool → ℕ → Result A TheoryCode → Result A TheoryFault
placed_if b k r = if b then placed k r else Err (fault_at k code.Limit)

abbrev numbered_if : {A : Type 0} → Bool → ℕ → Judged A → Read A
numbered_if b k form = if b then numbered k form else refused k code.Limit

-- what a form holds is handed on
held_if : {X Y B : Type 0} (b : Bool) (view : X → Y) (r : Result X TheoryCode) (there : Judged Y) (k : ℕ) (x : X) (f : Y → Read B)
    → Judges view r there → placed_if b k r ≡ Ok x → (numbered_if b k there >>= f) ≡ f (view x)
held_if true view (Ok y) there k x f judged held =
    let same : y ≡ x = cc in
    ap (λ o. numbered k o >>= f) judged ∙ ap (λ z. f (view z)) same
held_if true view (Err c) there k x f judged held = cc
held_if false view r there k x f judged held = cc

held : {X Y B : Type 0} (view : X → Y) (r : Result X TheoryCode) (there : Judged Y) (k : ℕ) (x : X) (f : Y → Read B) (o : Read B)
    → o ≡ (at k there >>= f) → Judges view r there → located k r ≡ Ok x → o ≡ f (view x)
held view r there k x f o staged judged found = staged ∙ held_if (nat_le k 1024) view r there k x f judged found

-- and so is a fault
code_fails : {Y B : Type 0} (c : TheoryCode) (k : ℕ) (there : Judged Y) (f : Y → Read B) → CodeFails c there → Fails (fault_at k c) (fault_at k c).code (numbered k there >>= f)
code_fails code.Large k there f h = ap (λ o. numbered k o >>= f) h
code_fails code.Read k there f h = ap (λ o. numbered k o >>= f) h
code_fails code.Limit k there f h = ap (λ o. numbered k o >>= f) h
code_fails code.Form k there f h = ap (λ o. numbered k o >>= f) h
code_fails code.Name k there f h = ap (λ o. numbered k o >>= f) h
code_fails code.Cycle k there f h = ap (λ o. numbered k o >>= f) h
code_fails code.Sort k there f h = ap (λ o. numbered k o >>= f) h
code_fails code.Proof k there f h = ap (λ o. numbered k o >>= f) h
code_fails code.Memory k there f h = refl

failed_if : {X Y B : Type 0} (b : Bool) (view : X → Y) (r : Result X TheoryCode) (there : Judged Y) (k : ℕ) (fault : TheoryFault) (f : Y → Read B)
    → Judges view r there → placed_if b k r ≡ Err fault → Fails fault fault.code (numbered_if b k there >>= f)
failed_if true view (Ok y) there k fault f judged found = cc
failed_if true view (Err c) there k fault f judged found =
    let same : fault_at k c ≡ fault = cc in
    subst (λ (e : TheoryFault). Fails e e.code (numbered k there >>= f)) same (code_fails c k there f judged)
failed_if false view r there k fault f judged found =
    let same : fault_at k code.Limit ≡ fault = cc in
    subst (λ (e : TheoryFault). Fails e e.code (numbered_if false k there >>= f)) same refl

failed : {X Y B : Type 0} (view : X → Y) (r : Result X TheoryCode) (there : Judged Y) (k : ℕ) (fault : TheoryFault) (f : Y → Read B) (o : Read B)
    → o ≡ (at k there >>= f) → Judges view r there → located k r ≡ Err fault → Fails fault fault.code o
failed view r there k fault f o staged judged found =
    subst (λ p. Fails fault fault.code p) (sym staged) (failed_if (nat_le k 1024) view r there k fault f judged found)

-- ---- the stages, where a tree is there

output-stage : (k m : ℕ) (f : Front) (output : List ℕ × PlainSort) (trees rest : List Tree) (tree : Tree) → suc k ≡ m → trees ≡ tree ∷ rest
    → after_output k f output (plains trees)
    ≡ (at m (condition_form (codes "ensure") f.theory.signature.definitions (f.theory.signature.inputs ++ output ∷ []) (plain tree)) >>= λ relation. after_relation m (file_with f output relation) (plains rest))
output-stage k m f output trees rest tree e are =
    ap (λ (ts : List Tree). after_output k f output (plains ts)) are
    ∙ ap (λ j. at j (condition_form (codes "ensure") f.theory.signature.definitions (f.theory.signature.inputs ++ output ∷ []) (plain tree)) >>= λ relation. after_relation j (file_with f output relation) (plains rest)) e

abbrev condition_if : ℕ → Front → Tree → List Tree → Bool → Read PlainFile
condition_if k f tree rest b =
    if b
    then (at k (claim_form f.theory f.taken f.variables (plain tree)) >>= λ c. after_condition k (with_claim f c) (plains rest))
    else (at k (output_form (f.taken ++ f.variables) (plain tree)) >>= λ output. after_output k f output (plains rest))

condition_stage : (k m : ℕ) (f : Front) (trees rest : List Tree) (tree : Tree) (b : Bool) → suc k ≡ m → trees ≡ tree ∷ rest → is_claim (plain tree) ≡ b
    → after_condition k f (plains trees) ≡ condition_if m f tree rest b
condition_stage k m f trees rest tree b e are is =
    ap (λ (ts : List Tree). after_condition k f (plains ts)) are
    ∙ ap (λ j. condition_if j f tree rest (is_claim (plain tree))) e
    ∙ ap (λ c. condition_if m f tree rest c) is

claim-stage : (k m : ℕ) (f : Front) (trees rest : List Tree) (tree : Tree) → suc k ≡ m → trees ≡ tree ∷ rest → is_claim (plain tree) ≡ true
    → after_condition k f (plains trees)
    ≡ (at m (claim_form f.theory f.taken f.variables (plain tree)) >>= λ c. after_condition m (with_claim f c) (plains rest))
claim-stage k m f trees rest tree e are is = condition_stage k m f trees rest tree true e are is

named-stage : (k m : ℕ) (f : Front) (trees rest : List Tree) (tree : Tree) → suc k ≡ m → trees ≡ tree ∷ rest → is_claim (plain tree) ≡ false
    → after_condition k f (plains trees)
    ≡ (at m (output_form (f.taken ++ f.variables) (plain tree)) >>= λ output. after_output m f output (plains rest))
named-stage k m f trees rest tree e are is = condition_stage k m f trees rest tree false e are is

abbrev inputs_if : ℕ → List ℕ → List PlainDef → Names → Taken → Tree → List Tree → Bool → Read PlainFile
inputs_if k title defs inputs taken tree rest b =
    if b
    then (at k (input_form inputs taken (plain tree)) >>= λ n. after_inputs k title defs (inputs ++ n ∷ []) (taken ++ n.0 ∷ []) (plains rest))
    else (at k (condition_form (codes "require") defs inputs (plain tree)) >>= λ condition. after_condition k (front_of title defs inputs taken condition) (plains rest))

inputs_stage : (k m : ℕ) (title : List ℕ) (defs : List PlainDef) (inputs : Names) (taken : Taken) (trees rest : List Tree) (tree : Tree) (b : Bool) → suc k ≡ m → trees ≡ tree ∷ rest
    → begins (codes "input") (plain tree) ≡ b
    → after_inputs k title defs inputs taken (plains trees) ≡ inputs_if m title defs inputs taken tree rest b
inputs_stage k m title defs inputs taken trees rest tree b e are is =
    ap (λ (ts : List Tree). after_inputs k title defs inputs taken (plains ts)) are
    ∙ ap (λ j. inputs_if j title defs inputs taken tree rest (begins (codes "input") (plain tree))) e
    ∙ ap (λ c. inputs_if m title defs inputs taken tree rest c) is

input-stage : (k m : ℕ) (title : List ℕ) (defs : List PlainDef) (inputs : Names) (taken : Taken) (trees rest : List Tree) (tree : Tree) → suc k ≡ m → trees ≡ tree ∷ rest
    → begins (codes "input") (plain tree) ≡ true
    → after_inputs k title defs inputs taken (plains trees)
    ≡ (at m (input_form inputs taken (plain tree)) >>= λ n. after_inputs m title defs (inputs ++ n ∷ []) (taken ++ n.0 ∷ []) (plains rest))
input-stage k m title defs inputs taken trees rest tree e are is = inputs_stage k m title defs inputs taken trees rest tree true e are is

require-stage : (k m : ℕ) (title : List ℕ) (defs : List PlainDef) (inputs : Names) (taken : Taken) (trees rest : List Tree) (tree : Tree) → suc k ≡ m → trees ≡ tree ∷ rest
    → begins (codes "input") (plain tree) ≡ false
    → after_inputs k title defs inputs taken (plains trees)
    ≡ (at m (condition_form (codes "require") defs inputs (plain tree)) >>= λ condition. after_condition m (front_of title defs inputs taken condition) (plains rest))
require-stage k m title defs inputs taken trees rest tree e are is = inputs_stage k m title defs inputs taken trees rest tree false e are is

abbrev definitions_if : ℕ → ℕ → List ℕ → List PlainDef → Taken → Tree → List Tree → Bool → Read PlainFile
definitions_if k m title defs taken tree rest b =
    if b
    then (at m (definition_form defs taken (plains rest) (plain tree)) >>= λ d. after_definitions m title (defs ++ d ∷ []) (taken ++ d.name ∷ []) (plains rest))
    else after_inputs k title defs [] taken (plains (tree ∷ rest))

definitions_stage : (k m : ℕ) (title : List ℕ) (defs : List PlainDef) (taken : Taken) (trees rest : List Tree) (tree : Tree) (b : Bool) → suc k ≡ m → trees ≡ tree ∷ rest
    → begins (codes "def") (plain tree) ≡ b
    → after_definitions k title defs taken (plains trees) ≡ definitions_if k m title defs taken tree rest b
definitions_stage k m title defs taken trees rest tree b e are is =
    ap (λ (ts : List Tree). after_definitions k title defs taken (plains ts)) are
    ∙ ap (λ j. definitions_if k j title defs taken tree rest (begins (codes "def") (plain tree))) e
    ∙ ap (λ c. definitions_if k m title defs taken tree rest c) is

definition-stage : (k m : ℕ) (title : List ℕ) (defs : List PlainDef) (taken : Taken) (trees rest : List Tree) (tree : Tree) → suc k ≡ m → trees ≡ tree ∷ rest
    → begins (codes "def") (plain tree) ≡ true
    → after_definitions k title defs taken (plains trees)
    ≡ (at m (definition_form defs taken (plains rest) (plain tree)) >>= λ d. after_definitions m title (defs ++ d ∷ []) (taken ++ d.name ∷ []) (plains rest))
definition-stage k m title defs taken trees rest tree e are is = definitions_stage k m title defs taken trees rest tree true e are is

relation_stage : (k m : ℕ) (t : PlainFile) (trees rest : List Tree) (tree : Tree) → suc k ≡ m → trees ≡ tree ∷ rest
    → after_relation k t (plains trees) ≡ (at m (first_form (plain tree)) >>= λ n. at_end m (with_first t n) (plains rest))
relation_stage k m t trees rest tree e are =
    ap (λ (ts : List Tree). after_relation k t (plains ts)) are
    ∙ ap (λ j. at j (first_form (plain tree)) >>= λ n. at_end j (with_first t n) (plains rest)) e

-- ---- what comes after a form that was not refused

pub first-next : (k m : ℕ) (t u : PlainFile) (trees rest : List Tree) (tree : Tree) (r : Result ℕ TheoryCode) (n : ℕ)
    → suc k ≡ m → trees ≡ tree ∷ rest → Judges (λ c. c) r (first_form (plain tree)) → located m r ≡ Ok n → u ≡ with_first t n
    → after_relation k t (plains trees) ≡ at_end m u (plains rest)
first-next k m t u trees rest tree r n e are judged found is =
    held (λ c. c) r (first_form (plain tree)) m n (λ c. at_end m (with_first t c) (plains rest))
    (after_relation k t (plains trees)) (relation_stage k m t trees rest tree e are) judged found
    ∙ ap (λ v. at_end m v (plains rest)) (sym is)

pub relation-next : (k m : ℕ) (f : Front) (output : List ℕ × PlainSort) (trees rest : List Tree) (tree : Tree) (r : Result Term TheoryCode) (x : Term) (t : PlainFile)
    → suc k ≡ m → trees ≡ tree ∷ rest → Judges plain_term r (condition_form (codes "ensure") f.theory.signature.definitions (f.theory.signature.inputs ++ output ∷ []) (plain tree)) → located m r ≡ Ok x
    → t ≡ file_with f output (plain_term x)
    → after_output k f output (plains trees) ≡ after_relation m t (plains rest)
relation-next k m f output trees rest tree r x t e are judged found is =
    held plain_term r (condition_form (codes "ensure") f.theory.signature.definitions (f.theory.signature.inputs ++ output ∷ []) (plain tree)) m x (λ relation. after_relation m (file_with f output relation) (plains rest))
    (after_output k f output (plains trees)) (output-stage k m f output trees rest tree e are) judged found
    ∙ ap (λ u. after_relation m u (plains rest)) (sym is)

pub claim-next : (k m : ℕ) (f g : Front) (trees rest : List Tree) (tree : Tree) (r : Result Claim TheoryCode) (x : Claim)
    → suc k ≡ m → trees ≡ tree ∷ rest → is_claim (plain tree) ≡ true → Judges plain_claim r (claim_form f.theory f.taken f.variables (plain tree))
    → located m r ≡ Ok x → g ≡ with_claim f (plain_claim x)
    → after_condition k f (plains trees) ≡ after_condition m g (plains rest)
claim-next k m f g trees rest tree r x e are begun judged found is =
    held plain_claim r (claim_form f.theory f.taken f.variables (plain tree)) m x (λ c. after_condition m (with_claim f c) (plains rest))
    (after_condition k f (plains trees)) (claim-stage k m f trees rest tree e are begun) judged found
    ∙ ap (λ h. after_condition m h (plains rest)) (sym is)

pub output-next : (k m : ℕ) (f : Front) (trees rest : List Tree) (tree : Tree) (r : Result (List ℕ × Sort) TheoryCode) (x : List ℕ × Sort)
    → suc k ≡ m → trees ≡ tree ∷ rest → is_claim (plain tree) ≡ false → Judges plain_name r (output_form (f.taken ++ f.variables) (plain tree))
    → located m r ≡ Ok x
    → after_condition k f (plains trees) ≡ after_output m f (plain_name x) (plains rest)
output-next k m f trees rest tree r x e are begun judged found =
    held plain_name r (output_form (f.taken ++ f.variables) (plain tree)) m x (λ output. after_output m f output (plains rest))
    (after_condition k f (plains trees)) (named-stage k m f trees rest tree e are begun) judged found

pub input-next : (k m : ℕ) (title : List ℕ) (defs : List PlainDef) (inputs more : Names) (taken now : Taken) (trees rest : List Tree) (tree : Tree) (r : Result (List ℕ × Sort) TheoryCode) (x : List ℕ × Sort)
    → suc k ≡ m → trees ≡ tree ∷ rest → begins (codes "input") (plain tree) ≡ true → Judges plain_name r (input_form inputs taken (plain tree)) → located m r ≡ Ok x
    → more ≡ inputs ++ plain_name x ∷ [] → now ≡ taken ++ x.0 ∷ []
    → after_inputs k title defs inputs taken (plains trees) ≡ after_inputs m title defs more now (plains rest)
input-next k m title defs inputs more taken now trees rest tree r x e are begun judged found grown named =
    held plain_name r (input_form inputs taken (plain tree)) m x (λ n. after_inputs m title defs (inputs ++ n ∷ []) (taken ++ n.0 ∷ []) (plains rest))
    (after_inputs k title defs inputs taken (plains trees)) (input-stage k m title defs inputs taken trees rest tree e are begun) judged found
    ∙ ap (λ ns. after_inputs m title defs ns (taken ++ x.0 ∷ []) (plains rest)) (sym grown) ∙ ap (λ ns. after_inputs m title defs more ns (plains rest)) (sym named)

pub require-next : (k m : ℕ) (title : List ℕ) (defs : List PlainDef) (inputs : Names) (taken : Taken) (f : Front) (trees rest : List Tree) (tree : Tree) (r : Result Term TheoryCode) (x : Term)
    → suc k ≡ m → trees ≡ tree ∷ rest → begins (codes "input") (plain tree) ≡ false → Judges plain_term r (condition_form (codes "require") defs inputs (plain tree))
    → located m r ≡ Ok x → f ≡ front_of title defs inputs taken (plain_term x)
    → after_inputs k title defs inputs taken (plains trees) ≡ after_condition m f (plains rest)
require-next k m title defs inputs taken f trees rest tree r x e are begun judged found is =
    held plain_term r (condition_form (codes "require") defs inputs (plain tree)) m x (λ condition. after_condition m (front_of title defs inputs taken condition) (plains rest))
    (after_inputs k title defs inputs taken (plains trees)) (require-stage k m title defs inputs taken trees rest tree e are begun) judged found
    ∙ ap (λ g. after_condition m g (plains rest)) (sym is)

pub definition-next : (k m : ℕ) (title same : List ℕ) (defs more : List PlainDef) (taken now : Taken) (trees rest : List Tree) (tree : Tree) (r : Result Def TheoryCode) (x : Def)
    → suc k ≡ m → trees ≡ tree ∷ rest → begins (codes "def") (plain tree) ≡ true → Judges plain_def r (definition_form defs taken (plains rest) (plain tree)) → located m r ≡ Ok x
    → same ≡ title → more ≡ defs ++ plain_def x ∷ [] → now ≡ taken ++ x.name ∷ []
    → after_definitions k title defs taken (plains trees) ≡ after_definitions m same more now (plains rest)
definition-next k m title same defs more taken now trees rest tree r x e are begun judged found titled grown named =
    held plain_def r (definition_form defs taken (plains rest) (plain tree)) m x (λ d. after_definitions m title (defs ++ d ∷ []) (taken ++ d.name ∷ []) (plains rest))
    (after_definitions k title defs taken (plains trees)) (definition-stage k m title defs taken trees rest tree e are begun) judged found
    ∙ sym (λ i. after_definitions m (titled i) (grown i) (named i) (plains rest))

-- ---- refusals

pub output-refused : (k m : ℕ) (f : Front) (trees rest : List Tree) (tree : Tree) (r : Result (List ℕ × Sort) TheoryCode) (fault : TheoryFault)
    → suc k ≡ m → trees ≡ tree ∷ rest → is_claim (plain tree) ≡ false → Judges plain_name r (output_form (f.taken ++ f.variables) (plain tree))
    → located m r ≡ Err fault → Fails fault fault.code (after_condition k f (plains trees))
output-refused k m f trees rest tree r fault e are begun judged found =
    failed plain_name r (output_form (f.taken ++ f.variables) (plain tree)) m fault (λ output. after_output m f output (plains rest))
    (after_condition k f (plains trees)) (named-stage k m f trees rest tree e are begun) judged found

pub relation-refused : (k m : ℕ) (f : Front) (output : List ℕ × PlainSort) (trees rest : List Tree) (tree : Tree) (r : Result Term TheoryCode) (fault : TheoryFault)
    → suc k ≡ m → trees ≡ tree ∷ rest → Judges plain_term r (condition_form (codes "ensure") f.theory.signature.definitions (f.theory.signature.inputs ++ output ∷ []) (plain tree))
    → located m r ≡ Err fault → Fails fault fault.code (after_output k f output (plains trees))
relation-refused k m f output trees rest tree r fault e are judged found =
    failed plain_term r (condition_form (codes "ensure") f.theory.signature.definitions (f.theory.signature.inputs ++ output ∷ []) (plain tree)) m fault
    (λ relation. after_relation m (file_with f output relation) (plains rest)) (after_output k f output (plains trees)) (output-stage k m f output trees rest tree e are) judged found

pub claim-refused : (k m : ℕ) (f : Front) (trees rest : List Tree) (tree : Tree) (r : Result Claim TheoryCode) (fault : TheoryFault)
    → suc k ≡ m → trees ≡ tree ∷ rest → is_claim (plain tree) ≡ true → Judges plain_claim r (claim_form f.theory f.taken f.variables (plain tree))
    → located m r ≡ Err fault → Fails fault fault.code (after_condition k f (plains trees))
claim-refused k m f trees rest tree r fault e are begun judged found =
    failed plain_claim r (claim_form f.theory f.taken f.variables (plain tree)) m fault (λ c. after_condition m (with_claim f c) (plains rest))
    (after_condition k f (plains trees)) (claim-stage k m f trees rest tree e are begun) judged found

-- an error is handed on
pub handed : {X Y : Type 0} (view : X → Y) (r : Result X TheoryFault) (fault : TheoryFault) (there : Read Y) → IsErrAnd r (λ e. e ≡ fault) → Fails fault fault.code there → Reads view r there
handed view (Ok x) fault there is fails = absurd is
handed view (Err e) fault there is fails = subst (λ (g : TheoryFault). Fails g g.code there) (sym is) fails

-- no form stands after the last
abbrev no_file : Result TheoryFile TheoryCode
no_file = Err code.Form

abbrev none_there : Judged PlainFile
none_there = Err code.Form

ended_if : (b : Bool) (k : ℕ) → Reads plain_file (placed_if b k no_file) (numbered_if b k none_there)
ended_if true k = refl
ended_if false k = refl

pub ended_not : (k m : ℕ) (t : PlainFile) (trees : List Tree) → false ≡ (length trees == 0) → suc k ≡ m → Reads plain_file (located m no_file) (at_end k t (plains trees))
ended_not k m t [] h e = cc
ended_not k m t (u ∷ us) h e = subst (λ (j : ℕ). Reads plain_file (located m no_file) (at j none_there)) (sym e) (ended_if (nat_le m 1024) m)
