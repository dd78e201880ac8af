-- One stage of loading after another.
use Rattle.std.proofs.Common.{◌≡◌, ℕ, suc, ◌+◌, Bool, true, false, if◌then◌else◌, List, [], ◌∷◌, ◌++◌, length, Option, Some, None, Result, Ok, Err, refl, sym, ap, ◌∙◌, subst, arith}
use Rattle.std.specs.Bool.{◌==◌}
use Rattle.std.specs.Result.{IsErrAnd}
use Rattle.kid_sexp.specs.Plain.{Plain, Plains, none, more, forest_len}
use Rattle.kid_sexp.specs.declared.tree.Tree.{Tree}
use Rattle.kid_sexp.specs.Tree.{plain, plains}
use Rattle.kid_sexp.proofs.Forests.{plains_length}
use Rattle.kid_value.specs.NameView.{plain_name}
use Rattle.kid_value.specs.declared.sort.Sort.{Sort}
use Rattle.kid_term.specs.DefView.{plain_def}
use Rattle.kid_term.specs.Names.{Names, PlainDef}
use Rattle.kid_term.specs.PlainTerm.{PlainTerm}
use Rattle.kid_term.specs.TermView.{plain_term}
use Rattle.kid_term.specs.declared.Term.{Term}
use Rattle.kid_term.specs.declared.definition.Def.{Def}
use Rattle.kid_term.specs.PlainSignature.{PlainSignature}
use Rattle.kid_codec.proofs.Found.{same_some}
use Rattle.kid_prog.specs.PlainStmt.{PlainStmt, PlainStmts, stmt_row}
use Rattle.kid_prog.specs.PlainProgram.{PlainProgram}
use Rattle.kid_prog.specs.Forms.{is_def, def_form, is_input, input_form, require_form, output_form, is_first, first_form, known_parameters, main_form, search_form}
use Rattle.kid_prog.specs.FormAnswers.{CodeFails, Judges}
use Rattle.kid_prog.specs.StageAnswers.{fault_at, numbered}
use Rattle.kid_prog.specs.Loading.{Loaded, ◌>>=◌, refused, at, Heading, program_with, at_end, after_main, after_first, with_first, after_output, after_condition, with_input, after_inputs, defined, next_definition, after_definitions, Fails, Loads}
use Rattle.kid_prog.specs.declared.fault.LoadCode.{LoadCode}
use Rattle.kid_prog.specs.declared.fault.LoadCode.TheVariants as code
use Rattle.kid_prog.specs.declared.fault.LoadFault.{LoadFault}
use Rattle.kid_prog.specs.declared.format.Format.{Format}
use Rattle.kid_prog.specs.ProgramView.{plain_program}
use Rattle.kid_prog.specs.declared.program.Program.{Program}

-- what a form holds is handed on
passed : {X Y B : Type 0} (view : X → Y) (r : Result X LoadCode) (there : Result Y LoadCode) (k : ℕ) (x : X) (f : Y → Loaded B)
    → Judges view r there → numbered k r ≡ Ok x → (at k there >>= f) ≡ f (view x)
passed view (Ok y) there k x f judged held =
    let same : y ≡ x = cc in
    ap (λ o. at k o >>= f) judged ∙ ap (λ z. f (view z)) same
passed view (Err c) there k x f judged held = cc

pub ended_not : (k : ℕ) (p : PlainProgram) (ts : List Tree) → false ≡ (length ts == 0) → at_end k p (plains ts) ≡ refused (k + 1) code.Form
ended_not k p [] h = cc
ended_not k p (t ∷ ts) h = let e : suc k ≡ k + 1 = omega arith in ap (λ j. refused j code.Form) e

pub main-next : (k m : ℕ) (h : Heading) (main : PlainStmts) (trees rest : List Tree) (tree : Tree) (r : Result (Names × List PlainStmt) LoadCode) (s : Names × List PlainStmt) (p : PlainProgram)
    → suc k ≡ m → trees ≡ tree ∷ rest → Judges (λ q. (q.0, stmt_row q.1)) r (search_form h.format h.signature h.output (plain tree)) → numbered m r ≡ Ok s
    → p ≡ program_with h main (s.0, stmt_row s.1)
    → after_main k h main (plains trees) ≡ at_end m p (plains rest)
main-next k m h main trees rest tree r s p e are judged held is =
    ap (λ (ts : List Tree). after_main k h main (plains ts)) are
    ∙ ap (λ j. at j (search_form h.format h.signature h.output (plain tree)) >>= λ search. at_end j (program_with h main search) (plains rest)) e
    ∙ passed (λ q. (q.0, stmt_row q.1)) r (search_form h.format h.signature h.output (plain tree)) m s (λ search. at_end m (program_with h main search) (plains rest)) judged held
    ∙ ap (λ q. at_end m q (plains rest)) (sym is)

pub search-next : (k m : ℕ) (h : Heading) (trees rest : List Tree) (tree : Tree) (r : Result (List PlainStmt) LoadCode) (main : List PlainStmt)
    → suc k ≡ m → trees ≡ tree ∷ rest → Judges (λ ss. stmt_row ss) r (main_form h.format h.signature h.output.1 (known_parameters h.format h.signature h.output (plains rest)) (plain tree))
    → numbered m r ≡ Ok main → after_first k h (plains trees) ≡ after_main m h (stmt_row main) (plains rest)
search-next k m h trees rest tree r main e are judged held =
    let form = main_form h.format h.signature h.output.1 (known_parameters h.format h.signature h.output (plains rest)) (plain tree) in
    ap (λ (ts : List Tree). after_first k h (plains ts)) are
    ∙ ap (λ j. at j form >>= λ ss. after_main j h ss (plains rest)) e
    ∙ passed (λ ss. stmt_row ss) r form m main (λ ss. after_main m h ss (plains rest)) judged held

pub condition-next : (k m : ℕ) (f : Format) (s : PlainSignature) (condition : PlainTerm) (trees rest : List Tree) (tree : Tree) (r : Result (List ℕ × Sort) LoadCode) (n : List ℕ × Sort)
    → suc k ≡ m → trees ≡ tree ∷ rest → Judges plain_name r (output_form f s (plain tree)) → numbered m r ≡ Ok n
    → after_condition k f s condition (plains trees) ≡ after_output m (record { format = f; signature = s; condition = condition; output = plain_name n; first = None }) (plains rest)
condition-next k m f s condition trees rest tree r n e are judged held =
    ap (λ (ts : List Tree). after_condition k f s condition (plains ts)) are
    ∙ ap (λ j. at j (output_form f s (plain tree)) >>= λ output. after_output j (record { format = f; signature = s; condition = condition; output = output; first = None }) (plains rest)) e
    ∙ passed plain_name r (output_form f s (plain tree)) m n (λ output. after_output m (record { format = f; signature = s; condition = condition; output = output; first = None }) (plains rest)) judged held

-- what the next of the forms after the output leads to
abbrev first_stage : ℕ → ℕ → Heading → Tree → List Tree → Bool → Loaded PlainProgram
first_stage k m h tree rest b =
    if b
    then (at m (first_form (plain tree)) >>= λ n. after_first m (with_first h n) (plains rest))
    else after_first k h (plains (tree ∷ rest))

first_staged : (k m : ℕ) (h : Heading) (trees rest : List Tree) (tree : Tree) (b : Bool) → suc k ≡ m → trees ≡ tree ∷ rest → is_first (plain tree) ≡ b
    → after_output k h (plains trees) ≡ first_stage k m h tree rest b
first_staged k m h trees rest tree b e are is =
    ap (λ (ts : List Tree). after_output k h (plains ts)) are
    ∙ ap (λ j. first_stage k j h tree rest (is_first (plain tree))) e
    ∙ ap (λ c. first_stage k m h tree rest c) is

pub first-next : (k m : ℕ) (h with_one : Heading) (trees rest : List Tree) (tree : Tree) (r : Result ℕ LoadCode) (n : ℕ)
    → suc k ≡ m → trees ≡ tree ∷ rest → is_first (plain tree) ≡ true → Judges (λ c. c) r (first_form (plain tree)) → numbered m r ≡ Ok n
    → with_one ≡ with_first h n
    → after_output k h (plains trees) ≡ after_first m with_one (plains rest)
first-next k m h with_one trees rest tree r n e are is judged held grown =
    first_staged k m h trees rest tree true e are is
    ∙ passed (λ c. c) r (first_form (plain tree)) m n (λ c. after_first m (with_first h c) (plains rest)) judged held
    ∙ ap (λ z. after_first m z (plains rest)) (sym grown)

-- what the next of the forms after inputs leads to
abbrev stage : ℕ → Format → PlainSignature → Tree → List Tree → Bool → Loaded PlainProgram
stage k f s tree rest b =
    if b
    then (at k (input_form f s (plain tree)) >>= λ n. after_inputs k f (with_input s n) (plains rest))
    else (at k (require_form f s (plain tree)) >>= λ condition. after_condition k f s condition (plains rest))

staged : (k m : ℕ) (f : Format) (s : PlainSignature) (trees rest : List Tree) (tree : Tree) (b : Bool) → suc k ≡ m → trees ≡ tree ∷ rest → is_input (plain tree) ≡ b
    → after_inputs k f s (plains trees) ≡ stage m f s tree rest b
staged k m f s trees rest tree b e are is =
    ap (λ (ts : List Tree). after_inputs k f s (plains ts)) are
    ∙ ap (λ j. stage j f s tree rest (is_input (plain tree))) e
    ∙ ap (λ c. stage m f s tree rest c) is

pub input-next : (k m : ℕ) (f : Format) (s with_one : PlainSignature) (trees rest : List Tree) (tree : Tree) (r : Result (List ℕ × Sort) LoadCode) (n : List ℕ × Sort)
    → suc k ≡ m → trees ≡ tree ∷ rest → is_input (plain tree) ≡ true → Judges plain_name r (input_form f s (plain tree)) → numbered m r ≡ Ok n
    → with_one ≡ with_input s (plain_name n)
    → after_inputs k f s (plains trees) ≡ after_inputs m f with_one (plains rest)
input-next k m f s with_one trees rest tree r n e are is judged held grown =
    staged k m f s trees rest tree true e are is
    ∙ passed plain_name r (input_form f s (plain tree)) m n (λ x. after_inputs m f (with_input s x) (plains rest)) judged held
    ∙ ap (λ z. after_inputs m f z (plains rest)) (sym grown)

pub require-next : (k m : ℕ) (f : Format) (s : PlainSignature) (trees rest : List Tree) (tree : Tree) (r : Result Term LoadCode) (t : Term)
    → suc k ≡ m → trees ≡ tree ∷ rest → is_input (plain tree) ≡ false → Judges plain_term r (require_form f s (plain tree)) → numbered m r ≡ Ok t
    → after_inputs k f s (plains trees) ≡ after_condition m f s (plain_term t) (plains rest)
require-next k m f s trees rest tree r t e are is judged held =
    staged k m f s trees rest tree false e are is
    ∙ passed plain_term r (require_form f s (plain tree)) m t (λ condition. after_condition m f s condition (plains rest)) judged held

-- where the next form begins as a definition does
abbrev picked : Bool → Plain → Plains → Option (Plain × Plains)
picked b t ts = if b then Some (t, ts) else None

split : (b : Bool) (t u : Plain) (ts us : Plains) → picked b t ts ≡ Some (u, us) → (b ≡ true) × (t ≡ u) × (ts ≡ us)
split true t u ts us e =
    let found : Plain × Plains = (t, ts) in
    let wanted : Plain × Plains = (u, us) in
    let one = same_some found wanted e in
    (refl, ap (λ (p : Plain × Plains). p.0) one, ap (λ (p : Plain × Plains). p.1) one)
split false t u ts us e = cc

stopped : (b : Bool) (t : Plain) (ts : Plains) → picked b t ts ≡ None → b ≡ false
stopped true t ts e = cc
stopped false t ts e = refl

-- it stands before one tree fewer
pub next-counts : (trees rest : List Tree) (t : Plain) → Some (t, plains rest) ≡ next_definition (plains trees) → length trees ≡ suc (length rest)
next-counts [] rest t e = cc
next-counts (u ∷ us) rest t e =
    let r = split (is_def (plain u)) (plain u) t (plains us) (plains rest) (sym e) in
    ap suc (sym (plains_length us) ∙ ap forest_len r.2 ∙ plains_length rest)

-- what the form that begins as a definition does leads to
abbrev step : ℕ → Format → List PlainDef → Plain → Plains → Bool → Loaded PlainProgram
step k f defs t ts b =
    if b
    then (at (suc k) (def_form f defs t) >>= λ d. after_definitions (suc k) f (defs ++ d ∷ []) ts)
    else after_inputs k f (defined defs) (more t ts)

def_staged : (k : ℕ) (f : Format) (defs : List PlainDef) (ts us : Plains) (t : Plain) → next_definition ts ≡ Some (t, us)
    → after_definitions k f defs ts ≡ (at (suc k) (def_form f defs t) >>= λ d. after_definitions (suc k) f (defs ++ d ∷ []) us)
def_staged k f defs none us t e = cc
def_staged k f defs (more u vs) us t e =
    let r = split (is_def u) u t vs us e in
    ap (λ b. step k f defs u vs b) r.0 ∙ ap (λ v. step k f defs v vs true) r.1 ∙ ap (λ ws. step k f defs t ws true) r.2

pub def-next : (k m : ℕ) (f : Format) (defs grown : List PlainDef) (trees rest : Plains) (tree : Tree) (r : Result Def LoadCode) (d : Def)
    → suc k ≡ m → Some (plain tree, rest) ≡ next_definition trees → Judges plain_def r (def_form f defs (plain tree)) → numbered m r ≡ Ok d
    → grown ≡ defs ++ plain_def d ∷ []
    → after_definitions k f defs trees ≡ after_definitions m f grown rest
def-next k m f defs grown trees rest tree r d e are judged held is =
    def_staged k f defs trees rest (plain tree) (sym are)
    ∙ ap (λ j. at j (def_form f defs (plain tree)) >>= λ x. after_definitions j f (defs ++ x ∷ []) rest) e
    ∙ passed plain_def r (def_form f defs (plain tree)) m d (λ x. after_definitions m f (defs ++ x ∷ []) rest) judged held
    ∙ ap (λ ds. after_definitions m f ds rest) (sym is)

-- a refusal of a form is one of the file
refusing : {Y B : Type 0} (m : ℕ) (c : LoadCode) (there : Result Y LoadCode) (f : Y → Loaded B) → CodeFails c there → Fails (fault_at m c) (fault_at m c).code (at m there >>= f)
refusing m code.Large there f e = ap (λ o. at m o >>= f) e
refusing m code.Read there f e = ap (λ o. at m o >>= f) e
refusing m code.Version there f e = ap (λ o. at m o >>= f) e
refusing m code.Form there f e = ap (λ o. at m o >>= f) e
refusing m code.Sort there f e = ap (λ o. at m o >>= f) e
refusing m code.Memory there f e = refl

judged_refused : {X Y B : Type 0} (view : X → Y) (m : ℕ) (r : Result X LoadCode) (there : Result Y LoadCode) (f : Y → Loaded B) (fault : LoadFault)
    → Judges view r there → numbered m r ≡ Err fault → Fails fault fault.code (at m there >>= f)
judged_refused view m (Ok x) there f fault judged held = cc
judged_refused view m (Err c) there f fault judged held =
    let same : fault_at m c ≡ fault = cc in
    subst (λ (z : LoadFault). Fails z z.code (at m there >>= f)) same (refusing m c there f judged)

-- a fault that is handed on
pub handed-on : (r : Result Program LoadFault) (fault : LoadFault) (whole : Loaded PlainProgram) → IsErrAnd r (λ e. e ≡ fault) → Fails fault fault.code whole → Loads plain_program r whole
handed-on (Ok p) fault whole h f = absurd h
handed-on (Err e) fault whole h f = subst (λ (z : LoadFault). Fails z z.code whole) (sym h) f

pub def-refused : (k m : ℕ) (f : Format) (defs : List PlainDef) (trees rest : Plains) (tree : Tree) (r : Result Def LoadCode) (fault : LoadFault) (whole : Loaded PlainProgram)
    → suc k ≡ m → Some (plain tree, rest) ≡ next_definition trees → Judges plain_def r (def_form f defs (plain tree)) → numbered m r ≡ Err fault
    → after_definitions k f defs trees ≡ whole → Fails fault fault.code whole
def-refused k m f defs trees rest tree r fault whole e are judged held told =
    let is = sym (def_staged k f defs trees rest (plain tree) (sym are) ∙ ap (λ j. at j (def_form f defs (plain tree)) >>= λ x. after_definitions j f (defs ++ x ∷ []) rest) e) ∙ told in
    subst (λ o. Fails fault fault.code o) is (judged_refused plain_def m r (def_form f defs (plain tree)) (λ x. after_definitions m f (defs ++ x ∷ []) rest) fault judged held)

-- where it does not, the inputs come
pub def-last : (k : ℕ) (f : Format) (defs : List PlainDef) (ts : Plains) → None ≡ next_definition ts → after_definitions k f defs ts ≡ after_inputs k f (defined defs) ts
def-last k f defs none e = refl
def-last k f defs (more t ts) e = ap (λ b. step k f defs t ts b) (stopped (is_def t) t ts (sym e))
