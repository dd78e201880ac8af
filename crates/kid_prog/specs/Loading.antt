-- The program that a file spells, or the first form that is refused.
use Rattle.std.specs.Prelude.{◌≡◌, ℕ, suc, nat_le, List, [], ◌∷◌, ◌++◌, length, Option, Some, None, Result, Ok, Err, if◌then◌else◌}
use Rattle.kid_sexp.specs.Plain.{Plain, Plains, none, more}
use Rattle.kid_sexp.specs.Brackets.{Fault}
use Rattle.kid_sexp.specs.Reading.{reading}
use Rattle.kid_value.specs.PlainSort.{PlainSort}
use Rattle.kid_term.specs.PlainTerm.{PlainTerm}
use Rattle.kid_term.specs.Names.{Names, PlainDef}
use Rattle.kid_term.specs.PlainSignature.{PlainSignature}
use Rattle.kid_prog.specs.PlainStmt.{PlainStmts}
use Rattle.kid_prog.specs.PlainProgram.{PlainProgram}
use Rattle.kid_prog.specs.Forms.{version_form, is_def, def_form, is_input, input_form, require_form, output_form, is_first, first_form, known_parameters, main_form, search_form}
use Rattle.kid_prog.specs.declared.fault.LoadCode.{LoadCode}
use Rattle.kid_prog.specs.declared.fault.LoadCode.TheVariants as code
use Rattle.kid_prog.specs.declared.fault.LoadFault.{LoadFault}
use Rattle.kid_prog.specs.declared.format.Format.{Format}
pub use Rattle.kid_term.specs.Chain.{◌>>=◌}

abbrev pub Loaded : Type 0 → Type 0
Loaded A = Result A LoadFault

abbrev pub refused : {A : Type 0} → ℕ → LoadCode → Loaded A
refused k c = Err (record { form = k; code = c })

-- what the form with this number holds
abbrev pub at : {A : Type 0} → ℕ → Result A LoadCode → Loaded A
at k (Ok x) = Ok x
at k (Err c) = refused k c

-- what the forms before main hold
pub record Heading : Type 0 where
  pub format : Format
  pub signature : PlainSignature
  pub condition : PlainTerm
  pub output : List ℕ × PlainSort
  pub first : Option ℕ

abbrev pub program_with : Heading → PlainStmts → Names × PlainStmts → PlainProgram
program_with h main search = record {
  definitions = h.signature.definitions;
  inputs = h.signature.inputs;
  condition = h.condition;
  output = h.output.0;
  sort = h.output.1;
  first = h.first;
  main = main;
  parameters = search.0;
  search = search.1;
}

-- Of each of the following the number is that of the forms before, and the format that of the file.

-- no form stands after the last
abbrev pub at_end : ℕ → PlainProgram → Plains → Loaded PlainProgram
at_end k p none = Ok p
at_end k p (more t ts) = refused (suc k) code.Form

abbrev pub after_main : ℕ → Heading → PlainStmts → Plains → Loaded PlainProgram
after_main k h main none = refused (suc k) code.Form
after_main k h main (more t ts) =
    at (suc k) (search_form h.format h.signature h.output t) >>= λ search. at_end (suc k) (program_with h main search) ts

abbrev pub after_first : ℕ → Heading → Plains → Loaded PlainProgram
after_first k h none = refused (suc k) code.Form
after_first k h (more t ts) =
    at (suc k) (main_form h.format h.signature h.output.1 (known_parameters h.format h.signature h.output ts) t)
    >>= λ main. after_main (suc k) h main ts

-- the heading with so many values wanted
abbrev pub with_first : Heading → ℕ → Heading
with_first h n = record h { first = Some n }

abbrev pub after_output : ℕ → Heading → Plains → Loaded PlainProgram
after_output k h none = refused (suc k) code.Form
after_output k h (more t ts) =
    if is_first t
    then (at (suc k) (first_form t) >>= λ n. after_first (suc k) (with_first h n) ts)
    else after_first k h (more t ts)

abbrev pub after_condition : ℕ → Format → PlainSignature → PlainTerm → Plains → Loaded PlainProgram
after_condition k f s condition none = refused (suc k) code.Form
after_condition k f s condition (more t ts) =
    at (suc k) (output_form f s t)
    >>= λ output. after_output (suc k) (record { format = f; signature = s; condition = condition; output = output; first = None }) ts

-- the signature with one more input
abbrev pub with_input : PlainSignature → List ℕ × PlainSort → PlainSignature
with_input s n = record s { inputs = s.inputs ++ n ∷ [] }

-- after these definitions and inputs
abbrev pub after_inputs : ℕ → Format → PlainSignature → Plains → Loaded PlainProgram
after_inputs k f s none = refused (suc k) code.Form
after_inputs k f s (more t ts) =
    if is_input t
    then (at (suc k) (input_form f s t) >>= λ n. after_inputs (suc k) f (with_input s n) ts)
    else (at (suc k) (require_form f s t) >>= λ condition. after_condition (suc k) f s condition ts)

-- definitions and no inputs
abbrev pub defined : List PlainDef → PlainSignature
defined defs = record { definitions = defs; inputs = [] }

-- the first form and those after it, where it begins as a definition does
abbrev pub next_definition : Plains → Option (Plain × Plains)
next_definition none = None
next_definition (more t ts) = if is_def t then Some (t, ts) else None

-- after these definitions
abbrev pub after_definitions : ℕ → Format → List PlainDef → Plains → Loaded PlainProgram
after_definitions k f defs none = refused (suc k) code.Form
after_definitions k f defs (more t ts) =
    if is_def t
    then (at (suc k) (def_form f defs t) >>= λ d. after_definitions (suc k) f (defs ++ d ∷ []) ts)
    else after_inputs k f (defined defs) (more t ts)

-- the forms of a program
abbrev pub program_from : Plains → Loaded PlainProgram
program_from none = refused 1 code.Form
program_from (more t ts) = at 1 (version_form t) >>= λ f. after_definitions 1 f [] ts

abbrev pub from_forest : Result Plains Fault → Loaded PlainProgram
from_forest (Err fault) = refused 0 code.Read
from_forest (Ok ts) = program_from ts

-- the program that a file of at most 4,194,304 bytes spells
abbrev pub loading : List ℕ → Loaded PlainProgram
loading bytes = if nat_le (length bytes) 4194304 then from_forest (reading bytes) else refused 0 code.Large

-- want of memory is no form's, and says nothing else
abbrev pub Fails : {A : Type 0} → LoadFault → LoadCode → Loaded A → Type 0
Fails fault code.Memory there = fault.form ≡ 0
Fails fault c there = there ≡ Err fault

-- the answer is what there is, or the fault
abbrev pub Loads : {X Y : Type 0} → (X → Y) → Result X LoadFault → Loaded Y → Type 0
Loads view (Ok x) there = there ≡ Ok (view x)
Loads view (Err fault) there = Fails fault fault.code there
