-- The theory file that bytes spell, or the first form that is refused.
use Rattle.std.specs.Prelude.{ℕ, suc, nat_le, List, [], ◌∷◌, ◌++◌, Some, None, Result, Ok, Err, if◌then◌else◌, length, codes}
use Rattle.kid_sexp.specs.Plain.{Plains, none, more}
use Rattle.kid_sexp.specs.Brackets.{Fault}
use Rattle.kid_sexp.specs.Reading.{reading}
use Rattle.kid_value.specs.PlainSort.{PlainSort}
use Rattle.kid_term.specs.PlainTerm.{PlainTerm}
use Rattle.kid_term.specs.Names.{Names, PlainDef}
use Rattle.kid_term.specs.PlainTheory.{PlainTheory}
use Rattle.kid_kernel.specs.Differ.{words_of}
use Rattle.kid_theory.specs.Judged.{Judged}
use Rattle.kid_theory.specs.PlainFile.{PlainFile, theory_of}
use Rattle.kid_theory.specs.Taken.{Taken}
use Rattle.kid_theory.specs.Before.{theory_before, with_claim as with_law}
use Rattle.kid_theory.specs.Claims.{PlainClaim, law_of}
use Rattle.kid_theory.specs.Forms.{begins, title_form, definition_form, input_form, output_form, condition_form, first_form, is_claim, claim_form}
use Rattle.kid_theory.specs.declared.fault.TheoryCode.{TheoryCode}
use Rattle.kid_theory.specs.declared.fault.TheoryCode.TheVariants as code
use Rattle.kid_theory.specs.declared.fault.TheoryFault.{TheoryFault}
pub use Rattle.kid_term.specs.Chain.{◌>>=◌}

abbrev pub Read : Type 0 → Type 0
Read A = Result A TheoryFault

abbrev pub refused : {A : Type 0} → ℕ → TheoryCode → Read A
refused k c = Err (record { form = k; code = c })

abbrev pub numbered : {A : Type 0} → ℕ → Judged A → Read A
numbered k (Ok x) = Ok x
numbered k (Err c) = refused k c

-- what the form with this number holds, of which there are at most 1024
abbrev pub at : {A : Type 0} → ℕ → Judged A → Read A
at k form = if nat_le k 1024 then numbered k form else refused k code.Limit

-- What the forms before hold: the title, the theory so far, its laws and axioms in their order, the names that are declared, and the variables.
pub record Front : Type 0 where
  pub title : List ℕ
  pub theory : PlainTheory
  pub claims : List PlainClaim
  pub taken : Taken
  pub variables : Taken

abbrev pub with_claim : Front → PlainClaim → Front
with_claim f c =
    record f {
      theory = with_law f.theory c;
      claims = f.claims ++ c ∷ [];
      taken = f.taken ++ (law_of c).name ∷ [];
      variables = f.variables ++ words_of (law_of c).variables;
    }

abbrev pub file_with : Front → List ℕ × PlainSort → PlainTerm → PlainFile
file_with f output relation = record {
  title = f.title;
  definitions = f.theory.signature.definitions;
  inputs = f.theory.signature.inputs;
  condition = f.theory.spec.condition;
  claims = f.claims;
  output = output.0;
  sort = output.1;
  relation = relation;
  first = None;
}

-- Of each of the following the number is that of the forms before.

-- no form stands after the last
abbrev pub at_end : ℕ → PlainFile → Plains → Read PlainFile
at_end k f none = Ok f
at_end k f (more u us) = at (suc k) (Err code.Form)

-- the file with so many answers wanted
abbrev pub with_first : PlainFile → ℕ → PlainFile
with_first f n = record f { first = Some n }

abbrev pub after_relation : ℕ → PlainFile → Plains → Read PlainFile
after_relation k f none = Ok f
after_relation k f (more u us) = at (suc k) (first_form u) >>= λ n. at_end (suc k) (with_first f n) us

abbrev pub after_output : ℕ → Front → List ℕ × PlainSort → Plains → Read PlainFile
after_output k f output none = refused (suc k) code.Form
after_output k f output (more t ts) =
    at (suc k) (condition_form (codes "ensure") f.theory.signature.definitions (f.theory.signature.inputs ++ output ∷ []) t)
    >>= λ relation. after_relation (suc k) (file_with f output relation) ts

abbrev pub after_condition : ℕ → Front → Plains → Read PlainFile
after_condition k f none = refused (suc k) code.Form
after_condition k f (more t ts) =
    if is_claim t
    then (at (suc k) (claim_form f.theory f.taken f.variables t) >>= λ c. after_condition (suc k) (with_claim f c) ts)
    else (at (suc k) (output_form (f.taken ++ f.variables) t) >>= λ output. after_output (suc k) f output ts)

abbrev pub front_of : List ℕ → List PlainDef → Names → Taken → PlainTerm → Front
front_of title defs inputs taken condition =
    record { title = title; theory = theory_before defs inputs condition; claims = []; taken = taken; variables = [] }

-- after the title, and definitions and inputs with these names
abbrev pub after_inputs : ℕ → List ℕ → List PlainDef → Names → Taken → Plains → Read PlainFile
after_inputs k title defs inputs taken none = refused (suc k) code.Form
after_inputs k title defs inputs taken (more t ts) =
    if begins (codes "input") t
    then (at (suc k) (input_form inputs taken t) >>= λ n. after_inputs (suc k) title defs (inputs ++ n ∷ []) (taken ++ n.0 ∷ []) ts)
    else (at (suc k) (condition_form (codes "require") defs inputs t)
    >>= λ condition. after_condition (suc k) (front_of title defs inputs taken condition) ts)

-- after the title, and definitions with these names
abbrev pub after_definitions : ℕ → List ℕ → List PlainDef → Taken → Plains → Read PlainFile
after_definitions k title defs taken none = refused (suc k) code.Form
after_definitions k title defs taken (more t ts) =
    if begins (codes "def") t
    then (at (suc k) (definition_form defs taken ts t) >>= λ d. after_definitions (suc k) title (defs ++ d ∷ []) (taken ++ d.name ∷ []) ts)
    else after_inputs k title defs [] taken (more t ts)

-- the forms of a theory file
abbrev pub file_from : Plains → Read PlainFile
file_from none = refused 1 code.Form
file_from (more t ts) = at 1 (title_form t) >>= λ title. after_definitions 1 title [] [] ts

abbrev pub from_forest : Result Plains Fault → Read PlainFile
from_forest (Err fault) = refused 0 code.Read
from_forest (Ok ts) = file_from ts

-- the theory file that at most 4,194,304 bytes spell
abbrev pub file_reading : List ℕ → Read PlainFile
file_reading bytes = if nat_le (length bytes) 4194304 then from_forest (reading bytes) else refused 0 code.Large

abbrev pub theory_found : Read PlainFile → Read PlainTheory
theory_found r = r >>= λ f. Ok (theory_of f)

-- the theory of the file
abbrev pub theory_reading : List ℕ → Read PlainTheory
theory_reading bytes = theory_found (file_reading bytes)
