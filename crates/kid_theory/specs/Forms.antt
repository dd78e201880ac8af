-- The forms of a theory: what each holds by its shape, and the rules that it meets, in the order in which they are tested.
use Rattle.std.specs.Prelude.{ℕ, nat_lt, ℤ, pos, int_le, Bool, not, ◌&&◌, ◌||◌, List, [], ◌∷◌, ◌++◌, length, Ok, if◌then◌else◌, codes}
use Rattle.kid_sexp.specs.Plain.{Plain, Plains}
use Rattle.kid_value.specs.PlainSort.{PlainSort}
use Rattle.kid_value.specs.Rows.Kinds.{natural}
use Rattle.kid_value.specs.SortLimits.{is_allowed}
use Rattle.kid_term.specs.PlainTerm.{PlainTerm}
use Rattle.kid_term.specs.Names.{Names, PlainDef}
use Rattle.kid_term.specs.Sorting.{sort_of}
use Rattle.kid_sorting.specs.Declaring.{is_truth, is_sorted_definition, is_shallow}
use Rattle.kid_codec.specs.Name.{is_name}
pub use Rattle.kid_codec.specs.Shape.{begins}
use Rattle.kid_term.specs.PlainLaw.{PlainLaw}
use Rattle.kid_term.specs.PlainTheory.{PlainTheory}
use Rattle.kid_moves.specs.PlainRule.{PlainMove}
use Rattle.kid_kernel.specs.SortedLaw.{is_sorted_law}
use Rattle.kid_theory.specs.Claims.{PlainClaim, assumed, proved}
use Rattle.kid_theory.specs.Judged.{Judged, ◌>>=◌, shaped, tested}
use Rattle.kid_theory.specs.Proof.{is_proved}
use Rattle.kid_theory.specs.Taken.{Taken, is_free, are_free}
use Rattle.kid_theory.specs.Ahead.{calls_ahead}
use Rattle.kid_theory.specs.Shapes.{lone_word, lone_number, lone_term, declared_form, definition_shape, axiom_shape, law_shape}
use Rattle.kid_theory.specs.declared.fault.TheoryCode.TheVariants as code

-- ---- (theory NAME)

abbrev pub title_form : Plain → Judged (List ℕ)
title_form t = shaped (lone_word (codes "theory") t) >>= λ w. tested (is_name w) code.Name (Ok w)

-- ---- (def NAME ((NAME SORT) ..) SORT TERM), after these definitions and before the other forms

abbrev pub judged_definition : List PlainDef → Taken → Plains → PlainDef → Judged PlainDef
judged_definition defs taken later d =
    tested (is_shallow defs d) code.Limit
    (tested (is_free taken d.name && are_free [] d.parameters) code.Name
    (tested (not (calls_ahead d.name later d.body)) code.Cycle
    (tested (is_sorted_definition defs d) code.Sort (Ok d))))

abbrev pub definition_form : List PlainDef → Taken → Plains → Plain → Judged PlainDef
definition_form defs taken later t = shaped (definition_shape t) >>= judged_definition defs taken later

-- ---- (input NAME SORT), after these inputs, and (output NAME SORT)

abbrev pub judged_name : Taken → List ℕ × PlainSort → Judged (List ℕ × PlainSort)
judged_name taken n = tested (is_free taken n.0) code.Name (tested (is_allowed n.1) code.Sort (Ok n))

abbrev pub input_form : Names → Taken → Plain → Judged (List ℕ × PlainSort)
input_form inputs taken t = tested (nat_lt (length inputs) 16) code.Limit (shaped (declared_form (codes "input") t) >>= judged_name taken)

abbrev pub output_form : Taken → Plain → Judged (List ℕ × PlainSort)
output_form taken t = shaped (declared_form (codes "output") t) >>= judged_name taken

-- ---- (require TERM) and (ensure TERM) over names

abbrev pub condition_form : List ℕ → List PlainDef → Names → Plain → Judged PlainTerm
condition_form word defs names t =
    shaped (lone_term word t) >>= λ c. tested (is_truth (sort_of defs names c)) code.Sort (Ok c)

-- ---- (first NUMBER), from 1 to 1,000,000

abbrev pub counted : ℤ → Judged ℕ
counted n = tested (int_le (pos 1) n && int_le n (pos 1000000)) code.Form (Ok (natural n))

abbrev pub first_form : Plain → Judged ℕ
first_form t = shaped (lone_number (codes "first") t) >>= counted

-- ---- (axiom NAME ((NAME SORT) ..) (given TERM ..) CONCLUSION)

-- the name differs from all names before and from the variables of the laws before, the variables from all names and from it
abbrev pub is_named_law : Taken → Taken → PlainLaw → Bool
is_named_law taken variables l = is_free (taken ++ variables) l.name && are_free (taken ++ l.name ∷ []) l.variables

abbrev pub judged_law : List PlainDef → Names → Taken → Taken → PlainLaw → Judged PlainLaw
judged_law defs inputs taken variables l =
    tested (is_named_law taken variables l) code.Name (tested (is_sorted_law defs inputs l) code.Sort (Ok l))

abbrev pub axiom_form : List PlainDef → Names → Taken → Taken → Plain → Judged PlainLaw
axiom_form defs inputs taken variables t = shaped (axiom_shape t) >>= judged_law defs inputs taken variables

-- ---- (law NAME ((NAME SORT) ..) (given TERM ..) CONCLUSION (by MOVE ..)), over the theory of the forms before

abbrev pub proved_by : PlainTheory → List PlainMove → PlainLaw → Judged PlainClaim
proved_by t moves l = tested (is_proved t l moves) code.Proof (Ok (proved l moves))

abbrev pub judged_proof : PlainTheory → Taken → Taken → PlainLaw × List PlainMove → Judged PlainClaim
judged_proof t taken variables p = judged_law t.signature.definitions t.signature.inputs taken variables p.0 >>= proved_by t p.1

abbrev pub law_form : PlainTheory → Taken → Taken → Plain → Judged PlainClaim
law_form t taken variables tree = shaped (law_shape tree) >>= judged_proof t taken variables

-- ---- either of them

abbrev pub is_claim : Plain → Bool
is_claim tree = begins (codes "axiom") tree || begins (codes "law") tree

abbrev pub assumed_form : PlainTheory → Taken → Taken → Plain → Judged PlainClaim
assumed_form t taken variables tree = axiom_form t.signature.definitions t.signature.inputs taken variables tree >>= λ l. Ok (assumed l)

abbrev pub claim_form : PlainTheory → Taken → Taken → Plain → Judged PlainClaim
claim_form t taken variables tree = if begins (codes "axiom") tree then assumed_form t taken variables tree else law_form t taken variables tree
