-- What is known before a form is known after it, where the form was not refused.
use Rattle.std.proofs.Common.{◌≡◌, ℕ, Bool, true, false, if◌then◌else◌, List, [], ◌∷◌, ◌++◌, Result, Ok, Err, sym, ap, ◌∙◌, subst, append-nil}
use Rattle.std.specs.Prelude.{nat_le, codes}
use Rattle.kid_sexp.specs.Plain.{Plain, Plains}
use Rattle.kid_value.specs.NameView.{plain_name}
use Rattle.kid_value.specs.PlainSort.{PlainSort}
use Rattle.kid_value.specs.declared.sort.Sort.{Sort}
use Rattle.kid_term.specs.DefView.{plain_def}
use Rattle.kid_term.specs.Names.{Names, PlainDef}
use Rattle.kid_term.specs.PlainLaw.{PlainLaw}
use Rattle.kid_term.specs.PlainTerm.{PlainTerm}
use Rattle.kid_term.specs.PlainTheory.{PlainTheory}
use Rattle.kid_term.specs.TermView.{plain_term}
use Rattle.kid_term.specs.declared.Term.{Term}
use Rattle.kid_term.specs.declared.definition.Def.{Def}
use Rattle.kid_kernel.specs.Held.{AreNames}
use Rattle.kid_theory.specs.Answers.{Judges, fault_at, placed, located}
use Rattle.kid_theory.specs.Before.{theory_before}
use Rattle.kid_theory.specs.ClaimView.{plain_claim}
use Rattle.kid_theory.specs.Forms.{definition_form, input_form, condition_form, judged_law, claim_form}
use Rattle.kid_theory.specs.Judged.{Judged}
use Rattle.kid_theory.specs.Known.{names_of, AreDeclared, IsKnown}
use Rattle.kid_theory.specs.Proof.{proof_names}
use Rattle.kid_theory.specs.Reading.{Front, front_of, with_claim}
use Rattle.kid_theory.specs.Taken.{Taken}
use Rattle.kid_theory.specs.declared.claims.Claim.{Claim}
use Rattle.kid_theory.specs.declared.fault.TheoryCode.{TheoryCode}
use Rattle.kid_theory.specs.declared.fault.TheoryCode.TheVariants as code
use Rattle.kid_theory.proofs.ClaimTold.{judged_ok, claim_told}
use Rattle.kid_theory.proofs.ClaimsHold.{proof_named}
use Rattle.kid_theory.proofs.DeclaredLemmas.{definition_declared, input_declared, condition_known}
use Rattle.kid_theory.proofs.FormKept.{condition_kept, definition_kept}
use Rattle.kid_theory.proofs.FormTold.{condition_told, input_told}
use Rattle.kid_theory.proofs.KnownLemmas.{claim_known}
use Rattle.kid_theory.proofs.TakenLemmas.{few_more}

-- what a form holds that was not refused
there_if : {X Y : Type 0} (b : Bool) (view : X → Y) (r : Result X TheoryCode) (there : Judged Y) (k : ℕ) (x : X) → Judges view r there
    → (if b then placed k r else Err (fault_at k code.Limit)) ≡ Ok x → there ≡ Ok (view x)
there_if true view (Ok y) there k x judged found = let same : y ≡ x = cc in judged ∙ ap (λ z. Ok (view z)) same
there_if true view (Err c) there k x judged found = cc
there_if false view r there k x judged found = cc

is_there : {X Y : Type 0} (view : X → Y) (r : Result X TheoryCode) (there : Judged Y) (k : ℕ) (x : X) → Judges view r there → located k r ≡ Ok x → there ≡ Ok (view x)
is_there view r there k x judged found = there_if (nat_le k 1024) view r there k x judged found

-- a law that was judged has names for its proof
pub judged_names : (t : PlainTheory) (taken variables : Taken) (g l : PlainLaw) (defs : List PlainDef) (inputs : Names) → IsKnown t taken variables → defs ≡ t.signature.definitions → inputs ≡ t.signature.inputs
    → judged_law defs inputs taken variables g ≡ Ok l → AreNames t (proof_names t l)
judged_names t taken variables g l defs inputs known e f p =
    let j = judged_ok t.signature.definitions t.signature.inputs taken variables g l ((λ i. judged_law (sym e i) (sym f i) taken variables g) ∙ p) in
    subst (λ h. AreNames t (proof_names t h)) j.same (proof_named t taken variables g known j.named j.sorted)

pub claim_after : (k : ℕ) (f g : Front) (tree : Plain) (r : Result Claim TheoryCode) (x : Claim) → IsKnown f.theory f.taken f.variables → Judges plain_claim r (claim_form f.theory f.taken f.variables tree)
    → located k r ≡ Ok x → g ≡ with_claim f (plain_claim x) → IsKnown g.theory g.taken g.variables
claim_after k f g tree r x known judged found is =
    let told = claim_told f.theory f.taken f.variables tree (plain_claim x) (is_there plain_claim r (claim_form f.theory f.taken f.variables tree) k x judged found) in
    subst (λ (h : Front). IsKnown h.theory h.taken h.variables) (sym is) (claim_known f.theory f.taken f.variables (plain_claim x) known told.named told.sorted told.wordless)

pub condition_after : (k : ℕ) (defs : List PlainDef) (inputs : Names) (taken : Taken) (t : PlainTheory) (tree : Plain) (r : Result Term TheoryCode) (x : Term) → AreDeclared defs inputs taken
    → Judges plain_term r (condition_form (codes "require") defs inputs tree) → located k r ≡ Ok x → t ≡ theory_before defs inputs (plain_term x) → IsKnown t taken []
condition_after k defs inputs taken t tree r x declared judged found is =
    let e = is_there plain_term r (condition_form (codes "require") defs inputs tree) k x judged found in
    let told = condition_told (codes "require") defs inputs tree (plain_term x) e in
    subst (λ u. IsKnown u taken []) (sym is) (condition_known defs inputs taken (plain_term x) declared told.0 (condition_kept (codes "require") defs inputs tree (plain_term x) e))

pub input_after : (k : ℕ) (defs : List PlainDef) (inputs more : Names) (taken now : Taken) (tree : Plain) (r : Result (List ℕ × Sort) TheoryCode) (x : List ℕ × Sort) → AreDeclared defs inputs taken
    → Judges plain_name r (input_form inputs taken tree) → located k r ≡ Ok x → more ≡ inputs ++ plain_name x ∷ [] → now ≡ taken ++ x.0 ∷ [] → AreDeclared defs more now
input_after k defs inputs more taken now tree r x declared judged found grown named =
    let n : List ℕ × PlainSort = plain_name x in
    let told = input_told inputs taken tree n (is_there plain_name r (input_form inputs taken tree) k x judged found) in
    let after = input_declared defs inputs taken n declared (few_more inputs n told.0) told.1.free told.1.allowed in
    subst (λ ns. AreDeclared defs more ns) (sym named) (subst (λ ms. AreDeclared defs ms (taken ++ n.0 ∷ [])) (sym grown) after)

pub definition_after : (k : ℕ) (defs more : List PlainDef) (taken now : Taken) (later : Plains) (tree : Plain) (r : Result Def TheoryCode) (x : Def) → AreDeclared defs [] taken
    → Judges plain_def r (definition_form defs taken later tree) → located k r ≡ Ok x → more ≡ defs ++ plain_def x ∷ [] → now ≡ taken ++ x.name ∷ [] → AreDeclared more [] now
definition_after k defs more taken now later tree r x declared judged found grown named =
    let d : PlainDef = plain_def x in
    let names : taken ≡ names_of defs = declared.names ∙ append-nil (names_of defs) in
    let e = ap (λ (ns : Taken). definition_form defs ns later tree) (sym names) ∙ is_there plain_def r (definition_form defs taken later tree) k x judged found in
    let kept = definition_kept defs later tree d e in
    let after = definition_declared defs taken later d declared kept.0 kept.1 in
    subst (λ ns. AreDeclared more [] ns) (sym named) (subst (λ ds. AreDeclared ds [] (taken ++ d.name ∷ [])) (sym grown) after)

-- the forms before any law, made of the theory that they give
pub front_made : (f : Front) (title : List ℕ) (t : PlainTheory) (taken : Taken) (defs : List PlainDef) (inputs : Names) (c : PlainTerm) → f ≡ record { title = title; theory = t; claims = []; taken = taken; variables = [] }
    → t ≡ theory_before defs inputs c → f ≡ front_of title defs inputs taken c
front_made f title t taken defs inputs c e is = e ∙ (λ i. record { title = title; theory = is i; claims = []; taken = taken; variables = [] })

pub front_known : (f : Front) (title : List ℕ) (t : PlainTheory) (taken : Taken) → f ≡ record { title = title; theory = t; claims = []; taken = taken; variables = [] } → IsKnown t taken [] → IsKnown f.theory f.taken f.variables
front_known f title t taken e known = subst (λ (g : Front). IsKnown g.theory g.taken g.variables) (sym e) known
