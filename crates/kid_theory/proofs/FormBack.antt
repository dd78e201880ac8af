-- The form of what keeps the rules is not refused.
use Rattle.std.proofs.Common.{◌≡◌, ℕ, ℤ, Bool, true, List, [], length, Option, Ok, refl, ap, ◌∙◌, arith}
use Rattle.std.specs.Prelude.{pos, negsuc, int_le, nat_le, nat_lt, not, ◌&&◌, codes}
use Rattle.std.specs.List.{list_all}
use Rattle.std.proofs.lemmas.Bool.Decides.{nat_tests}
use Rattle.kid_sexp.specs.Plain.{Plains, atom, one}
use Rattle.kid_value.specs.PlainSort.{PlainSort}
use Rattle.kid_value.specs.SortLimits.{in_limits, is_allowed}
use Rattle.kid_value.proofs.SortLemmas.{and_parts, and_both}
use Rattle.kid_term.specs.Names.{Names, PlainDef}
use Rattle.kid_term.specs.PlainSpec.{is_count}
use Rattle.kid_term.specs.PlainTerm.{PlainTerm}
use Rattle.kid_term.specs.Sorting.{sort_of}
use Rattle.kid_sorting.specs.Declaring.{is_truth, is_sorted_definition, is_shallow}
use Rattle.kid_codec.specs.DeclaredSpelling.{named_spelling, definition_spelling, is_spelled_name, is_spelled_definition}
use Rattle.kid_codec.specs.Name.{is_name}
use Rattle.kid_codec.specs.SortSpelling.{headed}
use Rattle.kid_codec.specs.TermSpelling.{term_spelling, is_spelled_term}
use Rattle.kid_codec.proofs.Numbers.{number_of-decimal}
use Rattle.kid_term.specs.PlainLaw.{PlainLaw}
use Rattle.kid_term.specs.PlainTheory.{PlainTheory}
use Rattle.kid_moves.specs.PlainRule.{PlainMove}
use Rattle.kid_lines.specs.LineSpelling.{is_spelled_move}
use Rattle.kid_kernel.specs.SortedLaw.{is_sorted_law}
use Rattle.kid_kernel.specs.Wordless.{is_wordless, is_wordless_definition, is_wordless_law}
use Rattle.kid_theory.specs.Ahead.{calls_ahead}
use Rattle.kid_theory.specs.Formed.{is_formed_definition, is_spelled_law, is_spelled_claim}
use Rattle.kid_theory.specs.Before.{is_shown}
use Rattle.kid_theory.specs.Claims.{PlainClaim, assumed, proved, law_of}
use Rattle.kid_theory.specs.Forms.{title_form, judged_definition, definition_form, judged_name, input_form, output_form, condition_form, counted, first_form, is_named_law, judged_law, proved_by, judged_proof, claim_form}
use Rattle.kid_theory.specs.Known.{names_of}
use Rattle.kid_theory.specs.Judged.{Judged, ◌>>=◌, shaped, tested}
use Rattle.kid_theory.specs.Shapes.{declared_form}
use Rattle.kid_theory.specs.Spelling.{claim_spelling, first_spelling}
use Rattle.kid_theory.specs.Taken.{Taken, is_free, are_free}
use Rattle.kid_theory.specs.declared.fault.TheoryCode.TheVariants as code
use Rattle.kid_theory.proofs.Passed.{found}
use Rattle.kid_theory.proofs.ShapeBack.{lone_term_shaped, declared_shaped, definition_shaped, assumed_shaped, proved_shaped}

pub title_passed : (name : List ℕ) → is_name name ≡ true → title_form (headed (codes "theory") (one (atom name))) ≡ Ok name
title_passed name named = ap (λ (b : Bool). tested b code.Name (found name)) named

pub condition_passed : (word : List ℕ) (defs : List PlainDef) (names : Names) (c : PlainTerm) → is_spelled_term c ≡ true → is_wordless c ≡ true → is_truth (sort_of defs names c) ≡ true
    → condition_form word defs names (headed word (one (term_spelling c))) ≡ Ok c
condition_passed word defs names c spelled wordless truth =
    ap (λ (o : Option PlainTerm). shaped o >>= λ d. tested (is_truth (sort_of defs names d)) code.Sort (found d)) (lone_term_shaped word c spelled wordless)
    ∙ ap (λ (b : Bool). tested b code.Sort (found c)) truth

count_small : (n : ℕ) → is_count n ≡ true → in_limits (pos n) ≡ true
count_small n h =
    let r = and_parts (nat_le 1 n) (nat_le n 1000000) h in
    and_both (int_le (negsuc 4611686018427387903) (pos n)) (int_le (pos n) (pos 4611686018427387904)) refl (grind (arith, nat_tests))

pub first_passed : (n : ℕ) → is_count n ≡ true → first_form (first_spelling n) ≡ Ok n
first_passed n h =
    ap (λ (o : Option ℤ). shaped o >>= counted) (number_of-decimal (pos n) (count_small n h)) ∙ ap (λ (b : Bool). tested b code.Form (found n)) h

name_passed : (taken : Taken) (n : List ℕ × PlainSort) → is_free taken n.0 ≡ true → is_allowed n.1 ≡ true → judged_name taken n ≡ Ok n
name_passed taken n free allowed = λ i. tested (free i) code.Name (tested (allowed i) code.Sort (found n))

pub output_passed : (taken : Taken) (n : List ℕ × PlainSort) → is_spelled_name n ≡ true → is_free taken n.0 ≡ true → is_allowed n.1 ≡ true
    → output_form taken (headed (codes "output") (named_spelling n)) ≡ Ok n
output_passed taken n spelled free allowed =
    ap (λ (o : Option (List ℕ × PlainSort)). shaped o >>= judged_name taken) (declared_shaped (codes "output") n spelled) ∙ name_passed taken n free allowed

pub input_passed : (inputs : Names) (taken : Taken) (n : List ℕ × PlainSort) → nat_lt (length inputs) 16 ≡ true → is_spelled_name n ≡ true → is_free taken n.0 ≡ true → is_allowed n.1 ≡ true
    → input_form inputs taken (headed (codes "input") (named_spelling n)) ≡ Ok n
input_passed inputs taken n few spelled free allowed =
    ap (λ (b : Bool). tested b code.Limit (shaped (declared_form (codes "input") (headed (codes "input") (named_spelling n))) >>= judged_name taken)) few
    ∙ ap (λ (o : Option (List ℕ × PlainSort)). shaped o >>= judged_name taken) (declared_shaped (codes "input") n spelled) ∙ name_passed taken n free allowed

pub definition_passed : (before : List PlainDef) (later : Plains) (d : PlainDef) → is_spelled_definition d ≡ true → is_wordless_definition d ≡ true → is_formed_definition before later d ≡ true
    → definition_form before (names_of before) later (definition_spelling d) ≡ Ok d
definition_passed before later d spelled wordless formed =
    let a = and_parts (is_shallow before d && is_free (names_of before) d.name && are_free [] d.parameters && not (calls_ahead d.name later d.body)) (is_sorted_definition before d) formed in
    let b = and_parts (is_shallow before d && is_free (names_of before) d.name && are_free [] d.parameters) (not (calls_ahead d.name later d.body)) a.0 in
    let c = and_parts (is_shallow before d && is_free (names_of before) d.name) (are_free [] d.parameters) b.0 in
    let e = and_parts (is_shallow before d) (is_free (names_of before) d.name) c.0 in
    let shallow = e.0 in
    let free = and_both (is_free (names_of before) d.name) (are_free [] d.parameters) e.1 c.1 in
    let behind = b.1 in
    let sorted = a.1 in
    ap (λ (o : Option PlainDef). shaped o >>= judged_definition before (names_of before) later) (definition_shaped d spelled wordless)
    ∙ (λ i. tested (shallow i) code.Limit (tested (free i) code.Name (tested (behind i) code.Cycle (tested (sorted i) code.Sort (found d)))))

-- ---- laws and axioms

law_passed : (defs : List PlainDef) (inputs : Names) (taken variables : Taken) (a : PlainLaw) → is_named_law taken variables a ≡ true → is_sorted_law defs inputs a ≡ true
    → judged_law defs inputs taken variables a ≡ Ok a
law_passed defs inputs taken variables a named sorted = λ i. tested (named i) code.Name (tested (sorted i) code.Sort (found a))

pub claim_passed : (t : PlainTheory) (taken variables : Taken) (c : PlainClaim) → is_spelled_claim c ≡ true → is_wordless_law (law_of c) ≡ true → is_named_law taken variables (law_of c) ≡ true
    → is_sorted_law t.signature.definitions t.signature.inputs (law_of c) ≡ true → is_shown t c ≡ true → claim_form t taken variables (claim_spelling c) ≡ Ok c
claim_passed t taken variables (assumed a) spelled wordless named sorted shown =
    let judged : PlainLaw → Judged PlainLaw = judged_law t.signature.definitions t.signature.inputs taken variables in
    ap (λ (o : Option PlainLaw). (shaped o >>= judged) >>= λ l. found (assumed l)) (assumed_shaped a spelled wordless)
    ∙ ap (λ (r : Judged PlainLaw). r >>= λ l. found (assumed l)) (law_passed t.signature.definitions t.signature.inputs taken variables a named sorted)
claim_passed t taken variables (proved a moves) spelled wordless named sorted shown =
    let own = and_parts (is_spelled_law a) (list_all is_spelled_move moves) spelled in
    ap (λ (o : Option (PlainLaw × List PlainMove)). shaped o >>= judged_proof t taken variables) (proved_shaped a moves own.0 own.1 wordless)
    ∙ ap (λ (r : Judged PlainLaw). r >>= proved_by t moves) (law_passed t.signature.definitions t.signature.inputs taken variables a named sorted)
    ∙ ap (λ (b : Bool). tested b code.Proof (found (proved a moves))) shown
