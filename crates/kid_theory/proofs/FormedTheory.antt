-- What a theory file that keeps the rules gives is a theory, whose laws hold.
use Rattle.std.proofs.Common.{◌≡◌, ◌≤◌, ℕ, Bool, true, List, [], ◌∷◌, ◌++◌, ◌+◌, length, refl, sym, ◌∙◌, subst, append_assoc, append-nil, arith}
use Rattle.std.specs.Prelude.{◌&&◌}
use Rattle.std.specs.List.{list_all}
use Rattle.std.proofs.lemmas.List.{length-append}
use Rattle.kid_sexp.specs.Plain.{Plains}
use Rattle.kid_value.specs.PlainSort.{PlainSort}
use Rattle.kid_value.specs.SortLimits.{is_allowed}
use Rattle.kid_value.proofs.SortLemmas.{and_parts, and_both}
use Rattle.kid_term.specs.Names.{Names, PlainDef}
use Rattle.kid_term.specs.PlainLaw.{PlainLaw}
use Rattle.kid_term.specs.PlainTheory.{PlainTheory}
use Rattle.kid_term.specs.Sorting.{sort_of}
use Rattle.kid_sorting.specs.Declaring.{are_allowed}
use Rattle.kid_codec.specs.DeclaredSpelling.{definitions_before, is_spelled_name, is_spelled_definition}
use Rattle.kid_codec.specs.TermSpelling.{is_spelled_term}
use Rattle.kid_kernel.specs.Differ.{words_of}
use Rattle.kid_kernel.specs.Held.{LawsHold}
use Rattle.kid_kernel.specs.IsTheory.{IsTheory}
use Rattle.kid_kernel.specs.SortedLaw.{is_sorted_law}
use Rattle.kid_kernel.specs.Wordless.{is_wordless_definition, is_wordless_law}
use Rattle.kid_lines.specs.LineSpelling.{is_spelled_move}
use Rattle.kid_theory.specs.Before.{theory_before, with_claim, is_shown, are_shown}
use Rattle.kid_theory.specs.Claims.{PlainClaim, assumed, proved, law_of, claimed, proved_among, assumed_among}
use Rattle.kid_theory.specs.Formed.{is_spelled_law, is_spelled_claim, is_formed_definition, are_formed_definitions, are_named_before, names_before_laws, IsFormed}
use Rattle.kid_theory.specs.Forms.{is_named_law}
use Rattle.kid_theory.specs.IsRead.{IsRead}
use Rattle.kid_theory.specs.Known.{names_of, AreDeclared, IsKnown}
use Rattle.kid_theory.specs.PlainFile.{PlainFile, output_of, relation_names, theory_of}
use Rattle.kid_theory.specs.Spelling.{from_inputs}
use Rattle.kid_theory.specs.Taken.{Taken, is_free, are_free}
use Rattle.kid_theory.proofs.ClaimsHold.{claim_holds}
use Rattle.kid_theory.proofs.DeclaredLemmas.{none_declared, definition_declared, input_declared, condition_known}
use Rattle.kid_theory.proofs.FormTold.{truth_sorted}
use Rattle.kid_theory.proofs.KnownLemmas.{claim_known, output_theory}

-- ---- definitions and inputs

all_definitions : (before rest : List PlainDef) (taken : Taken) (later : Plains) → AreDeclared before [] taken → are_formed_definitions before rest later ≡ true → list_all is_wordless_definition rest ≡ true
    → (names : Taken) × AreDeclared (before ++ rest) [] names
all_definitions before [] taken later good formed wordless = (taken, subst (λ ds. AreDeclared ds [] taken) (sym (append-nil before)) good)
all_definitions before (d ∷ ds) taken later good formed wordless =
    let f = and_parts (is_formed_definition before (definitions_before ds later) d) (are_formed_definitions (before ++ d ∷ []) ds later) formed in
    let w = and_parts (is_wordless_definition d) (list_all is_wordless_definition ds) wordless in
    let more = definition_declared before taken (definitions_before ds later) d good f.0 w.0 in
    let all = all_definitions (before ++ d ∷ []) ds (taken ++ d.name ∷ []) later more f.1 w.1 in
    (all.0, subst (λ es. AreDeclared es [] all.0) (append_assoc before (d ∷ []) ds) all.1)

few_more : (inputs : Names) (n : List ℕ × PlainSort) (ns : Names) → length inputs + length (n ∷ ns) ≤ 16 → (length (inputs ++ n ∷ []) ≤ 16) × (length (inputs ++ n ∷ []) + length ns ≤ 16)
few_more inputs n ns room = let l = length-append inputs (n ∷ []) in (omega (arith, l), omega (arith, l))

all_inputs : (defs : List PlainDef) (inputs rest : Names) (taken : Taken) → AreDeclared defs inputs taken → length inputs + length rest ≤ 16 → are_free taken rest ≡ true → are_allowed rest ≡ true
    → AreDeclared defs (inputs ++ rest) (taken ++ words_of rest)
all_inputs defs inputs [] taken good room free allowed =
    subst (λ names. AreDeclared defs (inputs ++ []) names) (sym (append-nil taken)) (subst (λ ns. AreDeclared defs ns taken) (sym (append-nil inputs)) good)
all_inputs defs inputs (n ∷ ns) taken good room free allowed =
    let f = and_parts (is_free taken n.0) (are_free (taken ++ n.0 ∷ []) ns) free in
    let a = and_parts (is_allowed n.1) (are_allowed ns) allowed in
    let few = few_more inputs n ns room in
    let all = all_inputs defs (inputs ++ n ∷ []) ns (taken ++ n.0 ∷ []) (input_declared defs inputs taken n good few.0 f.0 a.0) few.1 f.1 a.1 in
    subst (λ names. AreDeclared defs (inputs ++ n ∷ ns) names) (append_assoc taken (n.0 ∷ []) (words_of ns))
    (subst (λ es. AreDeclared defs es ((taken ++ n.0 ∷ []) ++ words_of ns)) (append_assoc inputs (n ∷ []) ns) all)

-- ---- laws and axioms

-- what holds of the theory of the forms so far
record Stands (t : PlainTheory) (taken variables : Taken) : Type 0 where
  known : IsKnown t taken variables
  laws : LawsHold t

-- with so many laws and axioms more
abbrev with_laws : PlainTheory → List PlainLaw → List PlainLaw → PlainTheory
with_laws t laws axioms = record t { laws = t.laws ++ laws; axioms = t.axioms ++ axioms }

-- a theory stands, and the output is new to it
record StandsBefore (t : PlainTheory) (output : List ℕ) : Type 0 where
  taken : Taken
  variables : Taken
  stands : Stands t taken variables
  free : is_free (taken ++ variables) output ≡ true

-- claims that are to come over these definitions and inputs
record AreKept (t : PlainTheory) (taken variables : Taken) (cs : List PlainClaim) (output : List ℕ) : Type 0 where
  wordless : list_all is_wordless_law (claimed cs) ≡ true
  sorted : list_all (is_sorted_law t.signature.definitions t.signature.inputs) (claimed cs) ≡ true
  named : are_named_before taken variables (claimed cs) output ≡ true
  shown : are_shown t cs ≡ true

-- one claim stands, and what is to come after it is kept
record Next (t : PlainTheory) (taken variables : Taken) (c : PlainClaim) (cs : List PlainClaim) (output : List ℕ) : Type 0 where
  stands : Stands (with_claim t c) (taken ++ (law_of c).name ∷ []) (variables ++ words_of (law_of c).variables)
  wordless : list_all is_wordless_law (claimed cs) ≡ true
  sorted : list_all (is_sorted_law t.signature.definitions t.signature.inputs) (claimed cs) ≡ true
  named : are_named_before (taken ++ (law_of c).name ∷ []) (variables ++ words_of (law_of c).variables) (claimed cs) output ≡ true
  shown : are_shown (with_claim t c) cs ≡ true

next : (t : PlainTheory) (taken variables : Taken) (c : PlainClaim) (cs : List PlainClaim) (output : List ℕ) → Stands t taken variables → AreKept t taken variables (c ∷ cs) output → Next t taken variables c cs output
next t taken variables c cs output stands kept =
    let l : PlainLaw = law_of c in
    let w = and_parts (is_wordless_law l) (list_all is_wordless_law (claimed cs)) kept.wordless in
    let is_sorted : PlainLaw → Bool = is_sorted_law t.signature.definitions t.signature.inputs in
    let s = and_parts (is_sorted l) (list_all is_sorted (claimed cs)) kept.sorted in
    let n = and_parts (is_named_law taken variables l) (are_named_before (taken ++ l.name ∷ []) (variables ++ words_of l.variables) (claimed cs) output) kept.named in
    let q = and_parts (is_shown t c) (are_shown (with_claim t c) cs) kept.shown in
    record {
      stands = record {
        known = claim_known t taken variables c stands.known n.0 s.0 w.0;
        laws = claim_holds t taken variables c stands.known n.0 s.0 q.0 stands.laws;
      };
      wordless = w.1;
      sorted = s.1;
      named = n.1;
      shown = q.1;
    }

all_claims : (t : PlainTheory) (taken variables : Taken) (cs : List PlainClaim) (output : List ℕ) → Stands t taken variables → AreKept t taken variables cs output
    → StandsBefore (with_laws t (proved_among cs) (assumed_among cs)) output
all_claims t taken variables [] output stands kept =
    let is : with_laws t [] [] ≡ t = λ i. record t { laws = append-nil t.laws i; axioms = append-nil t.axioms i } in
    subst (λ u. StandsBefore u output) (sym is) (record { taken = taken; variables = variables; stands = stands; free = kept.named })
all_claims t taken variables (assumed l ∷ cs) output stands kept =
    let n = next t taken variables (assumed l) cs output stands kept in
    let all = all_claims (with_claim t (assumed l)) (taken ++ l.name ∷ []) (variables ++ words_of l.variables) cs output n.stands
    (record { wordless = n.wordless; sorted = n.sorted; named = n.named; shown = n.shown }) in
    let more = append_assoc t.axioms (l ∷ []) (assumed_among cs) in
    subst (λ u. StandsBefore u output) (λ i. record t { laws = t.laws ++ proved_among cs; axioms = more i }) all
all_claims t taken variables (proved l moves ∷ cs) output stands kept =
    let n = next t taken variables (proved l moves) cs output stands kept in
    let all = all_claims (with_claim t (proved l moves)) (taken ++ l.name ∷ []) (variables ++ words_of l.variables) cs output n.stands
    (record { wordless = n.wordless; sorted = n.sorted; named = n.named; shown = n.shown }) in
    let more = append_assoc t.laws (l ∷ []) (proved_among cs) in
    subst (λ u. StandsBefore u output) (λ i. record t { laws = more i; axioms = t.axioms ++ assumed_among cs }) all

-- ---- the whole

-- a theory whose laws hold
record TheoryStands (t : PlainTheory) : Type 0 where
  theory : IsTheory t
  laws : LawsHold t

formed_stands : (f : PlainFile) → IsFormed f → TheoryStands (theory_of f)
formed_stands f formed =
    let few = formed.few_inputs in
    let definitions = all_definitions [] f.definitions [] (from_inputs f) none_declared formed.definitions_formed formed.definitions_wordless in
    let of_definitions : AreDeclared f.definitions [] (names_of f.definitions) = subst (AreDeclared f.definitions []) (definitions.1.names ∙ append-nil (names_of f.definitions)) definitions.1 in
    let inputs = all_inputs f.definitions [] f.inputs (names_of f.definitions) of_definitions (omega (arith, few)) formed.inputs_free formed.inputs_allowed in
    let before : PlainTheory = theory_before f.definitions f.inputs f.condition in
    let first : Stands before (names_before_laws f) [] =
    record { known = condition_known f.definitions f.inputs (names_before_laws f) f.condition inputs (truth_sorted (sort_of f.definitions f.inputs f.condition) formed.condition_sorted) formed.condition_wordless; laws = λ x good. tt } in
    let all = all_claims before (names_before_laws f) [] f.claims f.output first
    (record { wordless = formed.laws_wordless; sorted = formed.laws_sorted; named = formed.laws_named; shown = formed.laws_shown }) in
    let t : PlainTheory = with_laws before (proved_among f.claims) (assumed_among f.claims) in
    record {
      theory = output_theory t all.taken all.variables (output_of f) f.relation f.first all.stands.known all.free formed.sort_allowed (truth_sorted (sort_of f.definitions (relation_names f) f.relation) formed.relation_sorted)
          formed.relation_wordless formed.wanted;
      laws = λ x good. all.stands.laws x (record { fits = good.fits; condition = good.condition; axioms = good.axioms });
    }

-- ---- spellings of laws and axioms

all_spelled : (cs : List PlainClaim) → list_all is_spelled_claim cs ≡ true → (list_all is_spelled_law (proved_among cs) ≡ true) × (list_all is_spelled_law (assumed_among cs) ≡ true)
all_spelled [] p = (refl, refl)
all_spelled (assumed l ∷ cs) p =
    let q = and_parts (is_spelled_law l) (list_all is_spelled_claim cs) p in
    let r = all_spelled cs q.1 in
    (r.0, and_both (is_spelled_law l) (list_all is_spelled_law (assumed_among cs)) q.0 r.1)
all_spelled (proved l moves ∷ cs) p =
    let q = and_parts (is_spelled_law l && list_all is_spelled_move moves) (list_all is_spelled_claim cs) p in
    let own = and_parts (is_spelled_law l) (list_all is_spelled_move moves) q.0 in
    let r = all_spelled cs q.1 in
    (and_both (is_spelled_law l) (list_all is_spelled_law (proved_among cs)) own.0 r.0, r.1)

pub formed_read : (f : PlainFile) → IsFormed f → IsRead (theory_of f)
formed_read f formed =
    let ds : Bool = list_all is_spelled_definition f.definitions in
    let ns : Bool = list_all is_spelled_name f.inputs in
    let c : Bool = is_spelled_term f.condition in
    let o : Bool = is_spelled_name (output_of f) in
    let two = and_both ds ns formed.definitions_spelled formed.inputs_spelled in
    let three = and_both (ds && ns) c two formed.condition_spelled in
    let four = and_both (ds && ns && c) o three formed.output_spelled in
    let laws = all_spelled f.claims formed.claims_spelled in
    let stands = formed_stands f formed in
    record {
      is_theory = stands.theory;
      spelled = and_both (ds && ns && c && o) (is_spelled_term f.relation) four formed.relation_spelled;
      laws_spelled = laws.0;
      axioms_spelled = laws.1;
      laws_hold = stands.laws;
    }
