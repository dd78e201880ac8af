-- One more definition or input keeps what the forms so far keep, and the input condition makes a theory of them.
use Rattle.std.proofs.Common.{◌≡◌, ◌≤◌, ◌+◌, ℕ, Bool, true, false, not, List, [], ◌∷◌, ◌++◌, Ok, refl, sym, ap, ◌∙◌, append_assoc, append-nil, length, arith}
use Rattle.std.specs.Prelude.{◌&&◌, ◌||◌, nat_le}
use Rattle.std.specs.List.{list_all}
use Rattle.std.proofs.lemmas.List.{map-append}
use Rattle.std.proofs.lemmas.List.Folds.{list_all-append}
use Rattle.kid_sexp.specs.Plain.{Plains}
use Rattle.kid_value.specs.NameSet.{is_among}
use Rattle.kid_value.specs.PlainSort.{PlainSort, bools}
use Rattle.kid_value.specs.SortLimits.{is_allowed}
use Rattle.kid_value.proofs.SortLemmas.{and_parts, and_both}
use Rattle.kid_term.specs.CallDepth.{body_depth, depths_of}
use Rattle.kid_term.specs.Names.{same_name, Names, PlainDef}
use Rattle.kid_term.specs.PlainTerm.{PlainTerm}
use Rattle.kid_term.specs.Sorting.{sort_of}
use Rattle.kid_sorting.specs.Declaring.{are_allowed, is_sorted_definition, is_shallow}
use Rattle.kid_sorting.proofs.SoundDefinitions.{names-allowed, sound-more}
use Rattle.kid_codec.specs.Name.{is_name}
use Rattle.kid_kernel.specs.Differ.{words_of, differ}
use Rattle.kid_kernel.specs.Wordless.{is_wordless, is_wordless_definition}
use Rattle.kid_kernel.proofs.Differing.{among_parts, among_neither, differ_more}
use Rattle.kid_theory.specs.Ahead.{calls_ahead}
use Rattle.kid_theory.specs.Before.{theory_before}
use Rattle.kid_theory.specs.Formed.{is_formed_definition}
use Rattle.kid_theory.specs.Known.{names_of, AreDeclared, IsKnown}
use Rattle.kid_theory.specs.Taken.{Taken, is_free, are_free}
use Rattle.kid_theory.proofs.DepthLemmas.{depths_more}
use Rattle.kid_theory.proofs.KnownLemmas.{free_new, free_apart}
use Rattle.kid_theory.proofs.ProofTrue.{named_words}

grown : {X : Type 0} (p : X → Bool) (xs : List X) (x : X) → list_all p xs ≡ true → p x ≡ true → list_all p (xs ++ x ∷ []) ≡ true
grown p xs x h k = list_all-append p xs (x ∷ []) ∙ and_both (list_all p xs) (p x && true) h (and_both (p x) true k refl)

pub none_declared : AreDeclared [] [] []
none_declared =
    record { sound = tt; shallow = refl; wordless = refl; parameters = refl; few = omega arith; allowed = refl; names = refl; named = refl; distinct = refl }

pub definition_declared : (before : List PlainDef) (taken : Taken) (later : Plains) (d : PlainDef) → AreDeclared before [] taken → is_formed_definition before later d ≡ true → is_wordless_definition d ≡ true
    → AreDeclared (before ++ d ∷ []) [] (taken ++ d.name ∷ [])
definition_declared before taken later d good formed wordless =
    let a = and_parts (is_shallow before d && is_free (names_of before) d.name && are_free [] d.parameters && not (calls_ahead d.name later d.body)) (is_sorted_definition before d) formed in
    let b = and_parts (is_shallow before d && is_free (names_of before) d.name && are_free [] d.parameters) (not (calls_ahead d.name later d.body)) a.0 in
    let c = and_parts (is_shallow before d && is_free (names_of before) d.name) (are_free [] d.parameters) b.0 in
    let e = and_parts (is_shallow before d) (is_free (names_of before) d.name) c.0 in
    let free = free_new (names_of before) d.name e.1 in
    let new : is_among d.name taken ≡ false = ap (is_among d.name) (good.names ∙ append-nil (names_of before)) ∙ free.1 in
    record {
      sound = sound-more before d good.sound a.1;
      shallow = ap (λ ds. list_all (λ g. nat_le g.1 16) ds) (depths_more before d)
          ∙ grown (λ (g : List ℕ × ℕ). nat_le g.1 16) (depths_of before) (d.name, body_depth (depths_of before) d.body) good.shallow e.0;
      wordless = grown is_wordless_definition before d good.wordless wordless;
      parameters = grown (λ (g : PlainDef). differ (words_of g.parameters)) before d good.parameters (free_apart [] [] d.parameters (λ x n p. refl) c.1).1;
      few = good.few;
      allowed = refl;
      names = ap (λ ns. ns ++ d.name ∷ []) (good.names ∙ append-nil (names_of before)) ∙ sym (map-append (λ (g : PlainDef). g.name) before (d ∷ [])) ∙ sym (append-nil (names_of (before ++ d ∷ [])));
      named = grown is_name taken d.name good.named free.0;
      distinct = differ_more taken d.name good.distinct new;
    }

allowed_more : (ns : Names) (n : List ℕ × PlainSort) → are_allowed ns ≡ true → is_allowed n.1 ≡ true → are_allowed (ns ++ n ∷ []) ≡ true
allowed_more [] n h k = and_both (is_allowed n.1) true k refl
allowed_more (m ∷ ns) n h k =
    let r = and_parts (is_allowed m.1) (are_allowed ns) h in
    and_both (is_allowed m.1) (are_allowed (ns ++ n ∷ [])) r.0 (allowed_more ns n r.1 k)

pub input_declared : (defs : List PlainDef) (inputs : Names) (taken : Taken) (n : List ℕ × PlainSort) → AreDeclared defs inputs taken → length (inputs ++ n ∷ []) ≤ 16 → is_free taken n.0 ≡ true → is_allowed n.1 ≡ true
    → AreDeclared defs (inputs ++ n ∷ []) (taken ++ n.0 ∷ [])
input_declared defs inputs taken n good few free allowed =
    let f = free_new taken n.0 free in
    record {
      sound = good.sound;
      shallow = good.shallow;
      wordless = good.wordless;
      parameters = good.parameters;
      few = few;
      allowed = allowed_more inputs n good.allowed allowed;
      names = ap (λ ns. ns ++ n.0 ∷ []) good.names ∙ append_assoc (names_of defs) (words_of inputs) (n.0 ∷ []) ∙ ap (λ ns. names_of defs ++ ns) (sym (map-append (λ (m : List ℕ × PlainSort). m.0) inputs (n ∷ [])));
      named = grown is_name taken n.0 good.named f.0;
      distinct = differ_more taken n.0 good.distinct f.1;
    }

-- ---- the empty text is no name

other : (x : List ℕ) → is_name x ≡ true → same_name [] x ≡ false
other [] p = cc
other (c ∷ cs) p = refl

another : (x : List ℕ) → is_name x ≡ true → same_name x [] ≡ false
another [] p = cc
another (c ∷ cs) p = refl

nameless : (taken : Taken) → list_all is_name taken ≡ true → is_among [] taken ≡ false
nameless [] p = refl
nameless (x ∷ taken) p =
    let r = and_parts (is_name x) (list_all is_name taken) p in
    ap (λ b. b || is_among [] taken) (other x r.0) ∙ nameless taken r.1

pub condition_known : (defs : List PlainDef) (inputs : Names) (taken : Taken) (c : PlainTerm) → AreDeclared defs inputs taken → sort_of defs inputs c ≡ Ok bools → is_wordless c ≡ true
    → IsKnown (theory_before defs inputs c) taken []
condition_known defs inputs taken c good sorted wordless =
    let all : taken ++ [] ≡ (names_of defs ++ words_of inputs) ++ [] = ap (λ ns. ns ++ []) good.names in
    let names : (taken ++ []) ++ [] ∷ [] ≡ ((names_of defs ++ words_of inputs) ++ []) ++ [] ∷ [] = ap (λ ns. ns ++ [] ∷ []) all in
    let plain : (taken ++ []) ++ [] ∷ [] ≡ taken ++ [] ∷ [] = ap (λ ns. ns ++ [] ∷ []) (append-nil taken) in
    let new = nameless taken good.named in
    record {
      theory = record {
        sound = good.sound;
        shallow = good.shallow;
        definitions_wordless = good.wordless;
        parameters_differ = good.parameters;
        names_differ = ap differ (sym names ∙ plain) ∙ differ_more taken [] good.distinct new;
        same_inputs = refl;
        few_inputs = good.few;
        inputs_allowed = names-allowed inputs good.allowed;
        condition = sorted;
        condition_wordless = wordless;
        laws_sorted = refl;
        laws_wordless = refl;
        variables_differ = refl;
        sort_allowed = refl;
        output_new = named_words [] inputs ∙ (among_parts [] (names_of defs) (words_of inputs) (ap (is_among []) (sym good.names) ∙ new)).1;
        relation = refl;
        relation_wordless = refl;
        wanted = refl;
      };
      new = λ x is p. ap (is_among x) (sym names ∙ plain) ∙ among_neither x taken ([] ∷ []) p (ap (λ b. b || false) (another x is));
      free = λ x p. refl;
    }
