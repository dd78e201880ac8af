-- What has the shape of the parts of a law, which is sorted, is the trees of these parts, and has a spelling.
use Rattle.std.proofs.Common.{◌≡◌, ℕ, true, List, [], ◌∷◌, ◌++◌, Option, Some, None, Ok, Err, refl, sym, ap, ◌∙◌, subst}
use Rattle.std.specs.Prelude.{◌&&◌, option_map, codes}
use Rattle.std.specs.List.{list_all}
use Rattle.kid_sexp.specs.Plain.{Plain, Plains, none, more, one}
use Rattle.kid_value.proofs.SortLemmas.{and_parts, and_both}
use Rattle.kid_term.specs.Names.{Names, PlainDef}
use Rattle.kid_term.specs.PlainTerm.{PlainTerm, term_row}
use Rattle.kid_term.specs.Sorted.{Sorted}
use Rattle.kid_term.specs.Sorting.{sort_of}
use Rattle.kid_sorting.specs.Declaring.{are_allowed, is_truth}
use Rattle.kid_codec.specs.DeclaredSpelling.{is_spelled_name}
use Rattle.kid_codec.specs.Name.{is_name}
use Rattle.kid_codec.specs.Reading.{◌>>=◌}
use Rattle.kid_codec.specs.Shape.{form, couple}
use Rattle.kid_codec.specs.SortSpelling.{headed}
use Rattle.kid_codec.specs.TermSpelling.{term_spellings, is_spelled_term, are_spelled_terms}
use Rattle.kid_codec.proofs.Found.{same_some, mapped, both_some, bind_some}
use Rattle.kid_codec.proofs.ShapeTold.{form_told, couple_told}
use Rattle.kid_codec.proofs.TermTold.{TermsTold}
use Rattle.kid_term.specs.PlainLaw.{PlainConclusion, equal, holds, PlainLaw}
use Rattle.kid_kernel.specs.SortedLaw.{is_unbound, is_condition, have_common, is_sorted_conclusion, is_sorted_law}
use Rattle.kid_theory.specs.Formed.{is_spelled_conclusion, is_spelled_law}
use Rattle.kid_theory.specs.Shapes.{word_of, theory_term, theory_terms, declared_names, lone_term, given_terms, equal_sides, equal_parts, holds_shape, equal_or, conclusion_shape, with_conclusion, axiom_of}
use Rattle.kid_theory.specs.Spelling.{conclusion_spelling, law_parts}
use Rattle.kid_theory.specs.Taken.{Taken, are_free}
use Rattle.kid_theory.proofs.ShapeTold.{word_tree, names_told, sorted_told, truth_told, lone_truth_told}

condition_truth : (defs : List PlainDef) (names : Names) (c : PlainTerm) → is_condition defs names c ≡ true → is_truth (sort_of defs names c) ≡ true
condition_truth defs names c p = (and_parts (is_unbound c) (is_truth (sort_of defs names c)) p).1

-- ---- the conditions

conditions_told : (defs : List PlainDef) (names : Names) (ts : Plains) (cs : List PlainTerm) → theory_terms ts ≡ Some cs → list_all (is_condition defs names) cs ≡ true → TermsTold ts cs
conditions_told defs names none cs e are = subst (TermsTold none) (same_some [] cs e) (record { trees = refl; spelled = refl })
conditions_told defs names (more t ts) cs e are =
    let m = bind_some (theory_term t) (λ (u : PlainTerm). option_map (λ (us : List PlainTerm). u ∷ us) (theory_terms ts)) cs e in
    let x : PlainTerm = m.0 in
    let n = mapped (λ (us : List PlainTerm). x ∷ us) (theory_terms ts) cs m.2 in
    let xs : List PlainTerm = n.0 in
    let is : x ∷ xs ≡ cs = n.2 in
    let r = and_parts (is_condition defs names x) (list_all (is_condition defs names) xs) (ap (list_all (is_condition defs names)) is ∙ are) in
    let j = truth_told defs names t x m.1 (condition_truth defs names x r.0) in
    let k = conditions_told defs names ts xs n.1 r.1 in
    let c = j.tree in
    let d = k.trees in
    subst (TermsTold (more t ts)) is (record { trees = λ i. more (c i) (d i); spelled = and_both (is_spelled_term x) (are_spelled_terms (term_row xs)) j.spelled k.spelled })

given_told : (defs : List PlainDef) (names : Names) (t : Plain) (cs : List PlainTerm) → given_terms t ≡ Some cs → list_all (is_condition defs names) cs ≡ true
    → (t ≡ headed (codes "given") (term_spellings (term_row cs))) × (are_spelled_terms (term_row cs) ≡ true)
given_told defs names t cs e are =
    let c = bind_some (form (codes "given") t) theory_terms cs e in
    let k = conditions_told defs names c.0 cs c.2 are in
    (form_told (codes "given") t c.0 c.1 ∙ ap (headed (codes "given")) k.trees, k.spelled)

-- ---- the conclusion

record ConclusionTold (t : Plain) (c : PlainConclusion) : Type 0 where
  tree : t ≡ conclusion_spelling c
  spelled : is_spelled_conclusion c ≡ true

sides_by : (defs : List PlainDef) (names : Names) (p : Plain × Plain) (l r : PlainTerm) (a b : Sorted) → sort_of defs names l ≡ a → sort_of defs names r ≡ b
    → theory_term p.0 ≡ Some l → theory_term p.1 ≡ Some r → have_common a b ≡ true → ConclusionTold (headed (codes "equal") (more p.0 (one p.1))) (equal l r)
sides_by defs names p l r (Ok s) (Ok t) j k d e common =
    let left = sorted_told defs names p.0 l s d j in
    let right = sorted_told defs names p.1 r t e k in
    let x = left.tree in
    let y = right.tree in
    record { tree = λ i. headed (codes "equal") (more (x i) (one (y i))); spelled = and_both (is_spelled_term l) (is_spelled_term r) left.spelled right.spelled }
sides_by defs names p l r (Ok s) (Err fault) j k d e common = cc
sides_by defs names p l r (Err fault) b j k d e common = cc

sides_told : (defs : List PlainDef) (names : Names) (p : Plain × Plain) (c : PlainConclusion) → equal_sides p ≡ Some c → is_sorted_conclusion defs names c ≡ true
    → ConclusionTold (headed (codes "equal") (more p.0 (one p.1))) c
sides_told defs names p c e sorted =
    let m = both_some equal (theory_term p.0) (theory_term p.1) c e in
    let l : PlainTerm = m.0 in
    let r : PlainTerm = m.1 in
    let is : equal l r ≡ c = m.4 in
    let q = and_parts (is_unbound l && is_unbound r) (have_common (sort_of defs names l) (sort_of defs names r)) (ap (is_sorted_conclusion defs names) is ∙ sorted) in
    subst (ConclusionTold (headed (codes "equal") (more p.0 (one p.1)))) is (sides_by defs names p l r (sort_of defs names l) (sort_of defs names r) refl refl m.2 m.3 q.1)

equal_told : (defs : List PlainDef) (names : Names) (ts : Plains) (c : PlainConclusion) → equal_parts ts ≡ Some c → is_sorted_conclusion defs names c ≡ true
    → ConclusionTold (headed (codes "equal") ts) c
equal_told defs names ts c e sorted =
    let q = bind_some (couple ts) equal_sides c e in
    subst (λ (us : Plains). ConclusionTold (headed (codes "equal") us) c) (sym (couple_told ts q.0 q.1)) (sides_told defs names q.0 c q.2 sorted)

holds_told : (defs : List PlainDef) (names : Names) (t : Plain) (c : PlainConclusion) → holds_shape t ≡ Some c → is_sorted_conclusion defs names c ≡ true → ConclusionTold t c
holds_told defs names t c e sorted =
    let m = mapped holds (lone_term (codes "holds") t) c e in
    let u : PlainTerm = m.0 in
    let is : holds u ≡ c = m.2 in
    let k = lone_truth_told (codes "holds") defs names t u m.1 (condition_truth defs names u (ap (is_sorted_conclusion defs names) is ∙ sorted)) in
    subst (ConclusionTold t) is (record { tree = k.0; spelled = k.1 })

conclusion_by : (defs : List PlainDef) (names : Names) (t : Plain) (c : PlainConclusion) (o : Option Plains) → form (codes "equal") t ≡ o → equal_or o t ≡ Some c
    → is_sorted_conclusion defs names c ≡ true → ConclusionTold t c
conclusion_by defs names t c (Some ts) p e sorted =
    subst (λ (u : Plain). ConclusionTold u c) (sym (form_told (codes "equal") t ts p)) (equal_told defs names ts c e sorted)
conclusion_by defs names t c None p e sorted = holds_told defs names t c e sorted

conclusion_told : (defs : List PlainDef) (names : Names) (t : Plain) (c : PlainConclusion) → conclusion_shape t ≡ Some c → is_sorted_conclusion defs names c ≡ true → ConclusionTold t c
conclusion_told defs names t c e sorted = conclusion_by defs names t c (form (codes "equal") t) refl e sorted

-- ---- what a law says

pub law_parts_told : (defs : List PlainDef) (inputs : Names) (taken : Taken) (p : Plain × Plain × Plain × Plain) (a : PlainLaw) → axiom_of p ≡ Some a → is_name a.name ≡ true → are_free taken a.variables ≡ true
    → is_sorted_law defs inputs a ≡ true → ((rest : Plains) → more p.0 (more p.1 (more p.2 (more p.3 rest))) ≡ law_parts a rest) × (is_spelled_law a ≡ true)
law_parts_told defs inputs taken p a e name free sorted =
    let named : List ℕ → Option PlainLaw = λ n. declared_names p.1 >>= λ vs. with_conclusion n vs (given_terms p.2) (conclusion_shape p.3) in
    let w = bind_some (word_of p.0) named a e in
    let n : List ℕ = w.0 in
    let v = bind_some (declared_names p.1) (λ (vs : Names). with_conclusion n vs (given_terms p.2) (conclusion_shape p.3)) a w.2 in
    let vs : Names = v.0 in
    let made : List PlainTerm → PlainConclusion → PlainLaw = λ cs c. record { name = n; variables = vs; conditions = cs; conclusion = c } in
    let m = both_some made (given_terms p.2) (conclusion_shape p.3) a v.2 in
    let cs : List PlainTerm = m.0 in
    let c : PlainConclusion = m.1 in
    let is : made cs c ≡ a = m.4 in
    let names : Names = inputs ++ vs in
    let q = and_parts (are_allowed vs && list_all (is_condition defs names) cs) (is_sorted_conclusion defs names c) (ap (is_sorted_law defs inputs) is ∙ sorted) in
    let r = and_parts (are_allowed vs) (list_all (is_condition defs names) cs) q.0 in
    let i = word_tree p.0 n w.1 in
    let variables = names_told p.1 vs taken v.1 (ap (λ (l : PlainLaw). are_free taken l.variables) is ∙ free) r.0 in
    let j = variables.0 in
    let given = given_told defs names p.2 cs m.2 r.1 in
    let k = given.0 in
    let conclusion = conclusion_told defs names p.3 c m.3 q.1 in
    let l = conclusion.tree in
    let called : is_name n ≡ true = ap (λ (b : PlainLaw). is_name b.name) is ∙ name in
    let one_spelled = and_both (is_name n) (list_all is_spelled_name vs) called variables.1 in
    let two_spelled = and_both (is_name n && list_all is_spelled_name vs) (are_spelled_terms (term_row cs)) one_spelled given.1 in (
      (λ rest. (λ z. more (i z) (more (j z) (more (k z) (more (l z) rest)))) ∙ ap (λ (b : PlainLaw). law_parts b rest) is),
      ap is_spelled_law (sym is) ∙ and_both (is_name n && list_all is_spelled_name vs && are_spelled_terms (term_row cs)) (is_spelled_conclusion c) two_spelled conclusion.spelled,
    )
