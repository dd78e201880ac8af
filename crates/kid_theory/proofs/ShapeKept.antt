-- What has the shape of a part holds no operator on words or rows.
use Rattle.std.proofs.Common.{◌≡◌, ℕ, Bool, true, false, List, [], ◌∷◌, Option, Some, None, refl, sym, ap, ◌∙◌}
use Rattle.std.specs.Prelude.{not, option_map, if◌then◌else◌, codes}
use Rattle.std.specs.List.{list_all}
use Rattle.kid_sexp.specs.Plain.{Plain, Plains, none, more}
use Rattle.kid_value.specs.PlainSort.{PlainSort}
use Rattle.kid_value.proofs.SortLemmas.{and_both}
use Rattle.kid_term.specs.Names.{Names, PlainDef}
use Rattle.kid_term.specs.PlainTerm.{PlainTerm}
use Rattle.kid_term.specs.WordTerms.{holds_word_operator}
use Rattle.kid_codec.specs.Reading.{◌>>=◌}
use Rattle.kid_codec.specs.Shape.{form, couple, quadruple}
use Rattle.kid_codec.specs.SortSpelling.{spelled_sort}
use Rattle.kid_codec.specs.TermSpelling.{spelled_term}
use Rattle.kid_codec.proofs.Found.{same_some, mapped, both_some, bind_some}
use Rattle.kid_term.specs.PlainLaw.{PlainConclusion, equal, holds, PlainLaw}
use Rattle.kid_kernel.specs.Wordless.{is_wordless, is_wordless_definition, is_wordless_conclusion, is_wordless_law}
use Rattle.kid_theory.specs.Shapes.{word_of, if_theory_term, theory_term, theory_terms, declared_names, lone, lone_term, with_body, definition_of, definition_shape, given_terms, equal_sides, equal_parts, holds_shape, equal_or, conclusion_shape, with_conclusion, axiom_of}

wordless_by : (m u : PlainTerm) (b : Bool) → holds_word_operator m ≡ b → (if b then None else Some m) ≡ Some u → is_wordless u ≡ true
wordless_by m u true is e = cc
wordless_by m u false is e = ap is_wordless (sym (same_some m u e)) ∙ ap not is

term_kept : (t : Plain) (u : PlainTerm) → theory_term t ≡ Some u → is_wordless u ≡ true
term_kept t u e =
    let m = bind_some (spelled_term t) if_theory_term u e in
    wordless_by m.0 u (holds_word_operator m.0) refl m.2

terms_kept : (ts : Plains) (us : List PlainTerm) → theory_terms ts ≡ Some us → list_all is_wordless us ≡ true
terms_kept none us e = ap (list_all is_wordless) (sym (same_some [] us e))
terms_kept (more t ts) us e =
    let m = bind_some (theory_term t) (λ (u : PlainTerm). option_map (λ (vs : List PlainTerm). u ∷ vs) (theory_terms ts)) us e in
    let x : PlainTerm = m.0 in
    let n = mapped (λ (vs : List PlainTerm). x ∷ vs) (theory_terms ts) us m.2 in
    let xs : List PlainTerm = n.0 in
    ap (list_all is_wordless) (sym n.2) ∙ and_both (is_wordless x) (list_all is_wordless xs) (term_kept t x m.1) (terms_kept ts xs n.1)

pub lone_kept : (w : List ℕ) (t : Plain) (u : PlainTerm) → lone_term w t ≡ Some u → is_wordless u ≡ true
lone_kept w t u e = let c = bind_some (lone w t) theory_term u e in term_kept c.0 u c.2

-- ---- definitions

definition_of_kept : (p : Plain × Plain × Plain × Plain) (d : PlainDef) → definition_of p ≡ Some d → is_wordless_definition d ≡ true
definition_of_kept p d e =
    let named : List ℕ → Option PlainDef = λ f. declared_names p.1 >>= λ ps. with_body f ps (spelled_sort p.2) (theory_term p.3) in
    let a = bind_some (word_of p.0) named d e in
    let f : List ℕ = a.0 in
    let b = bind_some (declared_names p.1) (λ (ps : Names). with_body f ps (spelled_sort p.2) (theory_term p.3)) d a.2 in
    let ps : Names = b.0 in
    let made : PlainSort → PlainTerm → PlainDef = λ s t. record { name = f; parameters = ps; sort = s; body = t } in
    let m = both_some made (spelled_sort p.2) (theory_term p.3) d b.2 in
    ap is_wordless_definition (sym m.4) ∙ term_kept p.3 m.1 m.3

pub definition_shape_kept : (t : Plain) (d : PlainDef) → definition_shape t ≡ Some d → is_wordless_definition d ≡ true
definition_shape_kept t d e = let c = bind_some (form (codes "def") t >>= quadruple) definition_of d e in definition_of_kept c.0 d c.2

-- ---- laws

equal_kept : (ts : Plains) (c : PlainConclusion) → equal_parts ts ≡ Some c → is_wordless_conclusion c ≡ true
equal_kept ts c e =
    let q = bind_some (couple ts) equal_sides c e in
    let p : Plain × Plain = q.0 in
    let m = both_some equal (theory_term p.0) (theory_term p.1) c q.2 in
    ap is_wordless_conclusion (sym m.4) ∙ and_both (is_wordless m.0) (is_wordless m.1) (term_kept p.0 m.0 m.2) (term_kept p.1 m.1 m.3)

holds_kept : (t : Plain) (c : PlainConclusion) → holds_shape t ≡ Some c → is_wordless_conclusion c ≡ true
holds_kept t c e = let m = mapped holds (lone_term (codes "holds") t) c e in ap is_wordless_conclusion (sym m.2) ∙ lone_kept (codes "holds") t m.0 m.1

conclusion_kept : (o : Option Plains) (t : Plain) (c : PlainConclusion) → equal_or o t ≡ Some c → is_wordless_conclusion c ≡ true
conclusion_kept (Some ts) t c e = equal_kept ts c e
conclusion_kept None t c e = holds_kept t c e

pub axiom_of_kept : (p : Plain × Plain × Plain × Plain) (a : PlainLaw) → axiom_of p ≡ Some a → is_wordless_law a ≡ true
axiom_of_kept p a e =
    let named : List ℕ → Option PlainLaw = λ n. declared_names p.1 >>= λ vs. with_conclusion n vs (given_terms p.2) (conclusion_shape p.3) in
    let w = bind_some (word_of p.0) named a e in
    let n : List ℕ = w.0 in
    let v = bind_some (declared_names p.1) (λ (vs : Names). with_conclusion n vs (given_terms p.2) (conclusion_shape p.3)) a w.2 in
    let vs : Names = v.0 in
    let made : List PlainTerm → PlainConclusion → PlainLaw = λ cs c. record { name = n; variables = vs; conditions = cs; conclusion = c } in
    let m = both_some made (given_terms p.2) (conclusion_shape p.3) a v.2 in
    let cs : List PlainTerm = m.0 in
    let c : PlainConclusion = m.1 in
    let given = bind_some (form (codes "given") p.2) theory_terms cs m.2 in
    ap is_wordless_law (sym m.4) ∙ and_both (list_all is_wordless cs) (is_wordless_conclusion c) (terms_kept given.0 cs given.2) (conclusion_kept (form (codes "equal") p.3) p.3 c m.3)
