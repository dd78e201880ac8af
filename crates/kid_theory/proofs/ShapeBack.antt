-- The tree of a part has its shape: names, terms, definitions, laws and axioms read back.
use Rattle.std.proofs.Common.{◌≡◌, ℕ, Bool, true, false, List, [], ◌∷◌, Option, Some, None, refl, ap, ◌∙◌}
use Rattle.std.specs.Prelude.{◌&&◌, not, option_map, if◌then◌else◌, codes}
use Rattle.std.specs.List.{list_all}
use Rattle.kid_sexp.specs.Plain.{Plain, Plains, atom, list, one}
use Rattle.kid_value.specs.PlainSort.{PlainSort}
use Rattle.kid_value.specs.SortOrder.{both}
use Rattle.kid_value.proofs.SortLemmas.{and_parts}
use Rattle.kid_term.specs.Names.{Names, PlainDef}
use Rattle.kid_term.specs.PlainTerm.{PlainTerm, term_row}
use Rattle.kid_term.specs.WordTerms.{holds_word_operator}
use Rattle.kid_codec.specs.DeclaredSpelling.{named_spelling, names_spelling, definition_spelling, is_spelled_name, is_spelled_definition}
use Rattle.kid_codec.specs.Name.{is_name}
use Rattle.kid_codec.specs.Reading.{◌>>=◌}
use Rattle.kid_codec.specs.Shape.{form, single}
use Rattle.kid_codec.specs.SortSpelling.{headed, is_spelled_sort}
use Rattle.kid_codec.specs.TermSpelling.{term_spelling, term_spellings, is_spelled_term, are_spelled_terms}
use Rattle.kid_codec.proofs.Numbers.{bytes_eq-itself}
use Rattle.kid_codec.proofs.SortBack.{spelled_parts}
use Rattle.kid_codec.proofs.TermBack.{term_back}
use Rattle.kid_term.specs.PlainLaw.{PlainConclusion, equal, holds, PlainLaw}
use Rattle.kid_kernel.specs.Wordless.{is_wordless, is_wordless_definition, is_wordless_conclusion, is_wordless_law}
use Rattle.kid_moves.specs.PlainRule.{PlainMove}
use Rattle.kid_lines.specs.LineSpelling.{is_spelled_move}
use Rattle.kid_lines.proofs.MovesRead.{moves_read}
use Rattle.kid_theory.specs.Claims.{assumed, proved}
use Rattle.kid_theory.specs.Formed.{is_spelled_conclusion, is_spelled_law}
use Rattle.kid_theory.specs.Shapes.{if_theory_term, theory_term, theory_terms, declared_pair, declared_each, lone, lone_term, declared_form, with_body, definition_shape, conclusion_shape, with_conclusion, axiom_of, axiom_shape, spelled_moves, law_shape}
use Rattle.kid_theory.specs.Spelling.{conclusion_spelling, move_spellings, claim_spelling}

form_back : (w : List ℕ) (ts : Plains) → form w (headed w ts) ≡ Some ts
form_back w ts = ap (λ (b : Bool). if b then Some ts else None) (bytes_eq-itself w)

-- ---- terms

wordless_kept : (b : Bool) (t : PlainTerm) → not b ≡ true → (if b then None else Some t) ≡ Some t
wordless_kept true t p = cc
wordless_kept false t p = refl

term_shaped : (t : PlainTerm) → is_spelled_term t ≡ true → is_wordless t ≡ true → theory_term (term_spelling t) ≡ Some t
term_shaped t spelled wordless = ap (λ (o : Option PlainTerm). o >>= if_theory_term) (term_back t spelled) ∙ wordless_kept (holds_word_operator t) t wordless

terms_shaped : (ts : List PlainTerm) → are_spelled_terms (term_row ts) ≡ true → list_all is_wordless ts ≡ true → theory_terms (term_spellings (term_row ts)) ≡ Some ts
terms_shaped [] spelled wordless = refl
terms_shaped (t ∷ ts) spelled wordless =
    let s = and_parts (is_spelled_term t) (are_spelled_terms (term_row ts)) spelled in
    let w = and_parts (is_wordless t) (list_all is_wordless ts) wordless in
    let p = term_shaped t s.0 w.0 in
    let q = terms_shaped ts s.1 w.1 in
    λ i. p i >>= λ u. option_map (λ us. u ∷ us) (q i)

lone_shaped : (w : List ℕ) (u : Plain) → lone w (headed w (one u)) ≡ Some u
lone_shaped w u = ap (λ (o : Option Plains). o >>= single) (form_back w (one u))

pub lone_term_shaped : (w : List ℕ) (t : PlainTerm) → is_spelled_term t ≡ true → is_wordless t ≡ true → lone_term w (headed w (one (term_spelling t))) ≡ Some t
lone_term_shaped w t spelled wordless = ap (λ (o : Option Plain). o >>= theory_term) (lone_shaped w (term_spelling t)) ∙ term_shaped t spelled wordless

-- ---- names with sorts

pair_shaped : (n : List ℕ × PlainSort) → is_spelled_name n ≡ true → declared_pair (named_spelling n) ≡ Some n
pair_shaped n h =
    let s = (spelled_parts n.1 (and_parts (is_name n.0) (is_spelled_sort n.1) h).1).1 in
    λ i. both (λ w s. (w, s)) (Some n.0) (s i)

pub declared_shaped : (w : List ℕ) (n : List ℕ × PlainSort) → is_spelled_name n ≡ true → declared_form w (headed w (named_spelling n)) ≡ Some n
declared_shaped w n h = ap (λ (o : Option Plains). o >>= declared_pair) (form_back w (named_spelling n)) ∙ pair_shaped n h

names_shaped : (ns : Names) → list_all is_spelled_name ns ≡ true → declared_each (names_spelling ns) ≡ Some ns
names_shaped [] h = refl
names_shaped (n ∷ ns) h =
    let r = and_parts (is_spelled_name n) (list_all is_spelled_name ns) h in
    let p = pair_shaped n r.0 in
    let q = names_shaped ns r.1 in
    λ i. both (λ m ms. m ∷ ms) (p i) (q i)

-- ---- definitions and laws

pub definition_shaped : (d : PlainDef) → is_spelled_definition d ≡ true → is_wordless_definition d ≡ true → definition_shape (definition_spelling d) ≡ Some d
definition_shaped d spelled wordless =
    let a = and_parts (is_name d.name && list_all is_spelled_name d.parameters && is_spelled_sort d.sort) (is_spelled_term d.body) spelled in
    let b = and_parts (is_name d.name && list_all is_spelled_name d.parameters) (is_spelled_sort d.sort) a.0 in
    let names = names_shaped d.parameters (and_parts (is_name d.name) (list_all is_spelled_name d.parameters) b.0).1 in
    let sort = (spelled_parts d.sort b.1).1 in
    let body = term_shaped d.body a.1 wordless in
    λ i. names i >>= λ ps. with_body d.name ps (sort i) (body i)

conclusion_shaped : (c : PlainConclusion) → is_spelled_conclusion c ≡ true → is_wordless_conclusion c ≡ true → conclusion_shape (conclusion_spelling c) ≡ Some c
conclusion_shaped (equal l r) spelled wordless =
    let s = and_parts (is_spelled_term l) (is_spelled_term r) spelled in
    let w = and_parts (is_wordless l) (is_wordless r) wordless in
    let p = term_shaped l s.0 w.0 in
    let q = term_shaped r s.1 w.1 in
    λ i. both equal (p i) (q i)
conclusion_shaped (holds c) spelled wordless = ap (option_map holds) (lone_term_shaped (codes "holds") c spelled wordless)

-- what a law says, read from the trees of its parts
pub law_parts_shaped : (a : PlainLaw) → is_spelled_law a ≡ true → is_wordless_law a ≡ true
    → axiom_of (atom a.name, list (names_spelling a.variables), headed (codes "given") (term_spellings (term_row a.conditions)), conclusion_spelling a.conclusion) ≡ Some a
law_parts_shaped a spelled wordless =
    let c = and_parts (is_name a.name && list_all is_spelled_name a.variables && are_spelled_terms (term_row a.conditions)) (is_spelled_conclusion a.conclusion) spelled in
    let b = and_parts (is_name a.name && list_all is_spelled_name a.variables) (are_spelled_terms (term_row a.conditions)) c.0 in
    let w = and_parts (list_all is_wordless a.conditions) (is_wordless_conclusion a.conclusion) wordless in
    let names = names_shaped a.variables (and_parts (is_name a.name) (list_all is_spelled_name a.variables) b.0).1 in
    let given = terms_shaped a.conditions b.1 w.0 in
    let conclusion = conclusion_shaped a.conclusion c.1 w.1 in
    λ i. names i >>= λ vs. with_conclusion a.name vs (given i) (conclusion i)

moves_shaped : (moves : List PlainMove) → list_all is_spelled_move moves ≡ true → spelled_moves (move_spellings moves) ≡ Some moves
moves_shaped [] h = refl
moves_shaped (m ∷ moves) h =
    let r = and_parts (is_spelled_move m) (list_all is_spelled_move moves) h in
    let p = moves_read.back m r.0 in
    let q = moves_shaped moves r.1 in
    λ i. p i >>= λ n. option_map (λ ns. n ∷ ns) (q i)

pub assumed_shaped : (a : PlainLaw) → is_spelled_law a ≡ true → is_wordless_law a ≡ true → axiom_shape (claim_spelling (assumed a)) ≡ Some a
assumed_shaped a spelled wordless = law_parts_shaped a spelled wordless

pub proved_shaped : (a : PlainLaw) (moves : List PlainMove) → is_spelled_law a ≡ true → list_all is_spelled_move moves ≡ true → is_wordless_law a ≡ true
    → law_shape (claim_spelling (proved a moves)) ≡ Some (a, moves)
proved_shaped a moves spelled moves_spelled wordless =
    let p = law_parts_shaped a spelled wordless in
    let q = moves_shaped moves moves_spelled in
    λ i. both (λ l ms. (l, ms)) (p i) (q i)
