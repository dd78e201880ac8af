-- Programs with one spelling are one program, in whatever formats.
use Rattle.std.proofs.Common.{◌≡◌, ℕ, true, false, List, [], ◌∷◌, Option, Some, None, Result, Ok, refl, sym, ap, ◌∙◌}
use Rattle.std.specs.Prelude.{codes}
use Rattle.std.specs.List.{list_all}
use Rattle.std.specs.Str.{bytes_eq}
use Rattle.kid_sexp.specs.Plain.{Plain, Plains, atom, list, none, more}
use Rattle.kid_value.specs.PlainSort.{PlainSort}
use Rattle.kid_value.proofs.SortLemmas.{and_parts}
use Rattle.kid_term.specs.Names.{Names, PlainDef}
use Rattle.kid_term.specs.PlainSpec.{is_count, is_wanted}
use Rattle.kid_term.specs.PlainTerm.{PlainTerm}
use Rattle.kid_codec.specs.Name.{is_name}
use Rattle.kid_codec.specs.SortSpelling.{sort_spelling, is_spelled_sort, spelled_sort}
use Rattle.kid_codec.specs.TermSpelling.{term_spelling, is_spelled_term, spelled_term}
use Rattle.kid_codec.proofs.Found.{same_some}
use Rattle.kid_codec.proofs.SortBack.{spelled_parts as sort_parts}
use Rattle.kid_codec.proofs.TermBack.{term_back}
use Rattle.kid_prog.specs.Forms.{named_pair, spelled_names, first_form}
use Rattle.kid_prog.specs.PlainProgram.{PlainProgram}
use Rattle.kid_prog.specs.PlainStmt.{PlainStmts}
use Rattle.kid_prog.specs.Spelling.{stmt_spellings, named_spelling, names_spelling, definition_spelling, definitions_before, inputs_before, first_spelling, first_before, main_forms, last_forms, spelling_in, are_spelled_stmts, is_spelled_name, is_spelled_definition}
use Rattle.kid_prog.specs.StmtShape.{spelled_stmts}
use Rattle.kid_prog.specs.declared.fault.LoadCode.{LoadCode}
use Rattle.kid_prog.specs.declared.format.Format.{Format}
use Rattle.kid_prog.proofs.FormBack.{first_back}
use Rattle.kid_prog.proofs.ProgramParts.{IsSpelled}
use Rattle.kid_prog.proofs.SpellingBack.{named_back, names_back, stmts_back}

term_same : (t u : PlainTerm) → is_spelled_term t ≡ true → is_spelled_term u ≡ true → term_spelling t ≡ term_spelling u → t ≡ u
term_same t u h k e = same_some t u (sym (term_back t h) ∙ ap spelled_term e ∙ term_back u k)

sort_same : (s t : PlainSort) → is_spelled_sort s ≡ true → is_spelled_sort t ≡ true → sort_spelling s ≡ sort_spelling t → s ≡ t
sort_same s t h k e = same_some s t (sym (sort_parts s h).1 ∙ ap spelled_sort e ∙ (sort_parts t k).1)

named_same : (m n : List ℕ × PlainSort) → is_spelled_name m ≡ true → is_spelled_name n ≡ true → named_spelling m ≡ named_spelling n → m ≡ n
named_same m n h k e = same_some m n (sym (named_back m h) ∙ ap named_pair e ∙ named_back n k)

names_same : (ms ns : Names) → list_all is_spelled_name ms ≡ true → list_all is_spelled_name ns ≡ true → names_spelling ms ≡ names_spelling ns → ms ≡ ns
names_same ms ns h k e = same_some ms ns (sym (names_back ms h) ∙ ap spelled_names e ∙ names_back ns k)

stmts_same : (ss ts : PlainStmts) → are_spelled_stmts ss ≡ true → are_spelled_stmts ts ≡ true → stmt_spellings ss ≡ stmt_spellings ts → ss ≡ ts
stmts_same ss ts h k e = same_some ss ts (sym (stmts_back ss h) ∙ ap spelled_stmts e ∙ stmts_back ts k)

-- parts of trees
abbrev inner : Plain → Plains
inner (atom w) = none
inner (list ts) = ts

abbrev word : Plain → List ℕ
word (atom w) = w
word (list ts) = []

abbrev first : Plains → Plain
first none = list none
first (more t ts) = t

abbrev others : Plains → Plains
others none = none
others (more t ts) = ts

-- what stands behind the word of a form
abbrev behind : Plain → Plains
behind t = others (inner t)

-- the word of the first form
abbrev first_word : Plains → List ℕ
first_word ts = word (first (inner (first ts)))

definition_same : (d e : PlainDef) → is_spelled_definition d ≡ true → is_spelled_definition e ≡ true → definition_spelling d ≡ definition_spelling e → d ≡ e
definition_same d e h k is =
    let a = and_parts _ (is_spelled_term d.body) h in
    let b = and_parts _ (is_spelled_sort d.sort) a.0 in
    let c = and_parts (is_name d.name) (list_all is_spelled_name d.parameters) b.0 in
    let u = and_parts _ (is_spelled_term e.body) k in
    let v = and_parts _ (is_spelled_sort e.sort) u.0 in
    let w = and_parts (is_name e.name) (list_all is_spelled_name e.parameters) v.0 in
    let name : d.name ≡ e.name = ap (λ (t : Plain). word (first (behind t))) is in
    let parameters = names_same d.parameters e.parameters c.1 w.1 (ap (λ (t : Plain). inner (first (others (behind t)))) is) in
    let sort = sort_same d.sort e.sort b.1 v.1 (ap (λ (t : Plain). first (others (others (behind t)))) is) in
    let body = term_same d.body e.body a.1 u.1 (ap (λ (t : Plain). first (others (others (others (behind t))))) is) in
    λ i. record { name = name i; parameters = parameters i; sort = sort i; body = body i }

-- forms do not begin with another word than they do
word_differs : (w : List ℕ) (ts us : Plains) → bytes_eq (first_word ts) w ≡ false → bytes_eq (first_word us) w ≡ true → ts ≡ us → ⊥
word_differs w ts us p q e = let no : false ≡ true = sym p ∙ ap (λ (vs : Plains). bytes_eq (first_word vs) w) e ∙ q in cc

definitions_same : (ds es : List PlainDef) (r s : Plains) → list_all is_spelled_definition ds ≡ true → list_all is_spelled_definition es ≡ true
    → bytes_eq (first_word r) (codes "def") ≡ false → bytes_eq (first_word s) (codes "def") ≡ false
    → definitions_before ds r ≡ definitions_before es s → (ds ≡ es) × (r ≡ s)
definitions_same [] [] r s h k p q e = (refl, e)
definitions_same [] (d ∷ es) r s h k p q e = absurd (word_differs (codes "def") r (definitions_before (d ∷ es) s) p refl e)
definitions_same (d ∷ ds) [] r s h k p q e = absurd (word_differs (codes "def") s (definitions_before (d ∷ ds) r) q refl (sym e))
definitions_same (d ∷ ds) (f ∷ es) r s h k p q e =
    let a = and_parts (is_spelled_definition d) (list_all is_spelled_definition ds) h in
    let b = and_parts (is_spelled_definition f) (list_all is_spelled_definition es) k in
    let one = definition_same d f a.0 b.0 (ap first e) in
    let more_same = definitions_same ds es r s a.1 b.1 p q (ap others e) in
    let rest = more_same.0 in
    (λ i. one i ∷ rest i, more_same.1)

inputs_same : (ms ns : Names) (r s : Plains) → list_all is_spelled_name ms ≡ true → list_all is_spelled_name ns ≡ true
    → bytes_eq (first_word r) (codes "input") ≡ false → bytes_eq (first_word s) (codes "input") ≡ false
    → inputs_before ms r ≡ inputs_before ns s → (ms ≡ ns) × (r ≡ s)
inputs_same [] [] r s h k p q e = (refl, e)
inputs_same [] (n ∷ ns) r s h k p q e = absurd (word_differs (codes "input") r (inputs_before (n ∷ ns) s) p refl e)
inputs_same (m ∷ ms) [] r s h k p q e = absurd (word_differs (codes "input") s (inputs_before (m ∷ ms) r) q refl (sym e))
inputs_same (m ∷ ms) (n ∷ ns) r s h k p q e =
    let a = and_parts (is_spelled_name m) (list_all is_spelled_name ms) h in
    let b = and_parts (is_spelled_name n) (list_all is_spelled_name ns) k in
    let one = named_same m n a.0 b.0 (ap (λ (ts : Plains). behind (first ts)) e) in
    let more_same = inputs_same ms ns r s a.1 b.1 p q (ap others e) in
    let rest = more_same.0 in
    (λ i. one i ∷ rest i, more_same.1)

abbrev given : ℕ → Result ℕ LoadCode
given n = Ok n

counts_same : (m n : ℕ) → is_count m ≡ true → is_count n ≡ true → first_spelling m ≡ first_spelling n → m ≡ n
counts_same m n h k e = same_count (sym (first_back m h) ∙ ap first_form e ∙ first_back n k)
  where
    same_count : given m ≡ given n → m ≡ n
    same_count p = cc

first_same : (f g : Option ℕ) (r s : Plains) → is_wanted f ≡ true → is_wanted g ≡ true
    → bytes_eq (first_word r) (codes "first") ≡ false → bytes_eq (first_word s) (codes "first") ≡ false
    → first_before f r ≡ first_before g s → (f ≡ g) × (r ≡ s)
first_same None None r s h k p q e = (refl, e)
first_same None (Some n) r s h k p q e = absurd (word_differs (codes "first") r (first_before (Some n) s) p refl e)
first_same (Some m) None r s h k p q e = absurd (word_differs (codes "first") s (first_before (Some m) r) q refl (sym e))
first_same (Some m) (Some n) r s h k p q e = (ap (λ (c : ℕ). Some c) (counts_same m n h k (ap first e)), ap others e)

inputs_define_nothing : (ns : Names) (p : PlainProgram) → bytes_eq (first_word (inputs_before ns (last_forms p))) (codes "def") ≡ false
inputs_define_nothing [] p = refl
inputs_define_nothing (n ∷ ns) p = refl

pub spelling_same : (f g : Format) (p q : PlainProgram) → IsSpelled p → IsSpelled q → spelling_in f p ≡ spelling_in g q → p ≡ q
spelling_same f g p q h k e =
    let d = definitions_same p.definitions q.definitions (inputs_before p.inputs (last_forms p)) (inputs_before q.inputs (last_forms q)) h.definitions k.definitions
    (inputs_define_nothing p.inputs p) (inputs_define_nothing q.inputs q) (ap others e) in
    let n = inputs_same p.inputs q.inputs (last_forms p) (last_forms q) h.inputs k.inputs refl refl d.1 in
    let definitions = d.0 in
    let inputs = n.0 in
    let condition = term_same p.condition q.condition h.condition k.condition (ap (λ (ts : Plains). first (behind (first ts))) n.1) in
    let output = named_same (p.output, p.sort) (q.output, q.sort) h.output k.output (ap (λ (ts : Plains). behind (first (others ts))) n.1) in
    let c = first_same p.first q.first (main_forms p) (main_forms q) h.wanted k.wanted refl refl (ap (λ (ts : Plains). others (others ts)) n.1) in
    let wanted = c.0 in
    let main = stmts_same p.main q.main h.main k.main (ap (λ (ts : Plains). behind (first ts)) c.1) in
    let parameters = names_same p.parameters q.parameters h.parameters k.parameters (ap (λ (ts : Plains). inner (first (behind (first (others ts))))) c.1) in
    let search = stmts_same p.search q.search h.search k.search (ap (λ (ts : Plains). others (behind (first (others ts)))) c.1) in
    λ i. record {
      definitions = definitions i;
      inputs = inputs i;
      condition = condition i;
      output = (output i).0;
      sort = (output i).1;
      first = wanted i;
      main = main i;
      parameters = parameters i;
      search = search i;
    }
