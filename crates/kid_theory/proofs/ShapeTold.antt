-- What has the shape of a part, with names and sorts that are allowed, is the tree of that part, and has a spelling.
use Rattle.std.proofs.Common.{◌≡◌, ℕ, true, List, [], ◌∷◌, ◌++◌, Option, Some, Ok, Err, refl, sym, ap, ◌∙◌}
use Rattle.std.specs.Prelude.{◌&&◌, not, codes}
use Rattle.std.specs.List.{list_all}
use Rattle.kid_sexp.specs.Plain.{Plain, Plains, atom, list, none, more, one}
use Rattle.kid_value.specs.PlainSort.{PlainSort}
use Rattle.kid_value.specs.SortLimits.{is_allowed}
use Rattle.kid_value.proofs.SortLemmas.{and_parts, and_both}
use Rattle.kid_term.specs.Names.{Names, PlainDef}
use Rattle.kid_term.specs.PlainTerm.{PlainTerm}
use Rattle.kid_term.specs.Sorted.{Sorted}
use Rattle.kid_term.specs.Sorting.{sort_of}
use Rattle.kid_sorting.specs.Declaring.{are_allowed, is_truth, is_within, is_sorted_definition}
use Rattle.kid_codec.specs.DeclaredSpelling.{named_spelling, names_spelling, definition_spelling, is_spelled_name, is_spelled_definition}
use Rattle.kid_codec.specs.Name.{is_name}
use Rattle.kid_codec.specs.Reading.{◌>>=◌}
use Rattle.kid_codec.specs.Shape.{form, single, couple, quadruple}
use Rattle.kid_codec.specs.SortSpelling.{headed, sort_spelling, is_spelled_sort, spelled_sort}
use Rattle.kid_codec.specs.TermSpelling.{term_spelling, is_spelled_term}
use Rattle.kid_codec.proofs.Found.{same_some, both_some, bind_some}
use Rattle.kid_codec.proofs.ShapeTold.{form_told, single_told, couple_told, quadruple_told}
use Rattle.kid_codec.proofs.SortedCasts.{sorted_casts}
use Rattle.kid_codec.proofs.SortTold.{sort_whole}
use Rattle.kid_codec.proofs.TermTold.{TermTold, term_told}
use Rattle.kid_value.specs.NameSet.{is_among}
use Rattle.kid_theory.specs.Shapes.{theory_term, word_of, declared, declared_pair, declared_list, declared_each, declared_names, lone, lone_term, declared_form, with_body, definition_of, definition_shape}
use Rattle.kid_theory.proofs.TermRows.{theory_term-spelled}
use Rattle.kid_theory.specs.Taken.{Taken, is_free, are_free}

pub free_name : (taken : Taken) (x : List ℕ) → is_free taken x ≡ true → is_name x ≡ true
free_name taken x p = (and_parts (is_name x) (not (is_among x taken)) p).0

pub word_tree : (t : Plain) (w : List ℕ) → word_of t ≡ Some w → t ≡ atom w
word_tree (atom v) w e = ap atom (same_some v w e)
word_tree (list ts) w e = cc

pub lone_tree : (w : List ℕ) (t u : Plain) → lone w t ≡ Some u → t ≡ headed w (one u)
lone_tree w t u e =
    let c = bind_some (form w t) single u e in
    form_told w t c.0 c.1 ∙ ap (headed w) (single_told c.0 u c.2)

-- ---- names with allowed sorts

declared_told : (p : Plain × Plain) (n : List ℕ × PlainSort) → declared p ≡ Some n → is_name n.0 ≡ true → is_allowed n.1 ≡ true → (more p.0 (one p.1) ≡ named_spelling n) × (is_spelled_name n ≡ true)
declared_told p n e name allowed =
    let made : List ℕ → PlainSort → List ℕ × PlainSort = λ w s. (w, s) in
    let m = both_some made (word_of p.0) (spelled_sort p.1) n e in
    let y : List ℕ = m.0 in
    let a : PlainSort = m.1 in
    let is : (y, a) ≡ n = m.4 in
    let c = word_tree p.0 y m.2 in
    let k = sort_whole p.1 a m.3 (ap (λ (o : List ℕ × PlainSort). is_allowed o.1) is ∙ allowed) in
    let d = k.0 in
    ((λ i. more (c i) (one (d i))) ∙ ap named_spelling is, ap is_spelled_name (sym is) ∙ and_both (is_name y) (is_spelled_sort a) (ap (λ (o : List ℕ × PlainSort). is_name o.0) is ∙ name) k.1)

pair_told : (ts : Plains) (n : List ℕ × PlainSort) → declared_pair ts ≡ Some n → is_name n.0 ≡ true → is_allowed n.1 ≡ true → (ts ≡ named_spelling n) × (is_spelled_name n ≡ true)
pair_told ts n e name allowed =
    let c = bind_some (couple ts) declared n e in
    let k = declared_told c.0 n c.2 name allowed in
    (couple_told ts c.0 c.1 ∙ k.0, k.1)

pub declared_form_told : (w : List ℕ) (t : Plain) (n : List ℕ × PlainSort) → declared_form w t ≡ Some n → is_name n.0 ≡ true → is_allowed n.1 ≡ true
    → (t ≡ headed w (named_spelling n)) × (is_spelled_name n ≡ true)
declared_form_told w t n e name allowed =
    let c = bind_some (form w t) declared_pair n e in
    let k = pair_told c.0 n c.2 name allowed in
    (form_told w t c.0 c.1 ∙ ap (headed w) k.0, k.1)

list_told : (t : Plain) (n : List ℕ × PlainSort) → declared_list t ≡ Some n → is_name n.0 ≡ true → is_allowed n.1 ≡ true → (t ≡ list (named_spelling n)) × (is_spelled_name n ≡ true)
list_told (atom w) n e name allowed = cc
list_told (list ts) n e name allowed = let k = pair_told ts n e name allowed in (ap list k.0, k.1)

each_told : (ts : Plains) (ns : Names) (taken : Taken) → declared_each ts ≡ Some ns → are_free taken ns ≡ true → are_allowed ns ≡ true → (ts ≡ names_spelling ns) × (list_all is_spelled_name ns ≡ true)
each_told none ns taken e free allowed = let is = same_some [] ns e in (ap names_spelling is, ap (list_all is_spelled_name) (sym is))
each_told (more t ts) ns taken e free allowed =
    let put : List ℕ × PlainSort → Names → Names = λ n others. n ∷ others in
    let m = both_some put (declared_list t) (declared_each ts) ns e in
    let n : List ℕ × PlainSort = m.0 in
    let others : Names = m.1 in
    let is : n ∷ others ≡ ns = m.4 in
    let f = and_parts (is_free taken n.0) (are_free (taken ++ n.0 ∷ []) others) (ap (are_free taken) is ∙ free) in
    let a = and_parts (is_allowed n.1) (are_allowed others) (ap are_allowed is ∙ allowed) in
    let j = list_told t n m.2 (free_name taken n.0 f.0) a.0 in
    let k = each_told ts others (taken ++ n.0 ∷ []) m.3 f.1 a.1 in
    let c = j.0 in
    let d = k.0 in
    ((λ i. more (c i) (d i)) ∙ ap names_spelling is, ap (list_all is_spelled_name) (sym is) ∙ and_both (is_spelled_name n) (list_all is_spelled_name others) j.1 k.1)

pub names_told : (t : Plain) (ns : Names) (taken : Taken) → declared_names t ≡ Some ns → are_free taken ns ≡ true → are_allowed ns ≡ true → (t ≡ list (names_spelling ns)) × (list_all is_spelled_name ns ≡ true)
names_told (atom w) ns taken e free allowed = cc
names_told (list ts) ns taken e free allowed = let k = each_told ts ns taken e free allowed in (ap list k.0, k.1)

-- ---- terms that have a sort

pub sorted_told : (defs : List PlainDef) (names : Names) (t : Plain) (u : PlainTerm) (s : PlainSort) → theory_term t ≡ Some u → sort_of defs names u ≡ Ok s → TermTold t u
sorted_told defs names t u s e sorted = term_told t u (theory_term-spelled t u e) (sorted_casts defs names u s sorted)

truth_by : (defs : List PlainDef) (names : Names) (t : Plain) (u : PlainTerm) (r : Sorted) → sort_of defs names u ≡ r → theory_term t ≡ Some u → is_truth r ≡ true → TermTold t u
truth_by defs names t u (Ok a) is e truth = sorted_told defs names t u a e is
truth_by defs names t u (Err fault) is e truth = cc

pub truth_told : (defs : List PlainDef) (names : Names) (t : Plain) (u : PlainTerm) → theory_term t ≡ Some u → is_truth (sort_of defs names u) ≡ true → TermTold t u
truth_told defs names t u e truth = truth_by defs names t u (sort_of defs names u) refl e truth

-- a truth value alone behind a form's word
pub lone_truth_told : (w : List ℕ) (defs : List PlainDef) (names : Names) (t : Plain) (u : PlainTerm) → lone_term w t ≡ Some u → is_truth (sort_of defs names u) ≡ true
    → (t ≡ headed w (one (term_spelling u))) × (is_spelled_term u ≡ true)
lone_truth_told w defs names t u e truth =
    let c = bind_some (lone w t) theory_term u e in
    let k = truth_told defs names c.0 u c.2 truth in
    (lone_tree w t c.0 c.1 ∙ ap (λ (v : Plain). headed w (one v)) k.tree, k.spelled)

body_told : (defs : List PlainDef) (names : Names) (t : Plain) (u : PlainTerm) (s : PlainSort) (r : Sorted) → sort_of defs names u ≡ r → theory_term t ≡ Some u → is_within s r ≡ true → TermTold t u
body_told defs names t u s (Ok a) is e within = sorted_told defs names t u a e is
body_told defs names t u s (Err fault) is e within = cc

-- ---- definitions

-- what stands behind the word of a definition
abbrev parts_spelling : PlainDef → Plains
parts_spelling d = more (atom d.name) (more (list (names_spelling d.parameters)) (more (sort_spelling d.sort) (one (term_spelling d.body))))

definition_of_told : (defs : List PlainDef) (p : Plain × Plain × Plain × Plain) (d : PlainDef) → definition_of p ≡ Some d → is_name d.name ≡ true → are_free [] d.parameters ≡ true
    → is_sorted_definition defs d ≡ true → (more p.0 (more p.1 (more p.2 (one p.3))) ≡ parts_spelling d) × (is_spelled_definition d ≡ true)
definition_of_told defs p d e name free sorted =
    let named : List ℕ → Option PlainDef = λ f. declared_names p.1 >>= λ ps. with_body f ps (spelled_sort p.2) (theory_term p.3) in
    let a = bind_some (word_of p.0) named d e in
    let f : List ℕ = a.0 in
    let b = bind_some (declared_names p.1) (λ (ps : Names). with_body f ps (spelled_sort p.2) (theory_term p.3)) d a.2 in
    let ps : Names = b.0 in
    let made : PlainSort → PlainTerm → PlainDef = λ s t. record { name = f; parameters = ps; sort = s; body = t } in
    let m = both_some made (spelled_sort p.2) (theory_term p.3) d b.2 in
    let s : PlainSort = m.0 in
    let t : PlainTerm = m.1 in
    let is : made s t ≡ d = m.4 in
    let q = and_parts (are_allowed ps && is_allowed s) (is_within s (sort_of defs ps t)) (ap (is_sorted_definition defs) is ∙ sorted) in
    let r = and_parts (are_allowed ps) (is_allowed s) q.0 in
    let i = word_tree p.0 f a.1 in
    let given = names_told p.1 ps [] b.1 (ap (λ (g : PlainDef). are_free [] g.parameters) is ∙ free) r.0 in
    let j = given.0 in
    let whole = sort_whole p.2 s m.2 r.1 in
    let k = whole.0 in
    let body = body_told defs ps p.3 t s (sort_of defs ps t) refl m.3 q.1 in
    let l = body.tree in
    let called : is_name f ≡ true = ap (λ (g : PlainDef). is_name g.name) is ∙ name in
    let one_spelled = and_both (is_name f) (list_all is_spelled_name ps) called given.1 in
    let two_spelled = and_both (is_name f && list_all is_spelled_name ps) (is_spelled_sort s) one_spelled whole.1 in (
      (λ z. more (i z) (more (j z) (more (k z) (one (l z))))) ∙ ap parts_spelling is,
      ap is_spelled_definition (sym is) ∙ and_both (is_name f && list_all is_spelled_name ps && is_spelled_sort s) (is_spelled_term t) two_spelled body.spelled,
    )

pub definition_told : (defs : List PlainDef) (t : Plain) (d : PlainDef) → definition_shape t ≡ Some d → is_name d.name ≡ true → are_free [] d.parameters ≡ true
    → is_sorted_definition defs d ≡ true → (t ≡ definition_spelling d) × (is_spelled_definition d ≡ true)
definition_told defs t d e name free sorted =
    let c = bind_some (form (codes "def") t >>= quadruple) definition_of d e in
    let q = bind_some (form (codes "def") t) quadruple c.0 c.1 in
    let k = definition_of_told defs c.0 d c.2 name free sorted in
    (form_told (codes "def") t q.0 q.1 ∙ ap (headed (codes "def")) (quadruple_told q.0 c.0 q.2 ∙ k.0), k.1)
