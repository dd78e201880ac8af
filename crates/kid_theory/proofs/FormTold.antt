-- What a form of a theory tells that was not refused: it is the tree of what it holds, which has a spelling and keeps the rules.
use Rattle.std.proofs.Common.{◌≡◌, ℕ, ℤ, true, List, [], length, Some, Ok, refl, sym, ap, ◌∙◌, subst}
use Rattle.std.specs.Prelude.{pos, negsuc, nat_lt, not, ◌&&◌, codes}
use Rattle.kid_sexp.specs.Plain.{Plain, Plains, atom, list, one}
use Rattle.kid_value.specs.PlainSort.{PlainSort, bools}
use Rattle.kid_value.specs.SortLimits.{is_allowed}
use Rattle.kid_value.proofs.SortLemmas.{and_parts}
use Rattle.kid_term.specs.Names.{Names, PlainDef}
use Rattle.kid_term.specs.PlainSpec.{is_count}
use Rattle.kid_term.specs.PlainTerm.{PlainTerm}
use Rattle.kid_term.specs.Sorted.{Sorted}
use Rattle.kid_term.specs.Sorting.{sort_of}
use Rattle.kid_sorting.specs.Declaring.{is_truth, is_sorted_definition, is_shallow}
use Rattle.kid_codec.specs.DeclaredSpelling.{named_spelling, definition_spelling, is_spelled_name, is_spelled_definition}
use Rattle.kid_codec.specs.Name.{is_name}
use Rattle.kid_codec.specs.SortSpelling.{headed, number_tree, spelled_number}
use Rattle.kid_codec.specs.TermSpelling.{term_spelling, is_spelled_term}
use Rattle.kid_codec.proofs.Found.{bind_some, number_from}
use Rattle.kid_theory.specs.Ahead.{calls_ahead}
use Rattle.kid_theory.specs.Judged.{Judged, ◌>>=◌, shaped, tested}
use Rattle.kid_theory.specs.Shapes.{word_of, lone, lone_word, lone_number, lone_term, declared_form, definition_shape}
use Rattle.kid_theory.specs.Taken.{Taken, is_free, are_free}
use Rattle.kid_theory.specs.Forms.{title_form, judged_definition, definition_form, judged_name, input_form, output_form, condition_form, counted, first_form}
use Rattle.kid_theory.specs.Spelling.{first_spelling}
use Rattle.kid_theory.specs.declared.fault.TheoryCode.TheVariants as code
use Rattle.kid_theory.proofs.ShapeTold.{free_name, word_tree, lone_tree, declared_form_told, lone_truth_told, definition_told}
use Rattle.kid_theory.proofs.Passed.{found, found_same, tested_ok, shaped_ok}

pub truth_sorted : (r : Sorted) → is_truth r ≡ true → r ≡ Ok bools
truth_sorted (Ok bools) h = refl
truth_sorted r h = cc

pub title_told : (t : Plain) (name : List ℕ) → title_form t ≡ Ok name → (is_name name ≡ true) × (t ≡ headed (codes "theory") (one (atom name)))
title_told t name p =
    let s = shaped_ok (lone_word (codes "theory") t) (λ w. tested (is_name w) code.Name (found w)) name p in
    let w : List ℕ = s.0 in
    let n = tested_ok (is_name w) code.Name (found w) name s.2 in
    let same = found_same w name n.1 in
    let c = bind_some (lone (codes "theory") t) word_of w s.1 in
    let tree = lone_tree (codes "theory") t c.0 c.1 ∙ ap (λ (v : Plain). headed (codes "theory") (one v)) (word_tree c.0 w c.2) in
    (subst (λ (v : List ℕ). is_name v ≡ true) same n.0, tree ∙ ap (λ (v : List ℕ). headed (codes "theory") (one (atom v))) same)

-- a condition is a truth value
pub condition_told : (word : List ℕ) (defs : List PlainDef) (names : Names) (t : Plain) (c : PlainTerm) → condition_form word defs names t ≡ Ok c
    → (sort_of defs names c ≡ Ok bools) × (is_spelled_term c ≡ true) × (t ≡ headed word (one (term_spelling c)))
condition_told word defs names t c p =
    let judge : PlainTerm → Judged PlainTerm = λ d. tested (is_truth (sort_of defs names d)) code.Sort (Ok d) in
    let s = shaped_ok (lone_term word t) judge c p in
    let d : PlainTerm = s.0 in
    let q = tested_ok (is_truth (sort_of defs names d)) code.Sort (found d) c s.2 in
    let same = found_same d c q.1 in
    let sorted = truth_sorted (sort_of defs names d) q.0 in
    let k = lone_truth_told word defs names t d s.1 q.0 in
    (ap (λ (e : PlainTerm). sort_of defs names e) (sym same) ∙ sorted, ap is_spelled_term (sym same) ∙ k.1, k.0 ∙ ap (λ (e : PlainTerm). headed word (one (term_spelling e))) same)

number_told : (t : Plain) (n : ℤ) → spelled_number t ≡ Some n → t ≡ number_tree n
number_told (atom w) n p = ap atom (number_from w n p).0
number_told (list ts) n p = cc

-- a number that is handed on is a count
count_found : (z : ℤ) (n : ℕ) → counted z ≡ found n → (z ≡ pos n) × (is_count n ≡ true)
count_found (pos m) n p =
    let a = tested_ok (is_count m) code.Form (found m) n p in
    let same = found_same m n a.1 in
    (ap pos same, ap is_count (sym same) ∙ a.0)
count_found (negsuc m) n p = cc

pub first_told : (t : Plain) (n : ℕ) → first_form t ≡ Ok n → (t ≡ first_spelling n) × (is_count n ≡ true)
first_told t n p =
    let s = shaped_ok (lone_number (codes "first") t) counted n p in
    let z : ℤ = s.0 in
    let c = count_found z n s.2 in
    let m = bind_some (lone (codes "first") t) spelled_number z s.1 in
    (lone_tree (codes "first") t m.0 m.1 ∙ ap (λ (u : Plain). headed (codes "first") (one u)) (number_told m.0 z m.2 ∙ ap number_tree c.0), c.1)

-- a name that is new with an allowed sort, which has a spelling
pub record NameTold (taken : Taken) (n : List ℕ × PlainSort) : Type 0 where
  pub free : is_free taken n.0 ≡ true
  pub allowed : is_allowed n.1 ≡ true
  pub spelled : is_spelled_name n ≡ true

name_told : (word : List ℕ) (taken : Taken) (t : Plain) (m n : List ℕ × PlainSort) → declared_form word t ≡ Some m → judged_name taken m ≡ Ok n
    → NameTold taken n × (t ≡ headed word (named_spelling n))
name_told word taken t m n e p =
    let a = tested_ok (is_free taken m.0) code.Name (tested (is_allowed m.1) code.Sort (found m)) n p in
    let b = tested_ok (is_allowed m.1) code.Sort (found m) n a.1 in
    let same = found_same m n b.1 in
    let k = declared_form_told word t m e (free_name taken m.0 a.0) b.0 in
    (subst (NameTold taken) same (record { free = a.0; allowed = b.0; spelled = k.1 }), k.0 ∙ ap (λ (o : List ℕ × PlainSort). headed word (named_spelling o)) same)

pub output_told : (taken : Taken) (t : Plain) (n : List ℕ × PlainSort) → output_form taken t ≡ Ok n → NameTold taken n × (t ≡ headed (codes "output") (named_spelling n))
output_told taken t n p =
    let s = shaped_ok (declared_form (codes "output") t) (judged_name taken) n p in
    name_told (codes "output") taken t s.0 n s.1 s.2

pub input_told : (inputs : Names) (taken : Taken) (t : Plain) (n : List ℕ × PlainSort) → input_form inputs taken t ≡ Ok n
    → (nat_lt (length inputs) 16 ≡ true) × NameTold taken n × (t ≡ headed (codes "input") (named_spelling n))
input_told inputs taken t n p =
    let limit = tested_ok (nat_lt (length inputs) 16) code.Limit (shaped (declared_form (codes "input") t) >>= judged_name taken) n p in
    let s = shaped_ok (declared_form (codes "input") t) (judged_name taken) n limit.1 in
    let k = name_told (codes "input") taken t s.0 n s.1 s.2 in
    (limit.0, k.0, k.1)

pub definition_form_told : (defs : List PlainDef) (taken : Taken) (later : Plains) (t : Plain) (d : PlainDef) → definition_form defs taken later t ≡ Ok d
    → (is_sorted_definition defs d ≡ true) × (is_spelled_definition d ≡ true) × (t ≡ definition_spelling d)
definition_form_told defs taken later t d p =
    let s = shaped_ok (definition_shape t) (judged_definition defs taken later) d p in
    let g : PlainDef = s.0 in
    let sorted : Judged PlainDef = tested (is_sorted_definition defs g) code.Sort (Ok g) in
    let ordered : Judged PlainDef = tested (not (calls_ahead g.name later g.body)) code.Cycle sorted in
    let named : Judged PlainDef = tested (is_free taken g.name && are_free [] g.parameters) code.Name ordered in
    let a = tested_ok (is_shallow defs g) code.Limit named d s.2 in
    let b = tested_ok (is_free taken g.name && are_free [] g.parameters) code.Name ordered d a.1 in
    let c = tested_ok (not (calls_ahead g.name later g.body)) code.Cycle sorted d b.1 in
    let e = tested_ok (is_sorted_definition defs g) code.Sort (found g) d c.1 in
    let same = found_same g d e.1 in
    let names = and_parts (is_free taken g.name) (are_free [] g.parameters) b.0 in
    let k = definition_told defs t g s.1 (free_name taken g.name names.0) names.1 e.0 in
    (ap (is_sorted_definition defs) (sym same) ∙ e.0, ap is_spelled_definition (sym same) ∙ k.1, k.0 ∙ ap definition_spelling same)
