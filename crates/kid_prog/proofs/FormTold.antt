-- A tree that has the shape of a form is the tree of what it holds.
use Rattle.std.proofs.Common.{◌≡◌, ℕ, true, List, [], ◌∷◌, Some, refl, sym, ap, ◌∙◌, subst}
use Rattle.std.specs.Prelude.{option_map}
use Rattle.std.specs.List.{list_all}
use Rattle.kid_sexp.specs.Plain.{Plain, Plains, atom, list, none, more, one}
use Rattle.kid_value.specs.PlainSort.{PlainSort}
use Rattle.kid_value.specs.SortLimits.{is_allowed}
use Rattle.kid_value.proofs.SortLemmas.{and_parts, and_both}
use Rattle.kid_term.specs.Names.{Names}
use Rattle.kid_term.specs.PlainTerm.{PlainTerm, term_row}
use Rattle.kid_sorting.specs.Declaring.{are_allowed}
use Rattle.kid_codec.specs.Name.{is_name}
use Rattle.kid_codec.specs.Shape.{form, couple}
use Rattle.kid_codec.specs.SortSpelling.{headed, is_spelled_sort, spelled_sort}
use Rattle.kid_codec.specs.NameSpelling.{spelled_name}
use Rattle.kid_codec.specs.TermSpelling.{is_spelled_term, are_spelled_terms, casts_are_allowed, all_casts_are_allowed, spelled_term, spelled_terms}
use Rattle.kid_codec.proofs.Found.{same_some, mapped, both_some, bind_some}
use Rattle.kid_codec.proofs.SortTold.{sort_whole}
use Rattle.kid_codec.proofs.ShapeTold.{form_told, couple_told}
use Rattle.kid_codec.proofs.TermTold.{TermsTold, name_told, term_told}
use Rattle.kid_prog.specs.Forms.{named, named_pair, named_list, spelled_names, names_list, named_form}
use Rattle.kid_prog.specs.Spelling.{named_spelling, names_spelling, is_spelled_name}

pub terms_told : (ts : Plains) (us : List PlainTerm) → spelled_terms ts ≡ Some us → all_casts_are_allowed (term_row us) ≡ true → TermsTold ts us
terms_told none us p h = subst (TermsTold none) (same_some [] us p) (record { trees = refl; spelled = refl })
terms_told (more t ts) us p h =
    let m = bind_some (spelled_term t) (λ (u : PlainTerm). option_map (λ (vs : List PlainTerm). u ∷ vs) (spelled_terms ts)) us p in
    let x : PlainTerm = m.0 in
    let n = mapped (λ (vs : List PlainTerm). x ∷ vs) (spelled_terms ts) us m.2 in
    let xs : List PlainTerm = n.0 in
    let is : x ∷ xs ≡ us = n.2 in
    let r = and_parts (casts_are_allowed x) (all_casts_are_allowed (term_row xs)) (ap (λ (l : List PlainTerm). all_casts_are_allowed (term_row l)) is ∙ h) in
    let j = term_told t x m.1 r.0 in
    let k = terms_told ts xs n.1 r.1 in
    let d = j.tree in
    let e = k.trees in
    subst (TermsTold (more t ts)) is (record { trees = λ i. more (d i) (e i); spelled = and_both (is_spelled_term x) (are_spelled_terms (term_row xs)) j.spelled k.spelled })

-- a name with an allowed sort
pair_of : (x s : Plain) (n : List ℕ × PlainSort) → named x s ≡ Some n → is_allowed n.1 ≡ true → (more x (one s) ≡ named_spelling n) × (is_spelled_name n ≡ true)
pair_of x s n p h =
    let made : List ℕ → PlainSort → List ℕ × PlainSort = λ name sort. (name, sort) in
    let m = both_some made (spelled_name x) (spelled_sort s) n p in
    let y : List ℕ = m.0 in
    let a : PlainSort = m.1 in
    let is : (y, a) ≡ n = m.4 in
    let j = name_told x y m.2 in
    let k = sort_whole s a m.3 (ap (λ (o : List ℕ × PlainSort). is_allowed o.1) is ∙ h) in
    let d = j.0 in
    let e = k.0 in
    ((λ i. more (d i) (one (e i))) ∙ ap named_spelling is, ap is_spelled_name (sym is) ∙ and_both (is_name y) (is_spelled_sort a) j.1 k.1)

pub pair_told : (ts : Plains) (n : List ℕ × PlainSort) → named_pair ts ≡ Some n → is_allowed n.1 ≡ true → (ts ≡ named_spelling n) × (is_spelled_name n ≡ true)
pair_told ts n p h =
    let c = bind_some (couple ts) (λ (q : Plain × Plain). named q.0 q.1) n p in
    let k = pair_of c.0.0 c.0.1 n c.2 h in
    (couple_told ts c.0 c.1 ∙ k.0, k.1)

pub named_told : (w : List ℕ) (t : Plain) (n : List ℕ × PlainSort) → named_form w t ≡ Some n → is_allowed n.1 ≡ true → (t ≡ headed w (named_spelling n)) × (is_spelled_name n ≡ true)
named_told w t n p h =
    let c = bind_some (form w t) named_pair n p in
    let k = pair_told c.0 n c.2 h in
    (form_told w t c.0 c.1 ∙ ap (headed w) k.0, k.1)

list_told : (t : Plain) (n : List ℕ × PlainSort) → named_list t ≡ Some n → is_allowed n.1 ≡ true → (t ≡ list (named_spelling n)) × (is_spelled_name n ≡ true)
list_told (atom w) n p h = cc
list_told (list ts) n p h = let k = pair_told ts n p h in (ap list k.0, k.1)

-- names with allowed sorts
pub record NamesTold (ts : Plains) (ns : Names) : Type 0 where
  pub trees : ts ≡ names_spelling ns
  pub spelled : list_all is_spelled_name ns ≡ true

names_told : (ts : Plains) (ns : Names) → spelled_names ts ≡ Some ns → are_allowed ns ≡ true → NamesTold ts ns
names_told none ns p h = subst (NamesTold none) (same_some [] ns p) (record { trees = refl; spelled = refl })
names_told (more t ts) ns p h =
    let put : List ℕ × PlainSort → Names → Names = λ n ns. n ∷ ns in
    let m = both_some put (named_list t) (spelled_names ts) ns p in
    let n : List ℕ × PlainSort = m.0 in
    let others : Names = m.1 in
    let is : n ∷ others ≡ ns = m.4 in
    let r = and_parts (is_allowed n.1) (are_allowed others) (ap are_allowed is ∙ h) in
    let j = list_told t n m.2 r.0 in
    let k = names_told ts others m.3 r.1 in
    let d = j.0 in
    let e = k.trees in
    subst (NamesTold (more t ts)) is (record { trees = λ i. more (d i) (e i); spelled = and_both (is_spelled_name n) (list_all is_spelled_name others) j.1 k.spelled })

pub names_list_told : (t : Plain) (ns : Names) → names_list t ≡ Some ns → are_allowed ns ≡ true → (t ≡ list (names_spelling ns)) × (list_all is_spelled_name ns ≡ true)
names_list_told (atom w) ns p h = cc
names_list_told (list ts) ns p h = let k = names_told ts ns p h in (ap list k.trees, k.spelled)
