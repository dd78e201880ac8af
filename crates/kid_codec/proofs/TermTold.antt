-- A tree that spells a term is the tree of that term.
use Rattle.std.proofs.Common.{◌≡◌, inl, inr, ℕ, true, false, List, [], ◌∷◌, Option, Some, None, refl, sym, ap, ◌∙◌, subst}
use Rattle.std.specs.Prelude.{◌&&◌, option_map, if◌then◌else◌, codes}
use Rattle.std.specs.Str.{bytes_eq}
use Rattle.kid_sexp.specs.Plain as tree
use Rattle.kid_sexp.specs.Plain.{Plain, Plains, atom, list}
use Rattle.kid_value.specs.PlainSort.{PlainSort}
use Rattle.kid_value.specs.SortOrder.{both}
use Rattle.kid_value.specs.SortLimits.{is_allowed}
use Rattle.kid_value.proofs.SortLemmas.{and_parts, and_both}
use Rattle.kid_term.specs.declared.operator.Op.{Op}
use Rattle.kid_term.specs.declared.operator.Binder.{Binder}
use Rattle.kid_term.specs.PlainTerm.{op, PlainTerm, var, number, truth, tag, app, bind, terms, term_row}
use Rattle.kid_codec.specs.Name.{is_name}
use Rattle.kid_codec.specs.NameSpelling.{spelled_name, is_tag, tag_name}
use Rattle.kid_codec.specs.Number.{number_of}
use Rattle.kid_codec.specs.Reading.{◌>>=◌}
use Rattle.kid_codec.specs.SortSpelling.{is_spelled_sort, spelled_sort}
use Rattle.kid_codec.specs.TermSpelling.{term_spelling, term_spellings, is_spelled_term, are_spelled_terms, casts_are_allowed, all_casts_are_allowed, applied, suits, called, casted, headed_by, term_of_parts, body_of, atom_term, spelled_term, spelled_list, spelled_terms, spelled_cast, spelled_body}
use Rattle.kid_codec.specs.Word.{operator_word, binder_word, op_of, binder_of}
use Rattle.kid_codec.proofs.Numbers.{bytes_eq-true}
use Rattle.kid_codec.proofs.Found.{same_some, if_some, if_else, mapped, both_some, bind_some, number_from}
use Rattle.kid_codec.proofs.Words.{op_of-told, binder_of-told}
use Rattle.kid_codec.proofs.SortTold.{sort_whole}
use Rattle.kid_codec.proofs.NameLemmas.{tag_told}
pub use Rattle.kid_codec.proofs.NameLemmas.{name_told}

pub record TermTold (t : Plain) (u : PlainTerm) : Type 0 where
  pub tree : t ≡ term_spelling u
  pub spelled : is_spelled_term u ≡ true

pub record TermsTold (ts : Plains) (us : List PlainTerm) : Type 0 where
  pub trees : ts ≡ term_spellings (term_row us)
  pub spelled : are_spelled_terms (term_row us) ≡ true

terms_row : (us : List PlainTerm) → terms (term_row us) ≡ us
terms_row [] = refl
terms_row (u ∷ us) = ap (λ (l : List PlainTerm). u ∷ l) (terms_row us)

atom_told : (w : List ℕ) (u : PlainTerm) → atom_term w ≡ Some u → TermTold (atom w) u
atom_told w u p =
    let m = option_map number (number_of w) in
    let n = if is_tag w then Some (tag (tag_name w)) else m in
    let f = if bytes_eq w (codes "false") then Some (truth false) else n in
    elim (if_else (is_name w) (Some (var w)) (if bytes_eq w (codes "true") then Some (truth true) else f) u p) [
      | inl r ↦ subst (TermTold (atom w)) (same_some (var w) u r.1) (record { tree = refl; spelled = r.0 })
      | inr r ↦ elim (if_else (bytes_eq w (codes "true")) (Some (truth true)) f u r.1) [
        | inl q ↦ subst (TermTold (atom w)) (same_some (truth true) u q.1) (record { tree = ap atom (bytes_eq-true w (codes "true") q.0); spelled = refl })
        | inr q ↦ elim (if_else (bytes_eq w (codes "false")) (Some (truth false)) n u q.1) [
          | inl o ↦ subst (TermTold (atom w)) (same_some (truth false) u o.1) (record { tree = ap atom (bytes_eq-true w (codes "false") o.0); spelled = refl })
          | inr o ↦ elim (if_else (is_tag w) (Some (tag (tag_name w))) m u o.1) [
            | inl l ↦
                let k = tag_told w l.0 in
                subst (TermTold (atom w)) (same_some (tag (tag_name w)) u l.1) (record { tree = ap atom k.0; spelled = k.1 })
            | inr l ↦
                let f = mapped number (number_of w) u l.1 in
                let k = number_from w f.0 f.1 in
                subst (TermTold (atom w)) f.2 (record { tree = ap atom k.0; spelled = k.1 })
          ]
        ]
      ]
    ]

-- what a part of a list tells
abbrev TellsTerms : Plains → Type 0
TellsTerms ts = (us : List PlainTerm) → spelled_terms ts ≡ Some us → all_casts_are_allowed (term_row us) ≡ true → TermsTold ts us

abbrev TellsCast : Plains → Type 0
TellsCast ts = (u : PlainTerm) → spelled_cast ts ≡ Some u → casts_are_allowed u ≡ true → TermTold (list (tree.more (atom (codes "cast")) ts)) u

abbrev TellsBody : Plains → Type 0
TellsBody ts = (b : Binder) (u : PlainTerm) → option_map (λ f. f b) (spelled_body ts) ≡ Some u → casts_are_allowed u ≡ true → TermTold (list (tree.more (atom (binder_word b)) ts)) u

call_told : (w : List ℕ) (ts : Plains) (u : PlainTerm) → TellsTerms ts → is_name w ≡ true → option_map (called w) (spelled_terms ts) ≡ Some u → casts_are_allowed u ≡ true → TermTold (list (tree.more (atom w) ts)) u
call_told w ts u f n p h =
    let m = mapped (called w) (spelled_terms ts) u p in
    let us : List PlainTerm = m.0 in
    let k = f us m.1 (ap casts_are_allowed m.2 ∙ h) in
    let e = k.trees in
    subst (TermTold (list (tree.more (atom w) ts))) m.2
    (record { tree = λ i. list (tree.more (atom w) (e i)); spelled = and_both (is_name w) (are_spelled_terms (term_row us)) n k.spelled })

op_told : (w : List ℕ) (ts : Plains) (o : Op) (u : PlainTerm) → TellsTerms ts → w ≡ operator_word o → (spelled_terms ts >>= applied o) ≡ Some u → casts_are_allowed u ≡ true → TermTold (list (tree.more (atom w) ts)) u
op_told w ts o u f q p h =
    let m = bind_some (spelled_terms ts) (applied o) u p in
    let us : List PlainTerm = m.0 in
    let r = if_some (suits o us) (Some (app (op o) (term_row us))) u m.2 in
    let s = same_some (app (op o) (term_row us)) u r.1 in
    let k = f us m.1 (ap casts_are_allowed s ∙ h) in
    let e = k.trees in
    let c : suits o (terms (term_row us)) ≡ true = ap (suits o) (terms_row us) ∙ r.0 in
    subst (TermTold (list (tree.more (atom w) ts))) s
    (record { tree = λ i. list (tree.more (atom (q i)) (e i)); spelled = and_both (suits o (terms (term_row us))) (are_spelled_terms (term_row us)) c k.spelled })

head_told : (w : List ℕ) (ts : Plains) (u : PlainTerm) (b : Option Binder) (o : Option Op) → binder_of w ≡ b → op_of w ≡ o → TellsTerms ts → TellsBody ts
    → headed_by b o (spelled_terms ts) (spelled_body ts) ≡ Some u → casts_are_allowed u ≡ true → TermTold (list (tree.more (atom w) ts)) u
head_told w ts u (Some b) o p q f g r h =
    subst (λ (v : List ℕ). TermTold (list (tree.more (atom v) ts)) u) (sym (binder_of-told w b p)) (g b u r h)
head_told w ts u None None p q f g r h = cc
head_told w ts u None (Some o) p q f g r h = op_told w ts o u f (op_of-told w o q) r h

parts_told : (w : List ℕ) (ts : Plains) (u : PlainTerm) → TellsTerms ts → TellsCast ts → TellsBody ts
    → term_of_parts w (spelled_terms ts) (spelled_cast ts) (spelled_body ts) ≡ Some u → casts_are_allowed u ≡ true → TermTold (list (tree.more (atom w) ts)) u
parts_told w ts u f g k p h =
    let rest = headed_by (binder_of w) (op_of w) (spelled_terms ts) (spelled_body ts) in
    elim (if_else (is_name w) (option_map (called w) (spelled_terms ts)) (if bytes_eq w (codes "cast") then spelled_cast ts else rest) u p) [
      | inl r ↦ call_told w ts u f r.0 r.1 h
      | inr r ↦ elim (if_else (bytes_eq w (codes "cast")) (spelled_cast ts) rest u r.1) [
        | inl q ↦ subst (λ (v : List ℕ). TermTold (list (tree.more (atom v) ts)) u) (sym (bytes_eq-true w (codes "cast") q.0)) (g u q.1 h)
        | inr q ↦ head_told w ts u (binder_of w) (op_of w) refl refl f k q.1 h
      ]
    ]

abbrev TellsTerm : Plain → Type 0
TellsTerm t = (u : PlainTerm) → spelled_term t ≡ Some u → casts_are_allowed u ≡ true → TermTold t u

casted_told : (s t : Plain) (u : PlainTerm) → TellsTerm t → both casted (spelled_sort s) (spelled_term t) ≡ Some u → casts_are_allowed u ≡ true
    → TermTold (list (tree.more (atom (codes "cast")) (tree.more s (tree.more t tree.none)))) u
casted_told s t u f p h =
    let m = both_some casted (spelled_sort s) (spelled_term t) u p in
    let a : PlainSort = m.0 in
    let x : PlainTerm = m.1 in
    let r = and_parts (is_allowed a) (casts_are_allowed x && true) (ap casts_are_allowed m.4 ∙ h) in
    let q = and_parts (casts_are_allowed x) true r.1 in
    let j = sort_whole s a m.2 r.0 in
    let k = f x m.3 q.0 in
    let d = j.0 in
    let e = k.tree in
    subst (TermTold (list (tree.more (atom (codes "cast")) (tree.more s (tree.more t tree.none))))) m.4
    (record {
      tree = λ i. list (tree.more (atom (codes "cast")) (tree.more (d i) (tree.more (e i) tree.none)));
      spelled = and_both (is_spelled_sort a) (is_spelled_term x && true) j.1 (and_both (is_spelled_term x) true k.spelled refl);
    })

bound_told : (x s t : Plain) (b : Binder) (u : PlainTerm) → TellsTerm s → TellsTerm t → option_map (λ f. f b) (body_of (spelled_name x) (spelled_term s) (spelled_term t)) ≡ Some u → casts_are_allowed u ≡ true
    → TermTold (list (tree.more (atom (binder_word b)) (tree.more x (tree.more s (tree.more t tree.none))))) u
bound_told x s t b u f g p h =
    let m = mapped (λ (f : Binder → PlainTerm). f b) (body_of (spelled_name x) (spelled_term s) (spelled_term t)) u p in
    let binds : List ℕ → PlainTerm → PlainTerm → Binder → PlainTerm = λ y v w c. bind c y v w in
    let n = bind_some (spelled_name x) (λ (y : List ℕ). both (binds y) (spelled_term s) (spelled_term t)) m.0 m.1 in
    let y : List ℕ = n.0 in
    let r = both_some (binds y) (spelled_term s) (spelled_term t) m.0 n.2 in
    let v : PlainTerm = r.0 in
    let w : PlainTerm = r.1 in
    let is : bind b y v w ≡ u = ap (λ (f : Binder → PlainTerm). f b) r.4 ∙ m.2 in
    let l = and_parts (casts_are_allowed v) (casts_are_allowed w) (ap casts_are_allowed is ∙ h) in
    let i = name_told x y n.1 in
    let j = f v r.2 l.0 in
    let k = g w r.3 l.1 in
    let c = i.0 in
    let d = j.tree in
    let e = k.tree in
    subst (TermTold (list (tree.more (atom (binder_word b)) (tree.more x (tree.more s (tree.more t tree.none)))))) is
    (record {
      tree = λ z. list (tree.more (atom (binder_word b)) (tree.more (c z) (tree.more (d z) (tree.more (e z) tree.none))));
      spelled = and_both (is_name y && is_spelled_term v) (is_spelled_term w) (and_both (is_name y) (is_spelled_term v) i.1 j.spelled) k.spelled;
    })

more_told : (t : Plain) (ts : Plains) (us : List PlainTerm) → TellsTerm t → TellsTerms ts → spelled_terms (tree.more t ts) ≡ Some us → all_casts_are_allowed (term_row us) ≡ true → TermsTold (tree.more t ts) us
more_told t ts us f g p h =
    let m = bind_some (spelled_term t) (λ (u : PlainTerm). option_map (λ (vs : List PlainTerm). u ∷ vs) (spelled_terms ts)) us p in
    let x : PlainTerm = m.0 in
    let n = mapped (λ (vs : List PlainTerm). x ∷ vs) (spelled_terms ts) us m.2 in
    let xs : List PlainTerm = n.0 in
    let is : x ∷ xs ≡ us = n.2 in
    let r = and_parts (casts_are_allowed x) (all_casts_are_allowed (term_row xs)) (ap (λ (l : List PlainTerm). all_casts_are_allowed (term_row l)) is ∙ h) in
    let j = f x m.1 r.0 in
    let k = g xs n.1 r.1 in
    let d = j.tree in
    let e = k.trees in
    subst (TermsTold (tree.more t ts)) is (record { trees = λ i. tree.more (d i) (e i); spelled = and_both (is_spelled_term x) (are_spelled_terms (term_row xs)) j.spelled k.spelled })

mutual
  pub term_told : (t : Plain) (u : PlainTerm) → spelled_term t ≡ Some u → casts_are_allowed u ≡ true → TermTold t u
  term_told (atom w) u p h = atom_told w u p
  term_told (list ts) u p h = list_told ts u p h

  list_told : (ts : Plains) (u : PlainTerm) → spelled_list ts ≡ Some u → casts_are_allowed u ≡ true → TermTold (list ts) u
  list_told tree.none u p h = cc
  list_told (tree.more (list us) ts) u p h = cc
  list_told (tree.more (atom w) ts) u p h =
      parts_told w ts u (λ us q k. terms_told ts us q k) (λ v q k. cast_told ts v q k) (λ b v q k. body_told ts b v q k) p h

  terms_told : (ts : Plains) (us : List PlainTerm) → spelled_terms ts ≡ Some us → all_casts_are_allowed (term_row us) ≡ true → TermsTold ts us
  terms_told tree.none us p h = subst (TermsTold tree.none) (same_some [] us p) (record { trees = refl; spelled = refl })
  terms_told (tree.more t ts) us p h = more_told t ts us (λ u q k. term_told t u q k) (λ vs q k. terms_told ts vs q k) p h

  cast_told : (ts : Plains) (u : PlainTerm) → spelled_cast ts ≡ Some u → casts_are_allowed u ≡ true → TermTold (list (tree.more (atom (codes "cast")) ts)) u
  cast_told tree.none u p h = cc
  cast_told (tree.more s tree.none) u p h = cc
  cast_told (tree.more s (tree.more t tree.none)) u p h = casted_told s t u (λ v q k. term_told t v q k) p h
  cast_told (tree.more s (tree.more t (tree.more v ts))) u p h = cc

  body_told : (ts : Plains) (b : Binder) (u : PlainTerm) → option_map (λ f. f b) (spelled_body ts) ≡ Some u → casts_are_allowed u ≡ true → TermTold (list (tree.more (atom (binder_word b)) ts)) u
  body_told tree.none b u p h = cc
  body_told (tree.more x tree.none) b u p h = cc
  body_told (tree.more x (tree.more s tree.none)) b u p h = cc
  body_told (tree.more x (tree.more s (tree.more t tree.none))) b u p h = bound_told x s t b u (λ v q k. term_told s v q k) (λ v q k. term_told t v q k) p h
  body_told (tree.more x (tree.more s (tree.more t (tree.more v ts)))) b u p h = cc
