-- How the logic stores a term.
use Rattle.std.specs.Prelude.{◌≡◌, ◌⊎◌, ℕ, List, refl}
use Rattle.std.proofs.Common.{ap, inl, inr}
use Rattle.std.specs.Coded.{Coded, code_by, coded_ℕ, coded_ℤ, coded_bool, coded_list, coded⊎}
use base.Stored.{Gv, gnil, gcons}
use Rattle.kid_value.specs.PlainSort.{PlainSort}
use Rattle.kid_value.specs.SortCode.{coded_sort, left_of, right_of, mark}
use Rattle.kid_term.specs.declared.operator.Op.{Op}
use Rattle.kid_term.specs.contracts.operator.Op as contract_of_op
use Rattle.kid_term.specs.contracts.operator.Binder as contract_of_binder
use Rattle.kid_term.specs.PlainTerm.{PlainHead, op, call, cast, PlainTerm, var, number, truth, tag, app, bind, PlainTerms, no_term, term, depths, term_row}

abbrev pub coded_name : Coded (List ℕ)
coded_name = coded_list coded_ℕ

abbrev pub head_parts : PlainHead → Op ⊎ (List ℕ ⊎ PlainSort)
head_parts (op o) = inl o
head_parts (call f) = inr (inl f)
head_parts (cast s) = inr (inr s)

abbrev pub head_from : Op ⊎ (List ℕ ⊎ PlainSort) → PlainHead
head_from (inl o) = op o
head_from (inr (inl f)) = call f
head_from (inr (inr s)) = cast s

pub head_from-parts : (h : PlainHead) → head_from (head_parts h) ≡ h
head_from-parts (op o) = refl
head_from-parts (call f) = refl
head_from-parts (cast s) = refl

abbrev pub coded_head : Coded PlainHead
coded_head = code_by (Op ⊎ (List ℕ ⊎ PlainSort)) (coded⊎ contract_of_op.the_row.coded (coded⊎ coded_name coded_sort)) head_parts head_from head_from-parts

abbrev mutual
  pub term_code : PlainTerm → Gv
  term_code (var x) = gcons (mark 0) (coded_name.code x)
  term_code (number n) = gcons (mark 1) (coded_ℤ.code n)
  term_code (truth b) = gcons (mark 2) (coded_bool.code b)
  term_code (tag n) = gcons (mark 5) (coded_name.code n)
  term_code (app h ts) = gcons (mark 3) (gcons (coded_head.code h) (term_codes ts))
  term_code (bind b x s t) = gcons (mark 4) (gcons (contract_of_binder.the_row.coded.code b) (gcons (coded_name.code x) (gcons (term_code s) (term_code t))))

  pub term_codes : PlainTerms → Gv
  term_codes no_term = gnil
  term_codes (term t ts) = gcons (term_code t) (term_codes ts)

mutual
  pub term_inj : (s t : PlainTerm) → term_code s ≡ term_code t → s ≡ t
  term_inj (var x) (var y) p = ap var (coded_name.inj x y (ap right_of p))
  term_inj (number m) (number n) p = ap number (coded_ℤ.inj m n (ap right_of p))
  term_inj (truth a) (truth b) p = ap truth (coded_bool.inj a b (ap right_of p))
  term_inj (tag m) (tag n) p = ap tag (coded_name.inj m n (ap right_of p))
  term_inj (app h ts) (app g us) p =
      let e = coded_head.inj h g (ap (λ z. left_of (right_of z)) p) in
      let f = terms_inj ts us (ap (λ z. right_of (right_of z)) p) in
      λ i. app (e i) (f i)
  term_inj (bind b x s t) (bind c y u v) p =
      let e = contract_of_binder.the_row.coded.inj b c (ap (λ z. left_of (right_of z)) p) in
      let f = coded_name.inj x y (ap (λ z. left_of (right_of (right_of z))) p) in
      let g = term_inj s u (ap (λ z. left_of (right_of (right_of (right_of z)))) p) in
      let h = term_inj t v (ap (λ z. right_of (right_of (right_of (right_of z)))) p) in
      λ i. bind (e i) (f i) (g i) (h i)
  term_inj s t p = cc

  pub terms_inj : (s t : PlainTerms) → term_codes s ≡ term_codes t → s ≡ t
  terms_inj no_term no_term p = refl
  terms_inj (term t ts) (term u us) p = let e = term_inj t u (ap left_of p) in let f = terms_inj ts us (ap right_of p) in λ i. term (e i) (f i)
  terms_inj s t p = cc

abbrev pub coded_term : Coded PlainTerm
coded_term = record { code = term_code; inj = term_inj }

abbrev pub coded_terms : Coded (List PlainTerm)
coded_terms = coded_list coded_term

-- the depth of a list
abbrev pub list_depth : List PlainTerm → ℕ
list_depth ts = depths (term_row ts)
