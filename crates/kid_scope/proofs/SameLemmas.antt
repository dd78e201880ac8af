-- The test for one term says so exactly where it is one.
use Rattle.std.proofs.Common.{◌≡◌, ℕ, ℤ, Bool, true, false, refl, sym, ap, subst, cond, arith}
use Rattle.std.specs.Prelude.{◌↔◌, IsTrue, not, ◌&&◌, nat_eq}
use Rattle.std.specs.Ordering.{int_eq}
use Rattle.std.proofs.lemmas.Bool.Decides.{nat_tests}
use Rattle.std.proofs.lemmas.Int.{ints as int_rules}
use base.Stored.{Gv, gnil, gnum, gcons}
use Rattle.kid_value.proofs.SortLemmas.{and_parts, and_both}
use Rattle.kid_value.specs.SortCode.{sort_code, sort_inj}
use Rattle.kid_term.specs.Names.{same_name}
use Rattle.kid_term.specs.PlainTerm.{PlainHead, op, call, cast, PlainTerm, var, number, truth, tag, app, bind, PlainTerms, no_term, term}
use Rattle.kid_term.specs.contracts.operator.Op as contract_of_op
use Rattle.kid_term.specs.contracts.operator.Binder as contract_of_binder
use Rattle.kid_term.proofs.EvalLemmas.{same_name-itself, same_name-true}
use Rattle.kid_scope.specs.Same.{same_code, same_binder, same_head, same_term, same_terms}

same_code-itself : (a : Gv) → same_code a a ≡ true
same_code-itself gnil = refl
same_code-itself (gnum n) = grind (arith, nat_tests)
same_code-itself (gcons a b) = and_both (same_code a a) (same_code b b) (same_code-itself a) (same_code-itself b)

same_code-true : (a b : Gv) → same_code a b ≡ true → a ≡ b
same_code-true gnil gnil p = refl
same_code-true (gnum m) (gnum n) p = ap gnum (equal m n p)
  where
    equal : (m n : ℕ) → nat_eq m n ≡ true → m ≡ n
    equal m n p = grind (arith, nat_tests)
same_code-true (gcons a b) (gcons c d) p =
    let r = and_parts (same_code a c) (same_code b d) p in
    let e = same_code-true a c r.0 in let f = same_code-true b d r.1 in λ i. gcons (e i) (f i)
same_code-true a b p = cc

same_number-true : (m n : ℤ) → int_eq m n ≡ true → m ≡ n
same_number-true m n p = grind (arith, int_rules)

same_number-itself : (n : ℤ) → int_eq n n ≡ true
same_number-itself n = grind (arith, int_rules)

same_truth-true : (b c : Bool) → cond b c (not c) ≡ true → b ≡ c
same_truth-true true true p = refl
same_truth-true true false p = cc
same_truth-true false true p = cc
same_truth-true false false p = refl

same_truth-itself : (b : Bool) → cond b b (not b) ≡ true
same_truth-itself true = refl
same_truth-itself false = refl

same_head-true : (h k : PlainHead) → same_head h k ≡ true → h ≡ k
same_head-true (op o) (op p) e = ap op (contract_of_op.the_row.coded.inj o p (same_code-true (contract_of_op.the_row.coded.code o) (contract_of_op.the_row.coded.code p) e))
same_head-true (call f) (call g) e = ap call (same_name-true f g e)
same_head-true (cast s) (cast t) e = ap cast (sort_inj s t (same_code-true (sort_code s) (sort_code t) e))
same_head-true h k e = cc

same_head-itself : (h : PlainHead) → same_head h h ≡ true
same_head-itself (op o) = same_code-itself (contract_of_op.the_row.coded.code o)
same_head-itself (call f) = same_name-itself f
same_head-itself (cast s) = same_code-itself (sort_code s)

mutual
  pub same_term-true : (t u : PlainTerm) → same_term t u ≡ true → t ≡ u
  same_term-true (var x) (var y) p = ap var (same_name-true x y p)
  same_term-true (number m) (number n) p = ap number (same_number-true m n p)
  same_term-true (truth b) (truth c) p = ap truth (same_truth-true b c p)
  same_term-true (tag m) (tag n) p = ap tag (same_name-true m n p)
  same_term-true (app h ts) (app k us) p =
      let r = and_parts (same_head h k) (same_terms ts us) p in
      let e = same_head-true h k r.0 in let f = same_terms-true ts us r.1 in λ i. app (e i) (f i)
  same_term-true (bind b x s t) (bind c y u v) p =
      let r = and_parts (same_binder b c && same_name x y && same_term s u) (same_term t v) p in
      let q = and_parts (same_binder b c && same_name x y) (same_term s u) r.0 in
      let w = and_parts (same_binder b c) (same_name x y) q.0 in
      let d = contract_of_binder.the_row.coded.inj b c (same_code-true (contract_of_binder.the_row.coded.code b) (contract_of_binder.the_row.coded.code c) w.0) in
      let e = same_name-true x y w.1 in
      let f = same_term-true s u q.1 in
      let g = same_term-true t v r.1 in
      λ i. bind (d i) (e i) (f i) (g i)
  same_term-true t u p = cc

  pub same_terms-true : (ts us : PlainTerms) → same_terms ts us ≡ true → ts ≡ us
  same_terms-true no_term no_term p = refl
  same_terms-true (term t ts) (term u us) p =
      let r = and_parts (same_term t u) (same_terms ts us) p in
      let e = same_term-true t u r.0 in let f = same_terms-true ts us r.1 in λ i. term (e i) (f i)
  same_terms-true ts us p = cc

mutual
  pub same_term-itself : (t : PlainTerm) → same_term t t ≡ true
  same_term-itself (var x) = same_name-itself x
  same_term-itself (number n) = same_number-itself n
  same_term-itself (truth b) = same_truth-itself b
  same_term-itself (tag n) = same_name-itself n
  same_term-itself (app h ts) = and_both (same_head h h) (same_terms ts ts) (same_head-itself h) (same_terms-itself ts)
  same_term-itself (bind b x s t) =
      and_both (same_binder b b && same_name x x && same_term s s) (same_term t t)
      (and_both (same_binder b b && same_name x x) (same_term s s)
      (and_both (same_binder b b) (same_name x x) (same_code-itself (contract_of_binder.the_row.coded.code b)) (same_name-itself x)) (same_term-itself s)) (same_term-itself t)

  pub same_terms-itself : (ts : PlainTerms) → same_terms ts ts ≡ true
  same_terms-itself no_term = refl
  same_terms-itself (term t ts) = and_both (same_term t t) (same_terms ts ts) (same_term-itself t) (same_terms-itself ts)

-- a test that tells whether they are equal is the same test
pub same_term-decides : (b : Bool) (t u : PlainTerm) → IsTrue b ↔ (t ≡ u) → b ≡ same_term t u
same_term-decides true t u h = sym (subst (λ z. same_term t z ≡ true) (h.0 refl) (same_term-itself t))
same_term-decides false t u h = by (same_term t u) refl
  where
    by : (c : Bool) → same_term t u ≡ c → false ≡ c
    by true e = let k = h.1 (same_term-true t u e) in cc
    by false e = refl
