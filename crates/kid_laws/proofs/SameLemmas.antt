-- The test for one term says so exactly where it is one.
use Rattle.std.proofs.Common.{◌≡◌, ℕ, Bool, true, false, refl, sym, ap, subst, arith}
use Rattle.std.specs.Prelude.{◌↔◌, IsTrue, nat_eq}
use Rattle.std.proofs.lemmas.Bool.Decides.{nat_tests}
use base.Stored.{Gv, gnil, gnum, gcons}
use Rattle.kid_value.proofs.SortLemmas.{and_parts, and_both}
use Rattle.kid_term.specs.PlainTerm.{PlainTerm}
use Rattle.kid_term.specs.TermCode.{term_code, term_inj}
use Rattle.kid_laws.specs.Same.{same_code, same_term}

same_code-itself : (a : Gv) → same_code a a ≡ true
same_code-itself gnil = refl
same_code-itself (gnum n) = grind (arith, nat_tests)
same_code-itself (gcons a b) = and_both (same_code a a) (same_code b b) (same_code-itself a) (same_code-itself b)

same_code-true : (a b : Gv) → same_code a b ≡ true → a ≡ b
same_code-true gnil gnil p = refl
same_code-true (gnum m) (gnum n) p = ap gnum (equal m n p)
  where
    equal : (m n : ℕ) → nat_eq m n ≡ true → m ≡ n
    equal m n p = grind (arith, nat_tests)
same_code-true (gcons a b) (gcons c d) p =
    let r = and_parts (same_code a c) (same_code b d) p in
    let e = same_code-true a c r.0 in let f = same_code-true b d r.1 in λ i. gcons (e i) (f i)
same_code-true a b p = cc

pub same_term-true : (t u : PlainTerm) → same_term t u ≡ true → t ≡ u
unfolding same_term
same_term-true t u p = term_inj t u (same_code-true (term_code t) (term_code u) p)

pub same_term-itself : (t : PlainTerm) → same_term t t ≡ true
unfolding same_term
same_term-itself t = same_code-itself (term_code t)

pub same_term-decides : (b : Bool) (t u : PlainTerm) → IsTrue b ↔ (t ≡ u) → b ≡ same_term t u
same_term-decides true t u h = sym (subst (λ z. same_term t z ≡ true) (h.0 refl) (same_term-itself t))
same_term-decides false t u h = by (same_term t u) refl
  where
    by : (c : Bool) → same_term t u ≡ c → false ≡ c
    by true e = let k = h.1 (same_term-true t u e) in cc
    by false e = refl
