-- Theories of one key are one.
use Rattle.std.proofs.Common.{◌≡◌, ℕ, List, [], refl, sym, ap, subst}
use base.Stored.{Gv, gnil, gnum, gcons}
use Rattle.kid_term.specs.PlainTerm.{PlainTerm}
use Rattle.kid_term.specs.PlainTheory.{PlainTheory}
use Rattle.kid_term.specs.Names.{Names}
use Rattle.kid_kernel.specs.TheoryCode.{coded_theory}
use Rattle.kid_kernel.specs.Key.{spelled, key}
use Rattle.kid_kernel.specs.Held.{Held, HeldOver}

same_spelling : (g h : Gv) (r q : List ℕ) → spelled g r ≡ spelled h q → (g ≡ h) × (r ≡ q)
same_spelling gnil gnil r q e = (refl, cc)
same_spelling (gnum m) (gnum n) r q e = (let f : m ≡ n = cc in ap gnum f, cc)
same_spelling (gcons a b) (gcons c d) r q e =
    let f : spelled a (spelled b r) ≡ spelled c (spelled d q) = cc in
    let k = same_spelling a c (spelled b r) (spelled d q) f in
    let l = same_spelling b d r q k.1 in
    (λ i. gcons (k.0 i) (l.0 i), l.1)
same_spelling g h r q e = cc

pub one_theory : (t u : PlainTheory) → key t ≡ key u → t ≡ u
unfolding key
one_theory t u e = coded_theory.inj t u (same_spelling (coded_theory.code t) (coded_theory.code u) [] [] e).0

pub over_its_key : (t : PlainTheory) (names : Names) (start facts : List PlainTerm) → Held t names start facts → HeldOver (key t) names start facts
over_its_key t names start facts h u e = subst (λ z. Held z names start facts) (sym (one_theory u t e)) h
