-- A child among a list of terms, by its place.
use Rattle.std.proofs.Common.{◌≡◌, ℕ, ◌<◌, ◌≤◌, zero, suc, List, [], ◌∷◌, None, get_or, length, map, refl, sym, ap, ◌∙◌, subst, arith}
use Rattle.std.proofs.Math.ListN.{set}
use Rattle.kid_term.specs.PlainTerm.{PlainTerm, term, term_row}
use Rattle.kid_term.specs.TermView.{plain_term}
use Rattle.kid_term.specs.Places.{put_at, put_among}
use Rattle.kid_term.specs.Replacing.{subterm, subterm_among, Replaces, Refuses, ReplacesAmong, RefusesAmong}
use Rattle.kid_term.specs.declared.Term.{Term}

put_among-set : (ts : List Term) (i : ℕ) (path : List ℕ) (new : PlainTerm) (t u : Term) → i < length ts → t ≡ get_or ts i t → plain_term u ≡ put_at (plain_term t) path new
    → (w : Term) → term_row (map plain_term (set (set ts i w) i u)) ≡ put_among (term_row (map plain_term ts)) i path new
put_among-set [] i path new t u p q e w = absurd (omega arith)
put_among-set (x ∷ ts) zero path new t u p q e w = ap (λ z. term z (term_row (map plain_term ts))) (e ∙ ap (λ z. put_at (plain_term z) path new) q)
put_among-set (x ∷ ts) (suc i) path new t u p q e w = ap (term (plain_term x)) (put_among-set ts i path new t u (omega arith) q e w)

same-set : (ts : List Term) (i : ℕ) (t u w : Term) → i < length ts → t ≡ get_or ts i t → plain_term u ≡ plain_term t → term_row (map plain_term (set (set ts i w) i u)) ≡ term_row (map plain_term ts)
same-set [] i t u w p q e = absurd (omega arith)
same-set (x ∷ ts) zero t u w p q e = ap (λ z. term z (term_row (map plain_term ts))) (e ∙ ap plain_term q)
same-set (x ∷ ts) (suc i) t u w p q e = ap (term (plain_term x)) (same-set ts i t u w (omega arith) q e)

pub subterm_among-at : (ts : List Term) (i : ℕ) (path : List ℕ) (t : Term) → i < length ts → t ≡ get_or ts i t → subterm_among (term_row (map plain_term ts)) i path ≡ subterm (plain_term t) path
subterm_among-at [] i path t p q = absurd (omega arith)
subterm_among-at (x ∷ ts) zero path t p q = ap (λ z. subterm (plain_term z) path) (sym q)
subterm_among-at (x ∷ ts) (suc i) path t p q = subterm_among-at ts i path t (omega arith) q

pub replaces_among : (all : List PlainTerm) (ts : List Term) (i : ℕ) (path : List ℕ) (new old : PlainTerm) (t u w : Term) → map plain_term ts ≡ all → i < length ts → t ≡ get_or ts i t
    → Replaces (plain_term t) path new (plain_term u) old → ReplacesAmong (term_row all) i path new (term_row (map plain_term (set (set ts i w) i u))) old
replaces_among all ts i path new old t u w e p q r =
    subst (λ z. ReplacesAmong (term_row z) i path new (term_row (map plain_term (set (set ts i w) i u))) old) e
    (record { is = put_among-set ts i path new t u p q r.is w; stood = subterm_among-at ts i path t p q ∙ r.stood })

pub refuses_among : (all : List PlainTerm) (ts : List Term) (i : ℕ) (path : List ℕ) (new again : PlainTerm) (t u w : Term) → map plain_term ts ≡ all → i < length ts → t ≡ get_or ts i t
    → Refuses (plain_term t) path new (plain_term u) again → RefusesAmong (term_row all) i path new (term_row (map plain_term (set (set ts i w) i u))) again
refuses_among all ts i path new again t u w e p q r =
    subst (λ z. RefusesAmong (term_row z) i path new (term_row (map plain_term (set (set ts i w) i u))) again) e
    (record { same = same-set ts i t u w p q r.same; given = r.given; absent = subterm_among-at ts i path t p q ∙ r.absent })

pub subterm_among-past : (ts : List Term) (i : ℕ) (path : List ℕ) → length ts ≤ i → subterm_among (term_row (map plain_term ts)) i path ≡ None
subterm_among-past [] i path p = refl
subterm_among-past (x ∷ ts) zero path p = absurd (omega arith)
subterm_among-past (x ∷ ts) (suc i) path p = subterm_among-past ts i path (omega arith)

pub refuses_past : (all : List PlainTerm) (ts : List Term) (i : ℕ) (path : List ℕ) (new : PlainTerm) → map plain_term ts ≡ all → length ts ≤ i
    → RefusesAmong (term_row all) i path new (term_row (map plain_term ts)) new
refuses_past all ts i path new e p =
    subst (λ z. RefusesAmong (term_row z) i path new (term_row (map plain_term ts)) new) e (record { same = refl; given = refl; absent = subterm_among-past ts i path p })
