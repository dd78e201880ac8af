-- What is proved and what is assumed among claims, with one more.
use Rattle.std.proofs.Common.{◌≡◌, ℕ, List, [], ◌∷◌, ◌++◌, map, length, refl, sym, ap, ◌∙◌, append_assoc, append-nil, arith}
use Rattle.std.proofs.lemmas.List.{map-append}
use Rattle.kid_term.specs.PlainLaw.{PlainLaw}
use Rattle.kid_theory.specs.Before.{laws_with, axioms_with}
use Rattle.kid_theory.specs.Claims.{PlainClaim, assumed, proved, proved_among, assumed_among}
use Rattle.kid_theory.specs.ClaimView.{plain_claim}
use Rattle.kid_theory.specs.declared.claims.Claim.{Claim}

one_proved : (cs : List PlainClaim) (c : PlainClaim) → proved_among (cs ++ c ∷ []) ≡ laws_with (proved_among cs) c
one_proved [] (assumed l) = refl
one_proved [] (proved l moves) = refl
one_proved (assumed l ∷ cs) c = one_proved cs c
one_proved (proved l moves ∷ cs) (assumed k) = ap (λ (ls : List PlainLaw). l ∷ ls) (one_proved cs (assumed k))
one_proved (proved l moves ∷ cs) (proved k others) = ap (λ (ls : List PlainLaw). l ∷ ls) (one_proved cs (proved k others))

one_assumed : (cs : List PlainClaim) (c : PlainClaim) → assumed_among (cs ++ c ∷ []) ≡ axioms_with (assumed_among cs) c
one_assumed [] (assumed l) = refl
one_assumed [] (proved l moves) = refl
one_assumed (proved l moves ∷ cs) c = one_assumed cs c
one_assumed (assumed l ∷ cs) (assumed k) = ap (λ (ls : List PlainLaw). l ∷ ls) (one_assumed cs (assumed k))
one_assumed (assumed l ∷ cs) (proved k others) = ap (λ (ls : List PlainLaw). l ∷ ls) (one_assumed cs (proved k others))

-- the laws so far are those that are proved, and the axioms those that are assumed
pub record ArePartedOf (cs : List Claim) (laws axioms : List PlainLaw) : Type 0 where
  pub laws_are : laws ≡ proved_among (map plain_claim cs)
  pub axioms_are : axioms ≡ assumed_among (map plain_claim cs)

pub none_parted : (laws axioms : List PlainLaw) → laws ≡ [] → axioms ≡ [] → ArePartedOf [] laws axioms
none_parted laws axioms e f = record { laws_are = e; axioms_are = f }

pub one_parted : (cs : List Claim) (c : Claim) (laws axioms more_laws more_axioms : List PlainLaw) → ArePartedOf cs laws axioms → more_laws ≡ laws_with laws (plain_claim c) → more_axioms ≡ axioms_with axioms (plain_claim c)
    → ArePartedOf (cs ++ c ∷ []) more_laws more_axioms
one_parted cs c laws axioms more_laws more_axioms are e f =
    let all = map-append plain_claim cs (c ∷ []) in
    record {
      laws_are = e ∙ ap (λ ls. laws_with ls (plain_claim c)) are.laws_are ∙ sym (one_proved (map plain_claim cs) (plain_claim c)) ∙ ap proved_among (sym all);
      axioms_are = f ∙ ap (λ ls. axioms_with ls (plain_claim c)) are.axioms_are ∙ sym (one_assumed (map plain_claim cs) (plain_claim c)) ∙ ap assumed_among (sym all);
    }

-- the first of the claims that are left is taken
pub taken_next : (done left more all : List Claim) (c : Claim) → done ++ left ≡ all → left ≡ c ∷ more → (done ++ c ∷ []) ++ more ≡ all
taken_next done left more all c whole is = append_assoc done (c ∷ []) more ∙ ap (λ (cs : List Claim). done ++ cs) (sym is) ∙ whole

-- none is left
pub none_left : (done left all : List Claim) (n : ℕ) → done ++ left ≡ all → length left ≡ n → n ≡ 0 → done ≡ all
none_left done [] all n whole l e = sym (append-nil done) ∙ whole
none_left done (c ∷ left) all n whole l e = absurd (omega (arith, l, e))

pub parted_all : (done all : List Claim) (laws axioms : List PlainLaw) → ArePartedOf done laws axioms → done ≡ all → (laws ≡ proved_among (map plain_claim all)) × (axioms ≡ assumed_among (map plain_claim all))
parted_all done all laws axioms are is =
    (are.laws_are ∙ ap (λ (cs : List Claim). proved_among (map plain_claim cs)) is, are.axioms_are ∙ ap (λ (cs : List Claim). assumed_among (map plain_claim cs)) is)
