-- Heads with terms put in spell the term that they spell, with terms put in.
use Rattle.std.proofs.Common.{◌≡◌, Bool, true, false, List, [], ◌∷◌, refl, ap, ◌∙◌, map, Bor}
use Rattle.kid_term.specs.PlainTerm.{PlainTerm}
use Rattle.kid_laws.specs.Law.{one, two, three}
use Rattle.kid_laws.specs.Applied.{PlainApplied, put_in}
use Rattle.kid_laws.specs.Instances.{PlainInstance, filled}
use Rattle.kid_term.specs.Simultaneous.{Subst, substituted}
use Rattle.kid_laws.specs.Steps.{first_term, other_terms, headed, spelled, term_of, plain_row}
use Rattle.kid_laws.specs.declared.step.Row.{Row}
use Rattle.kid_laws.specs.declared.step.Step.{Step}
use Rattle.kid_laws.specs.declared.step.Step.TheVariants as step

first-put : (σ : Subst) (ts : List PlainTerm) → first_term (map (substituted σ) ts) ≡ substituted σ (first_term ts)
first-put σ [] = refl
first-put σ (t ∷ ts) = refl

others-put : (σ : Subst) (ts : List PlainTerm) → other_terms (map (substituted σ) ts) ≡ map (substituted σ) (other_terms ts)
others-put σ [] = refl
others-put σ (t ∷ ts) = refl

headed-put : (σ : Subst) (s : Step) (ts : List PlainTerm) → headed σ s (map (substituted σ) ts) ≡ map (substituted σ) (headed [] s ts)
headed-put σ (step.Var x) ts = refl
headed-put σ (step.Int n) ts = refl
headed-put σ (step.Bool b) ts = refl
headed-put σ (step.Zero o) ts = refl
headed-put σ (step.One o) ts = λ i. one o (first-put σ ts i) ∷ others-put σ ts i
headed-put σ (step.Two o) ts =
    let e = ap other_terms (others-put σ ts) ∙ others-put σ (other_terms ts) in
    let f = ap first_term (others-put σ ts) ∙ first-put σ (other_terms ts) in
    λ i. two o (first-put σ ts i) (f i) ∷ e i
headed-put σ (step.Three o) ts =
    let e = ap other_terms (others-put σ ts) ∙ others-put σ (other_terms ts) in
    let f = ap first_term (others-put σ ts) ∙ first-put σ (other_terms ts) in
    let g = ap first_term e ∙ first-put σ (other_terms (other_terms ts)) in
    let h = ap other_terms e ∙ others-put σ (other_terms (other_terms ts)) in
    λ i. three o (first-put σ ts i) (f i) (g i) ∷ h i

spelled-put : (σ : Subst) (ss : List Step) → spelled σ ss ≡ map (substituted σ) (spelled [] ss)
spelled-put σ [] = refl
spelled-put σ (s ∷ ss) = ap (headed σ s) (spelled-put σ ss) ∙ headed-put σ s (spelled [] ss)

pub term_of-put : (σ : Subst) (ss : List Step) → term_of σ ss ≡ substituted σ (term_of [] ss)
term_of-put σ ss = ap first_term (spelled-put σ ss) ∙ first-put σ (spelled [] ss)

terms_of-put : (σ : Subst) (rows : List (Bor (List Step))) → map (λ c. term_of σ c.now) rows ≡ map (substituted σ) (map (λ c. term_of [] c.now) rows)
terms_of-put σ [] = refl
terms_of-put σ (r ∷ rows) = λ i. term_of-put σ r.now i ∷ terms_of-put σ rows i

abbrev pub instance_from : List PlainTerm → PlainTerm → PlainTerm → PlainInstance
instance_from cs l r = record { conditions = cs; left = l; right = r }

pub forth : (σ : Subst) (r : Row) (back : Bool) (cs : List PlainTerm) (t u : PlainTerm) → back ≡ false → cs ≡ map (λ c. term_of σ c.now) r.conditions.now → t ≡ term_of σ r.left.now → u ≡ term_of σ r.right.now
    → instance_from cs t u ≡ filled back σ (plain_row r)
forth σ r true cs t u b p q e = cc
forth σ r false cs t u b p q e =
    let f = p ∙ terms_of-put σ r.conditions.now in let g = q ∙ term_of-put σ r.left.now in let h = e ∙ term_of-put σ r.right.now in
    λ i. instance_from (f i) (g i) (h i)

pub back_again : (σ : Subst) (r : Row) (back : Bool) (cs : List PlainTerm) (t u : PlainTerm) → back ≡ true → cs ≡ map (λ c. term_of σ c.now) r.conditions.now → t ≡ term_of σ r.left.now → u ≡ term_of σ r.right.now
    → instance_from cs u t ≡ filled back σ (plain_row r)
back_again σ r false cs t u b p q e = cc
back_again σ r true cs t u b p q e =
    let f = p ∙ terms_of-put σ r.conditions.now in let g = q ∙ term_of-put σ r.left.now in let h = e ∙ term_of-put σ r.right.now in
    λ i. instance_from (f i) (h i) (g i)

abbrev applied_from : List PlainTerm → PlainTerm → PlainApplied
applied_from cs t = record { conditions = cs; term = t }

-- the conditions of a row and some heads, with terms put in
pub put_row : (σ : Subst) (r : Row) (side : List Step) (cs : List PlainTerm) (t : PlainTerm) → cs ≡ map (λ c. term_of σ c.now) r.conditions.now → t ≡ term_of σ side
    → applied_from cs t ≡ put_in (plain_row r) (term_of [] side) σ
put_row σ r side cs t p q = let f = p ∙ terms_of-put σ r.conditions.now in let g = q ∙ term_of-put σ side in λ i. applied_from (f i) (g i)
