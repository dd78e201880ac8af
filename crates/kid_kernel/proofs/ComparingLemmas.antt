-- Conditions that compare two terms, and conjunctions.
use Rattle.std.proofs.Common.{◌≡◌, ◌≢◌, Bool, false, List, [], ◌∷◌, Option, Some, None, Result, map, length, refl, sym, ap, ◌∙◌, subst}
use Rattle.std.specs.Prelude.{◌&&◌, ◌||◌, IfOk}
use Rattle.kid_term.specs.PlainTerm.{op, PlainTerm, app, no_term, term, term_row}
use Rattle.kid_term.specs.TermView.{plain_term}
use Rattle.kid_term.specs.Names.{PlainDef}
use Rattle.kid_term.specs.declared.Term.{Term}
use Rattle.kid_term.specs.declared.operator.Op.TheVariants.{Logic}
use Rattle.kid_term.specs.declared.operator.LogicOp.TheVariants.{And}
use Rattle.kid_scope.specs.Holds.{holds_whole, is_held}
use Rattle.kid_scope.specs.Scope.{PlainScope}
use Rattle.kid_kernel.specs.Comparing as spec
use Rattle.kid_kernel.specs.Comparing.{PlainComparison, is_at_most, is_below}

abbrev and_of : List Term → PlainTerm
and_of ts = app (op (Logic And)) (term_row (map plain_term ts))

pub two_parts : (ts : List Term) (a b : Term) → ts ≡ a ∷ b ∷ [] → spec.conjuncts (and_of ts) ≡ Some (plain_term a, plain_term b)
two_parts ts a b e = ap (λ l. spec.conjuncts (and_of l)) e

pub no_parts : (ts : List Term) → length ts ≢ 2 → spec.conjuncts (and_of ts) ≡ None
no_parts [] n = refl
no_parts (a ∷ []) n = refl
no_parts (a ∷ b ∷ []) n = absurd (n refl)
no_parts (a ∷ b ∷ c ∷ ts) n = refl

pub at_most_two : (ts : List Term) (a b : Term) → ts ≡ a ∷ b ∷ [] → Some (is_at_most (plain_term a) (plain_term b)) ≡ spec.at_most (term_row (map plain_term ts))
at_most_two ts a b e = sym (ap (λ l. spec.at_most (term_row (map plain_term l))) e)

pub at_most_others : (ts : List Term) → length ts ≢ 2 → None ≡ spec.at_most (term_row (map plain_term ts))
at_most_others [] n = refl
at_most_others (a ∷ []) n = refl
at_most_others (a ∷ b ∷ []) n = absurd (n refl)
at_most_others (a ∷ b ∷ c ∷ ts) n = refl

pub below_two : (ts : List Term) (a b : Term) → ts ≡ a ∷ b ∷ [] → Some (is_below (plain_term a) (plain_term b)) ≡ spec.below (term_row (map plain_term ts))
below_two ts a b e = sym (ap (λ l. spec.below (term_row (map plain_term l))) e)

pub below_others : (ts : List Term) → length ts ≢ 2 → None ≡ spec.below (term_row (map plain_term ts))
below_others [] n = refl
below_others (a ∷ []) n = refl
below_others (a ∷ b ∷ []) n = absurd (n refl)
below_others (a ∷ b ∷ c ∷ ts) n = refl

pub above_two : (ts : List Term) (a b : Term) → ts ≡ a ∷ b ∷ [] → Some (is_below (plain_term b) (plain_term a)) ≡ spec.above (term_row (map plain_term ts))
above_two ts a b e = sym (ap (λ l. spec.above (term_row (map plain_term l))) e)

pub above_others : (ts : List Term) → length ts ≢ 2 → None ≡ spec.above (term_row (map plain_term ts))
above_others [] n = refl
above_others (a ∷ []) n = refl
above_others (a ∷ b ∷ []) n = absurd (n refl)
above_others (a ∷ b ∷ c ∷ ts) n = refl

pub turned_one : (ts : List Term) (a : Term) → ts ≡ a ∷ [] → spec.turned (plain_term a) ≡ spec.not_at_most (term_row (map plain_term ts))
turned_one ts a e = sym (ap (λ l. spec.not_at_most (term_row (map plain_term l))) e)

pub turned_others : (ts : List Term) → length ts ≢ 1 → None ≡ spec.not_at_most (term_row (map plain_term ts))
turned_others [] n = refl
turned_others (a ∷ []) n = absurd (n refl)
turned_others (a ∷ b ∷ ts) n = refl

-- ---- what the definitions make of them

abbrev Parts : Type 0
Parts = Option (PlainTerm × PlainTerm)

abbrev two : PlainTerm → PlainTerm → PlainTerm × PlainTerm
two a b = (a, b)

abbrev some_parts : PlainTerm → PlainTerm → Parts
some_parts a b = Some (a, b)

abbrev without_parts : Parts
without_parts = None

pub same_parts : (u v a b : PlainTerm) → some_parts u v ≡ some_parts a b → (u ≡ a) × (v ≡ b)
same_parts u v a b e = let k : two u v ≡ two a b = cc in (ap (λ (p : PlainTerm × PlainTerm). p.0) k, ap (λ (p : PlainTerm × PlainTerm). p.1) k)

pub nothing_there : (a b : PlainTerm) → without_parts ≡ some_parts a b → ⊥
nothing_there a b e = cc

module _ (defs : List PlainDef) (sc : PlainScope) where
  pub held_parts : (c a b : PlainTerm) → spec.conjuncts c ≡ Some (a, b) → holds_whole defs sc c ≡ false → is_held defs sc c ≡ (is_held defs sc a && is_held defs sc b)
  held_parts (app (op (Logic And)) (term u (term v no_term))) a b e p =
      let k = same_parts u v a b e in
      ap (λ z. z || (is_held defs sc u && is_held defs sc v)) p ∙ (λ i. is_held defs sc (k.0 i) && is_held defs sc (k.1 i))
  held_parts c a b e p = absurd (nothing_there a b e)

  pub parts_found : {E : Type 0} (found : Result Bool E) (c a b : PlainTerm) → spec.conjuncts c ≡ Some (a, b) → holds_whole defs sc c ≡ false
      → IfOk found (λ t. t ≡ (is_held defs sc a && is_held defs sc b)) → IfOk found (λ t. t ≡ is_held defs sc c)
  parts_found found c a b e p h = subst (λ z. IfOk found (λ t. t ≡ z)) (sym (held_parts c a b e p)) h
