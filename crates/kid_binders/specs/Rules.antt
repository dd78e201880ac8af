-- The rules by their numbers.
use Rattle.std.specs.Prelude.{ℕ, Bool, true, false, nat_eq, cond, List, [], ◌∷◌}
use Rattle.kid_term.specs.PlainTerm.{PlainTerm}
use Rattle.kid_binders.specs.Outcome.{Outcome, no_match}
use Rattle.kid_binders.specs.Naming.{b1}
use Rattle.kid_binders.specs.Settled.{b2, b3, b11, b15}
use Rattle.kid_binders.specs.Instances.{b4, b5, b16, b18}
use Rattle.kid_binders.specs.Parted.{b6, b6_back, b7, b7_back, b12, b12_back}
use Rattle.kid_binders.specs.Bodies.{b8, b8_back, b9, b9_back, b10, b10_back}
use Rattle.kid_binders.specs.Gathered.{b13, b14, b17, b17_back}

-- the rule of the number among some
abbrev pub chosen : {A : Type 0} → ℕ → List (ℕ × A) → A → A
chosen n [] other = other
chosen n (r ∷ rs) other = cond (nat_eq n r.0) r.1 (chosen n rs other)

-- those without an argument
abbrev pub forth_rules : PlainTerm → List (ℕ × Outcome)
forth_rules t =
    (2, b2 t) ∷ (3, b3 t) ∷ (4, b4 t) ∷ (5, b5 t) ∷ (6, b6 t) ∷ (7, b7 t) ∷ (8, b8 t) ∷ (9, b9 t) ∷ (10, b10 t) ∷ (11, b11 t) ∷ (13, b13 t) ∷ (14, b14 t) ∷ (15, b15 t) ∷ (16, b16 t) ∷ (17, b17 t) ∷ []

abbrev pub forth : ℕ → PlainTerm → Outcome
forth n t = chosen n (forth_rules t) no_match

-- those with an argument
abbrev pub given_rules : PlainTerm → PlainTerm → List (ℕ × Outcome)
given_rules a t = (1, b1 a t) ∷ (12, b12 a t) ∷ (18, b18 a t) ∷ []

abbrev pub given : ℕ → PlainTerm → PlainTerm → Outcome
given n a t = chosen n (given_rules a t) no_match

-- those with a direction back
abbrev pub turned_rules : PlainTerm → List (ℕ × Outcome)
turned_rules t = (6, b6_back t) ∷ (7, b7_back t) ∷ (8, b8_back t) ∷ (9, b9_back t) ∷ (10, b10_back t) ∷ (12, b12_back t) ∷ (17, b17_back t) ∷ []

abbrev pub turned : ℕ → PlainTerm → Outcome
turned n t = chosen n (turned_rules t) no_match

abbrev pub bound_by : ℕ → Bool → List PlainTerm → PlainTerm → Outcome
bound_by n false [] t = forth n t
bound_by n false (a ∷ []) t = given n a t
bound_by n true [] t = turned n t
bound_by n back args t = no_match
