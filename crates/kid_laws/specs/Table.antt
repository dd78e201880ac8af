-- The table: each law at its number.
use Rattle.std.specs.Prelude.{ℕ, zero, suc, List, [], ◌∷◌, ◌++◌, Option, Some, None}
use Rattle.kid_laws.specs.Law.{Law}
use Rattle.kid_laws.specs.LogicLaws.{e1, e2, e3, e4, e5, e6, e7, e8, e9, e10, e11, e12, e13, m1}
use Rattle.kid_laws.specs.NumberLaws.{e14, e15, e16, e17, e18, e19, e21, e22, e23, e24, e25, e26, e27, m2, m3, m5}
use Rattle.kid_laws.specs.SetLaws.{e28, e29, e30, e31, e32, e33, e34, e35, e36, e37, e38, e39, e40, e41, m6, m7, m8, m9, m10, m11, m12, m13, m14}
use Rattle.kid_laws.specs.SequenceLaws.{e42, e43, e44, e45, e46, m15, m16, m17, m18}
use Rattle.kid_laws.specs.MapLaws.{e20, e47, e48, m4, m19, m20}
use Rattle.kid_laws.specs.declared.kind.LawKind.{LawKind}
use Rattle.kid_laws.specs.declared.kind.LawKind.TheVariants.{Equation, Implication}

unfoldable pub first_equations : List Law
first_equations = e1 ∷ e2 ∷ e3 ∷ e4 ∷ e5 ∷ e6 ∷ e7 ∷ e8 ∷ e9 ∷ e10 ∷ e11 ∷ e12 ∷ []

unfoldable pub second_equations : List Law
second_equations = e13 ∷ e14 ∷ e15 ∷ e16 ∷ e17 ∷ e18 ∷ e19 ∷ e20 ∷ e21 ∷ e22 ∷ e23 ∷ e24 ∷ []

unfoldable pub third_equations : List Law
third_equations = e25 ∷ e26 ∷ e27 ∷ e28 ∷ e29 ∷ e30 ∷ e31 ∷ e32 ∷ e33 ∷ e34 ∷ e35 ∷ e36 ∷ []

unfoldable pub fourth_equations : List Law
fourth_equations = e37 ∷ e38 ∷ e39 ∷ e40 ∷ e41 ∷ e42 ∷ e43 ∷ e44 ∷ e45 ∷ e46 ∷ e47 ∷ e48 ∷ []

unfoldable pub first_implications : List Law
first_implications = m1 ∷ m2 ∷ m3 ∷ m4 ∷ m5 ∷ m6 ∷ m7 ∷ m8 ∷ m9 ∷ m10 ∷ []

unfoldable pub second_implications : List Law
second_implications = m11 ∷ m12 ∷ m13 ∷ m14 ∷ m15 ∷ m16 ∷ m17 ∷ m18 ∷ m19 ∷ m20 ∷ []

abbrev pub equations : List Law
equations = first_equations ++ (second_equations ++ (third_equations ++ fourth_equations))

abbrev pub implications : List Law
implications = first_implications ++ second_implications

-- the law of a number, counted from 1
abbrev pub law_at : {L : Type 0} → List L → ℕ → Option L
law_at ls zero = None
law_at [] (suc i) = None
law_at (l ∷ ls) (suc zero) = Some l
law_at (l ∷ ls) (suc (suc i)) = law_at ls (suc i)

abbrev pub laws_of : LawKind → List Law
laws_of Equation = equations
laws_of Implication = implications
