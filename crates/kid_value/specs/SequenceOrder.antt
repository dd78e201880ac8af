-- What the lexicographic order says of two different lists: the lesser item decides, and a proper prefix is first.
use Rattle.std.specs.Prelude.{◌≡◌, List, ◌∷◌, ◌++◌, ◌⊎◌}

-- the second begins with the first and goes on
pub record IsProperPrefix {X : Type 0} (xs ys : List X) : Type 0 where
  pub next : X
  pub rest : List X
  pub longer : ys ≡ xs ++ next ∷ rest

-- after a common front, the first has the lesser item
pub record HasLesserItem {X : Type 0} (IsLess : X → X → Type 0) (xs ys : List X) : Type 0 where
  pub front : List X
  pub lesser : X
  pub greater : X
  pub first_rest : List X
  pub second_rest : List X
  pub first : xs ≡ front ++ lesser ∷ first_rest
  pub second : ys ≡ front ++ greater ∷ second_rest
  pub before : IsLess lesser greater

abbrev pub IsLexicallyBefore : {X : Type 0} → (X → X → Type 0) → List X → List X → Type 0
IsLexicallyBefore IsLess xs ys = IsProperPrefix xs ys ⊎ HasLesserItem IsLess xs ys
