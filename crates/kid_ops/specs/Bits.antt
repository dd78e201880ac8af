-- The lowest bit of a word.
use Rattle.std.specs.Prelude.{ℕ, List, [], ◌∷◌, Option, Some, None}

abbrev pub first_place : List ℕ → Option ℕ
first_place [] = None
first_place (i ∷ is) = Some i
