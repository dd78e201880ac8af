-- The names of the binders above a place.
use Rattle.std.specs.Prelude.{ℕ, List, [], ◌∷◌}
use Rattle.kid_laws.specs.declared.matching.Bound.{Bound, Nothing, More'}

abbrev pub names_of : Bound → List (List ℕ)
names_of Nothing = []
names_of (More' x p rest) = x.now ∷ names_of rest
