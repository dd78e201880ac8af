-- The names of the binders above a place as a list.
use Rattle.std.specs.Prelude.{ℕ, List, [], ◌∷◌}
use Rattle.kid_term.specs.declared.closed.Bound.{Bound, Nothing, More'}

abbrev pub names_of : Bound → List (List ℕ)
names_of Nothing = []
names_of (More' y p rest) = y.now ∷ names_of rest
