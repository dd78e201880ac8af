-- A scope of the program as names with their sorts, the innermost first.
use Rattle.std.specs.Prelude.{◌∷◌, map}
use Rattle.kid_value.specs.SortView.{plain_sort}
use Rattle.kid_term.specs.Names.{Names}
use Rattle.kid_value.specs.NameView.{plain_name}
use Rattle.kid_sorting.specs.declared.scope.Scope.{Scope, Base, More'}

abbrev pub names_of : Scope → Names
names_of (Base names) = map plain_name names.now
names_of (More' x s p rest) = (x.now, plain_sort s.now) ∷ names_of rest
