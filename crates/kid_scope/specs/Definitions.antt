-- Definitions of different names.
use Rattle.std.specs.Prelude.{◌≡◌, ℕ, Bool, false, ◌||◌, List, [], ◌∷◌}
use Rattle.kid_term.specs.Names.{same_name, PlainDef}

abbrev pub is_defined : List ℕ → List PlainDef → Bool
is_defined f [] = false
is_defined f (d ∷ ds) = same_name f d.name || is_defined f ds

-- each definition has a name that none has that stands before it
abbrev pub AreNewOver : List PlainDef → List PlainDef → Type 0
AreNewOver known [] = Unit {0}
AreNewOver known (d ∷ ds) = (is_defined d.name known ≡ false) × AreNewOver (d ∷ known) ds

abbrev pub AreDistinct : List PlainDef → Type 0
AreDistinct ds = AreNewOver [] ds
