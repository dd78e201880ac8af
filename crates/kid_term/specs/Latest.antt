-- Where the latest definition of a name stands.
use Rattle.std.specs.Prelude.{ℕ, suc, Bool, true, false, List, [], ◌∷◌, Option, Some, None}
use Rattle.kid_term.specs.Names.{same_name, PlainDef}

-- a place behind the first, or else the first where that one has the name
abbrev pub later : Option ℕ → Bool → Option ℕ
later (Some i) here = Some (suc i)
later None true = Some 0
later None false = None

-- the place of the last definition of the name
abbrev pub latest_place : List ℕ → List PlainDef → Option ℕ
latest_place f [] = None
latest_place f (d ∷ ds) = later (latest_place f ds) (same_name f d.name)
