-- Which definition a name means.
use Rattle.std.specs.Prelude.{ℕ, cond, List, [], ◌∷◌, Option, Some, None}
use Rattle.kid_term.specs.Names.{same_name, PlainDef, latest_first}

-- the first definition of the name
abbrev pub first_named : List ℕ → List PlainDef → Option PlainDef
first_named f [] = None
first_named f (d ∷ ds) = cond (same_name f d.name) (Some d) (first_named f ds)

-- the latest definition of the name
abbrev pub definition_of : List ℕ → List PlainDef → Option PlainDef
definition_of f defs = first_named f (latest_first defs)
