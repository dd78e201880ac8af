-- Names, names with their sorts, and definitions.
use Rattle.std.specs.Prelude.{ℕ, Bool, false, ◌||◌, List, [], ◌∷◌}
use Rattle.std.specs.Str.{bytes_eq}
use Rattle.kid_value.specs.PlainSort.{PlainSort}
use Rattle.kid_term.specs.PlainTerm.{PlainTerm}

-- whether two names are one
abbrev pub same_name : List ℕ → List ℕ → Bool
same_name = bytes_eq

-- names with their sorts, the innermost first
abbrev pub Names : Type 0
Names = List (List ℕ × PlainSort)

-- whether the name is among them
abbrev pub is_named : List ℕ → Names → Bool
is_named x [] = false
is_named x (n ∷ names) = same_name x n.0 || is_named x names

-- a definition, whose body names its parameters and calls earlier definitions
pub record PlainDef : Type 0 where
  pub name : List ℕ
  pub parameters : Names
  pub sort : PlainSort
  pub body : PlainTerm

-- the definitions in front of others, the last first
abbrev pub latest_over : List PlainDef → List PlainDef → List PlainDef
latest_over known [] = known
latest_over known (d ∷ ds) = latest_over (d ∷ known) ds

-- definitions in their order, turned so that the last comes first
abbrev pub latest_first : List PlainDef → List PlainDef
latest_first ds = latest_over [] ds
