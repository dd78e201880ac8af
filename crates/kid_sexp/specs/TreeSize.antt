-- A size of trees that falls from a list to its members.
use Rattle.std.specs.Prelude.{ℕ, ◌+◌}
use Rattle.kid_sexp.specs.Plain.{Plain, atom, list, Plains, none, more}

abbrev mutual
  pub tree_size : Plain → ℕ
  tree_size (atom bytes) = 0
  tree_size (list inner) = forest_size inner + 1

  pub forest_size : Plains → ℕ
  forest_size none = 0
  forest_size (more t ts) = tree_size t + forest_size ts + 1
