-- Terms without free names.
use Rattle.std.specs.Prelude.{ℕ, Bool, true, ◌&&◌, List, [], ◌∷◌}
use Rattle.kid_value.specs.NameSet.{is_among}
use Rattle.kid_term.specs.PlainTerm.{PlainTerm, var, number, truth, tag, app, bind, PlainTerms, no_term, term}

-- whether each free name of the term is among the names
abbrev mutual
  pub is_over : List (List ℕ) → PlainTerm → Bool
  is_over xs (var y) = is_among y xs
  is_over xs (number n) = true
  is_over xs (truth b) = true
  is_over xs (tag n) = true
  is_over xs (app h ts) = all_over xs ts
  is_over xs (bind b y s t) = is_over xs s && is_over (y ∷ xs) t

  pub all_over : List (List ℕ) → PlainTerms → Bool
  all_over xs no_term = true
  all_over xs (term t ts) = is_over xs t && all_over xs ts

-- whether no name stands free in the term
abbrev pub is_closed : PlainTerm → Bool
is_closed t = is_over [] t
