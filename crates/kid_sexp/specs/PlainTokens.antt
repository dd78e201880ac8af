-- The tokens of a forest.
use Rattle.std.specs.Prelude.{List, [], ◌∷◌}
use Rattle.kid_sexp.specs.Token.{Token, opens, closes, word}
use Rattle.kid_sexp.specs.Plain.{Plain, atom, list, Plains, none, more}

-- the tokens of a forest, and then those after it
abbrev mutual
  pub flat_tree : Plain → List Token → List Token
  flat_tree (atom bytes) after = word bytes ∷ after
  flat_tree (list inner) after = opens ∷ flat_before inner (closes ∷ after)

  pub flat_before : Plains → List Token → List Token
  flat_before none after = after
  flat_before (more t ts) after = flat_tree t (flat_before ts after)

abbrev pub flat : Plains → List Token
flat ts = flat_before ts []
