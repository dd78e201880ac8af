-- Names that are declared.
use Rattle.std.specs.Prelude.{ℕ, Bool, true, not, ◌&&◌, List, [], ◌∷◌, ◌++◌}
use Rattle.kid_value.specs.NameSet.{is_among}
use Rattle.kid_term.specs.Names.{Names}
use Rattle.kid_codec.specs.Name.{is_name}

-- the names that are declared so far
abbrev pub Taken : Type 0
Taken = List (List ℕ)

-- a name that nothing declared before has
abbrev pub is_free : Taken → List ℕ → Bool
is_free taken x = is_name x && not (is_among x taken)

-- names that nothing declared before has, nor two of them
abbrev pub are_free : Taken → Names → Bool
are_free taken [] = true
are_free taken (n ∷ ns) = is_free taken n.0 && are_free (taken ++ n.0 ∷ []) ns
