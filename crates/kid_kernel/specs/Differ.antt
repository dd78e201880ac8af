-- Names that differ.
use Rattle.std.specs.Prelude.{ℕ, Bool, true, not, ◌&&◌, List, [], ◌∷◌, map}
use Rattle.std.specs.List.{list_all}
use Rattle.kid_value.specs.NameSet.{is_among}
use Rattle.kid_term.specs.Names.{Names}

-- the names without their sorts
abbrev pub words_of : Names → List (List ℕ)
words_of ns = map (λ n. n.0) ns

-- no two of the names are one
abbrev pub differ : List (List ℕ) → Bool
differ [] = true
differ (x ∷ xs) = not (is_among x xs) && differ xs

-- none of the first names is among the second
abbrev pub are_apart : List (List ℕ) → List (List ℕ) → Bool
are_apart xs ys = list_all (λ x. not (is_among x ys)) xs
