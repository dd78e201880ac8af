-- The laws of maps, and what they say in the corners.
use Rattle.std.specs.Prelude.{◌≡◌, pos, true, false, [], ◌∷◌, refl}
use Rattle.kid_value.specs.PlainValue.{int, bool, map_of, no_entry, entry}
use Rattle.kid_laws.specs.Law.{Law, name_of, equation, implication}
use Rattle.kid_laws.specs.Corner.{at_values, shown}
use Rattle.kid_laws.specs.Heads.{d, dom', empty', fits', get', in', m, n, not', put', submap', subset', with', x, y}

-- what was put at a key stands there
abbrev pub e20 : Law
e20 = equation (m ∷ x ∷ y ∷ d ∷ []) [] (get' (put' m x y) x d) y

-- a key that was there already
e20-corner : at_values ((name_of m, map_of (entry (int (pos 1)) (int (pos 5)) no_entry)) ∷ (name_of x, int (pos 1)) ∷ (name_of y, int (pos 2)) ∷ (name_of d, int (pos 0)) ∷ []) e20 ≡ shown true (int (pos 2)) (int (pos 2))
e20-corner = refl

-- the keys with one more
abbrev pub e47 : Law
e47 = equation (m ∷ x ∷ y ∷ []) [] (dom' (put' m x y)) (with' x (dom' m))

-- what a part of a map has at a key, the whole has there
abbrev pub e48 : Law
e48 = equation (m ∷ n ∷ x ∷ y ∷ []) (submap' m n ∷ in' x (dom' m) ∷ []) (get' n x y) (get' m x y)

-- a key that the part lacks
e48-corner : at_values ((name_of m, map_of no_entry) ∷ (name_of n, map_of (entry (int (pos 1)) (int (pos 2)) no_entry)) ∷ (name_of x, int (pos 1)) ∷ (name_of y, int (pos 0)) ∷ []) e48 ≡ shown false (int (pos 2)) (int (pos 0))
e48-corner = refl

-- a map lies within itself with a new key
abbrev pub m4 : Law
m4 = implication (x ∷ m ∷ y ∷ []) (not' (in' x (dom' m)) ∷ []) (submap' m (put' m x y))

-- a key that was there already
m4-corner : at_values ((name_of x, int (pos 1)) ∷ (name_of m, map_of (entry (int (pos 1)) (int (pos 2)) no_entry)) ∷ (name_of y, int (pos 3)) ∷ []) m4 ≡ shown false (bool false) (bool true)
m4-corner = refl

-- the keys of a part of a map are keys of the whole
abbrev pub m19 : Law
m19 = implication (m ∷ n ∷ []) (submap' m n ∷ []) (subset' (dom' m) (dom' n))

-- no part
m19-corner : at_values ((name_of m, map_of (entry (int (pos 1)) (int (pos 2)) no_entry)) ∷ (name_of n, map_of no_entry) ∷ []) m19 ≡ shown false (bool false) (bool true)
m19-corner = refl

-- a map that fits one of sets has at each of its keys a member of the set there
abbrev pub m20 : Law
m20 = implication (m ∷ n ∷ x ∷ y ∷ []) (fits' m n ∷ in' x (dom' n) ∷ []) (in' (get' m x y) (get' n x empty'))

-- a key that the map of sets lacks
m20-corner : at_values ((name_of m, map_of (entry (int (pos 1)) (int (pos 2)) no_entry)) ∷ (name_of n, map_of no_entry) ∷ (name_of x, int (pos 1)) ∷ (name_of y, int (pos 0)) ∷ []) m20 ≡ shown false (bool false) (bool true)
m20-corner = refl
