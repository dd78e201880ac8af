-- The laws of sets, and what they say in the corners.
use Rattle.std.specs.Prelude.{◌≡◌, pos, negsuc, true, false, [], ◌∷◌, refl}
use Rattle.kid_value.specs.PlainValue.{int, bool, set, none, more}
use Rattle.kid_laws.specs.Law.{Law, name_of, equation, implication}
use Rattle.kid_laws.specs.Corner.{at_values, shown}
use Rattle.kid_laws.specs.Heads.{a, add', and', b, c, card', d, diff', empty', eq', in', inter', le', least', not', one', or', range', s, set', subset', sum', t, u, union', with', without', x, y, zero'}

-- a union, in either order
abbrev pub e28 : Law
e28 = equation (s ∷ t ∷ []) [] (union' s t) (union' t s)

-- a union, in either grouping
abbrev pub e29 : Law
e29 = equation (s ∷ t ∷ u ∷ []) [] (union' s (union' t u)) (union' (union' s t) u)

-- a union with the empty set
abbrev pub e30 : Law
e30 = equation (s ∷ []) [] (union' s empty') s

-- the empty set
e30-corner : at_values ((name_of s, set none) ∷ []) e30 ≡ shown true (set none) (set none)
e30-corner = refl

-- what two sets share, in either order
abbrev pub e31 : Law
e31 = equation (s ∷ t ∷ []) [] (inter' s t) (inter' t s)

-- one member more is a union with its set
abbrev pub e32 : Law
e32 = equation (x ∷ s ∷ []) [] (with' x s) (union' (set' x) s)

-- one member less is a difference by its set
abbrev pub e33 : Law
e33 = equation (x ∷ s ∷ []) [] (without' x s) (diff' s (set' x))

-- a member of a union is one of either
abbrev pub e34 : Law
e34 = equation (x ∷ s ∷ t ∷ []) [] (in' x (union' s t)) (or' (in' x s) (in' x t))

-- a member of what two sets share is one of both
abbrev pub e35 : Law
e35 = equation (x ∷ s ∷ t ∷ []) [] (in' x (inter' s t)) (and' (in' x s) (in' x t))

-- a member of a difference is one of the first alone
abbrev pub e36 : Law
e36 = equation (x ∷ s ∷ t ∷ []) [] (in' x (diff' s t)) (and' (in' x s) (not' (in' x t)))

-- the one member of a set of one
abbrev pub e37 : Law
e37 = equation (x ∷ y ∷ []) [] (in' x (set' y)) (eq' x y)

-- a member of a range lies between its ends
abbrev pub e38 : Law
e38 = equation (a ∷ b ∷ c ∷ []) [] (in' a (range' b c)) (and' (le' b a) (le' a c))

-- an empty range
e38-corner : at_values ((name_of a, int (pos 1)) ∷ (name_of b, int (pos 2)) ∷ (name_of c, int (pos 0)) ∷ []) e38 ≡ shown true (bool false) (bool false)
e38-corner = refl

-- a subset leaves nothing of itself outside
abbrev pub e39 : Law
e39 = equation (s ∷ t ∷ []) [] (subset' s t) (eq' (diff' s t) empty')

-- the empty set
e39-corner : at_values ((name_of s, set none) ∷ (name_of t, set none) ∷ []) e39 ≡ shown true (bool true) (bool true)
e39-corner = refl

-- the sum with one number more
abbrev pub e40 : Law
e40 = equation (a ∷ s ∷ []) (not' (in' a s) ∷ []) (sum' (with' a s)) (add' (sum' s) a)

-- a number that is a member already adds nothing
e40-corner : at_values ((name_of a, int (pos 1)) ∷ (name_of s, set (more (int (pos 1)) none)) ∷ []) e40 ≡ shown false (int (pos 1)) (int (pos 2))
e40-corner = refl

-- the size with one member more
abbrev pub e41 : Law
e41 = equation (x ∷ s ∷ []) (not' (in' x s) ∷ []) (card' (with' x s)) (add' (card' s) one')

-- a member that is there already
e41-corner : at_values ((name_of x, int (pos 1)) ∷ (name_of s, set (more (int (pos 1)) none)) ∷ []) e41 ≡ shown false (int (pos 1)) (int (pos 2))
e41-corner = refl

-- a subset, by way of a set between
abbrev pub m6 : Law
m6 = implication (s ∷ t ∷ u ∷ []) (subset' s t ∷ subset' t u ∷ []) (subset' s u)

-- no subset
m6-corner : at_values ((name_of s, set (more (int (pos 1)) none)) ∷ (name_of t, set none) ∷ (name_of u, set none) ∷ []) m6 ≡ shown false (bool false) (bool true)
m6-corner = refl

-- a member of a subset is one of the whole
abbrev pub m7 : Law
m7 = implication (s ∷ t ∷ x ∷ []) (subset' s t ∷ in' x s ∷ []) (in' x t)

-- no subset
m7-corner : at_values ((name_of s, set (more (int (pos 1)) none)) ∷ (name_of t, set none) ∷ (name_of x, int (pos 1)) ∷ []) m7 ≡ shown false (bool false) (bool true)
m7-corner = refl

-- a set lies within its union with another
abbrev pub m8 : Law
m8 = implication (s ∷ t ∷ []) [] (subset' s (union' s t))

-- the least member is a member
abbrev pub m9 : Law
m9 = implication (s ∷ x ∷ []) (not' (eq' s empty') ∷ []) (in' (least' s x) s)

-- the empty set has no least member
m9-corner : at_values ((name_of s, set none) ∷ (name_of x, int (pos 0)) ∷ []) m9 ≡ shown false (bool false) (bool true)
m9-corner = refl

-- a subset has no more members
abbrev pub m10 : Law
m10 = implication (s ∷ t ∷ []) (subset' s t ∷ []) (le' (card' s) (card' t))

-- no subset
m10-corner : at_values ((name_of s, set (more (int (pos 1)) none)) ∷ (name_of t, set none) ∷ []) m10 ≡ shown false (bool false) (bool true)
m10-corner = refl

-- a subset of numbers that are not negative has no greater sum
abbrev pub m11 : Law
m11 = implication (s ∷ t ∷ []) (subset' s t ∷ le' zero' (least' t zero') ∷ []) (le' (sum' s) (sum' t))

-- a negative number
m11-corner : at_values ((name_of s, set none) ∷ (name_of t, set (more (int (negsuc 0)) none)) ∷ []) m11 ≡ shown false (bool false) (bool true)
m11-corner = refl

-- a member of one of two sets that share nothing is not in the other
abbrev pub m12 : Law
m12 = implication (s ∷ t ∷ x ∷ []) (eq' (inter' s t) empty' ∷ in' x t ∷ []) (not' (in' x s))

-- a member of both
m12-corner : at_values ((name_of s, set (more (int (pos 1)) none)) ∷ (name_of t, set (more (int (pos 1)) none)) ∷ (name_of x, int (pos 1)) ∷ []) m12 ≡ shown false (bool false) (bool true)
m12-corner = refl

-- a range lies within one that reaches further on both ends
abbrev pub m13 : Law
m13 = implication (a ∷ b ∷ c ∷ d ∷ []) (le' a b ∷ le' c d ∷ []) (subset' (range' b c) (range' a d))

-- an end that reaches less far
m13-corner : at_values ((name_of a, int (pos 1)) ∷ (name_of b, int (pos 0)) ∷ (name_of c, int (pos 0)) ∷ (name_of d, int (pos 0)) ∷ []) m13 ≡ shown false (bool false) (bool true)
m13-corner = refl

-- the least member is at most each
abbrev pub m14 : Law
m14 = implication (a ∷ s ∷ []) (in' a s ∷ []) (le' (least' s a) a)

-- a number that is no member
m14-corner : at_values ((name_of a, int (pos 1)) ∷ (name_of s, set (more (int (pos 5)) none)) ∷ []) m14 ≡ shown false (bool false) (bool true)
m14-corner = refl
