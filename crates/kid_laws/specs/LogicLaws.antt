-- The laws of truth values and equality.
use Rattle.std.specs.Prelude.{[], ◌∷◌}
use Rattle.kid_laws.specs.Law.{Law, equation, implication}
use Rattle.kid_laws.specs.Heads.{and', eq', false', if', implies', not', or', p, q, r, true', x, y}

-- both, in either order
abbrev pub e1 : Law
e1 = equation (p ∷ q ∷ []) [] (and' p q) (and' q p)

-- both, in either grouping
abbrev pub e2 : Law
e2 = equation (p ∷ q ∷ r ∷ []) [] (and' p (and' q r)) (and' (and' p q) r)

-- the same twice is the same once
abbrev pub e3 : Law
e3 = equation (p ∷ []) [] (and' p p) p

-- both, where one is true, is the other
abbrev pub e4 : Law
e4 = equation (p ∷ []) [] (and' p true') p

-- both, where one is false, is false
abbrev pub e5 : Law
e5 = equation (p ∷ []) [] (and' p false') false'

-- one of two holds where not both fail
abbrev pub e6 : Law
e6 = equation (p ∷ q ∷ []) [] (or' p q) (not' (and' (not' p) (not' q)))

-- not not
abbrev pub e7 : Law
e7 = equation (p ∷ []) [] (not' (not' p)) p

-- the first implies the second where it fails or the second holds
abbrev pub e8 : Law
e8 = equation (p ∷ q ∷ []) [] (implies' p q) (or' (not' p) q)

-- what is implied by true
abbrev pub e9 : Law
e9 = equation (p ∷ []) [] (implies' true' p) p

-- the first of two where the test is true
abbrev pub e10 : Law
e10 = equation (x ∷ y ∷ []) [] (if' true' x y) x

-- the second of two where the test is false
abbrev pub e11 : Law
e11 = equation (x ∷ y ∷ []) [] (if' false' x y) y

-- a value equals itself
abbrev pub e12 : Law
e12 = equation (x ∷ []) [] (eq' x x) true'

-- equality, in either order
abbrev pub e13 : Law
e13 = equation (x ∷ y ∷ []) [] (eq' x y) (eq' y x)

-- a value equals itself
abbrev pub m1 : Law
m1 = implication (x ∷ []) [] (eq' x x)
