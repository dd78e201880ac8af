-- The laws of numbers, and what they say in the corners.
use Rattle.std.specs.Prelude.{◌≡◌, pos, negsuc, true, false, [], ◌∷◌, refl}
use Rattle.kid_value.specs.PlainValue.{int, bool}
use Rattle.kid_laws.specs.Law.{Law, name_of, equation, implication}
use Rattle.kid_laws.specs.Corner.{at_values, shown}
use Rattle.kid_laws.specs.Heads.{a, add', and', b, c, d, eq', if', le', lt', max', min', mul', neg', not', one', sub', zero'}

-- a sum, in either order
abbrev pub e14 : Law
e14 = equation (a ∷ b ∷ []) [] (add' a b) (add' b a)

-- a sum, in either grouping
abbrev pub e15 : Law
e15 = equation (a ∷ b ∷ c ∷ []) [] (add' a (add' b c)) (add' (add' a b) c)

-- nothing added
abbrev pub e16 : Law
e16 = equation (a ∷ []) [] (add' a zero') a

-- to take away is to add the opposite
abbrev pub e17 : Law
e17 = equation (a ∷ b ∷ []) [] (sub' a b) (add' a (neg' b))

-- a number and its opposite
abbrev pub e18 : Law
e18 = equation (a ∷ []) [] (add' a (neg' a)) zero'

-- a product, in either order
abbrev pub e19 : Law
e19 = equation (a ∷ b ∷ []) [] (mul' a b) (mul' b a)

-- a number taken once
abbrev pub e21 : Law
e21 = equation (a ∷ []) [] (mul' a one') a

-- a product spreads over a sum
abbrev pub e22 : Law
e22 = equation (a ∷ b ∷ c ∷ []) [] (mul' a (add' b c)) (add' (mul' a b) (mul' a c))

-- less is not at least
abbrev pub e23 : Law
e23 = equation (a ∷ b ∷ []) [] (lt' a b) (not' (le' b a))

-- the same added on both sides
abbrev pub e24 : Law
e24 = equation (a ∷ c ∷ b ∷ []) [] (le' (add' a c) (add' b c)) (le' a b)

-- equal numbers are at most each other
abbrev pub e25 : Law
e25 = equation (a ∷ b ∷ []) [] (eq' a b) (and' (le' a b) (le' b a))

-- the greater of two
abbrev pub e26 : Law
e26 = equation (a ∷ b ∷ []) [] (max' a b) (if' (le' a b) b a)

-- the smaller of two
abbrev pub e27 : Law
e27 = equation (a ∷ b ∷ []) [] (min' a b) (if' (le' a b) a b)

-- at most, by way of a number between
abbrev pub m2 : Law
m2 = implication (a ∷ b ∷ c ∷ []) (le' a b ∷ le' b c ∷ []) (le' a c)

-- no way between
m2-corner : at_values ((name_of a, int (pos 2)) ∷ (name_of b, int (pos 1)) ∷ (name_of c, int (pos 1)) ∷ []) m2 ≡ shown false (bool false) (bool true)
m2-corner = refl

-- two inequalities, added
abbrev pub m3 : Law
m3 = implication (a ∷ b ∷ c ∷ d ∷ []) (le' a b ∷ le' c d ∷ []) (le' (add' a c) (add' b d))

-- one of them fails
m3-corner : at_values ((name_of a, int (pos 1)) ∷ (name_of b, int (pos 0)) ∷ (name_of c, int (pos 0)) ∷ (name_of d, int (pos 0)) ∷ []) m3 ≡ shown false (bool false) (bool true)
m3-corner = refl

-- an inequality times a number that is not negative
abbrev pub m5 : Law
m5 = implication (a ∷ b ∷ c ∷ []) (le' a b ∷ le' zero' c ∷ []) (le' (mul' a c) (mul' b c))

-- a negative number
m5-corner : at_values ((name_of a, int (pos 0)) ∷ (name_of b, int (pos 1)) ∷ (name_of c, int (negsuc 0)) ∷ []) m5 ≡ shown false (bool false) (bool true)
m5-corner = refl
