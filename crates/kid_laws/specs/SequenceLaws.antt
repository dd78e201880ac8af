-- The laws of sequences, and what they say in the corners.
use Rattle.std.specs.Prelude.{◌≡◌, pos, negsuc, true, false, [], ◌∷◌, refl}
use Rattle.kid_value.specs.PlainValue.{int, bool, seq, none, more}
use Rattle.kid_laws.specs.Law.{Law, name_of, equation, implication}
use Rattle.kid_laws.specs.Corner.{at_values, shown}
use Rattle.kid_laws.specs.Heads.{a, add', at', in', items', le', least', len', one', prefix', range', snoc', subset', total', v, w, with', x, y, zero'}

-- the length with one item more
abbrev pub e42 : Law
e42 = equation (v ∷ x ∷ []) [] (len' (snoc' v x)) (add' (len' v) one')

-- the items with one more
abbrev pub e43 : Law
e43 = equation (v ∷ x ∷ []) [] (items' (snoc' v x)) (with' x (items' v))

-- the total with one number more
abbrev pub e44 : Law
e44 = equation (v ∷ a ∷ []) [] (total' (snoc' v a)) (add' (total' v) a)

-- an item of a prefix is that of the whole
abbrev pub e45 : Law
e45 = equation (v ∷ w ∷ a ∷ x ∷ []) (prefix' v w ∷ in' a (range' one' (len' v)) ∷ []) (at' w a x) (at' v a x)

-- a place after the prefix's end
e45-corner : at_values ((name_of v, seq none) ∷ (name_of w, seq (more (int (pos 5)) none)) ∷ (name_of a, int (pos 1)) ∷ (name_of x, int (pos 0)) ∷ []) e45 ≡ shown false (int (pos 5)) (int (pos 0))
e45-corner = refl

-- the last item is the one that was added
abbrev pub e46 : Law
e46 = equation (v ∷ x ∷ y ∷ []) [] (at' (snoc' v x) (add' (len' v) one') y) x

-- the empty sequence
e46-corner : at_values ((name_of v, seq none) ∷ (name_of x, int (pos 7)) ∷ (name_of y, int (pos 0)) ∷ []) e46 ≡ shown true (int (pos 7)) (int (pos 7))
e46-corner = refl

-- a prefix is no longer than the whole
abbrev pub m15 : Law
m15 = implication (v ∷ w ∷ []) (prefix' v w ∷ []) (le' (len' v) (len' w))

-- no prefix
m15-corner : at_values ((name_of v, seq (more (int (pos 1)) none)) ∷ (name_of w, seq none) ∷ []) m15 ≡ shown false (bool false) (bool true)
m15-corner = refl

-- the items of a prefix are items of the whole
abbrev pub m16 : Law
m16 = implication (v ∷ w ∷ []) (prefix' v w ∷ []) (subset' (items' v) (items' w))

-- no prefix
m16-corner : at_values ((name_of v, seq (more (int (pos 1)) none)) ∷ (name_of w, seq none) ∷ []) m16 ≡ shown false (bool false) (bool true)
m16-corner = refl

-- a sequence is a prefix of itself with one item more
abbrev pub m17 : Law
m17 = implication (v ∷ x ∷ []) [] (prefix' v (snoc' v x))

-- a prefix of numbers that are not negative has no greater total
abbrev pub m18 : Law
m18 = implication (v ∷ w ∷ []) (prefix' v w ∷ le' zero' (least' (items' w) zero') ∷ []) (le' (total' v) (total' w))

-- a negative number
m18-corner : at_values ((name_of v, seq none) ∷ (name_of w, seq (more (int (negsuc 0)) none)) ∷ []) m18 ≡ shown false (bool false) (bool true)
m18-corner = refl
