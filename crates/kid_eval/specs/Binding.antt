-- What a binder finds over a set's members.
use Rattle.std.specs.Prelude.{Bool, true, false, not, ◌||◌, cond, List, [], ◌∷◌}
use Rattle.kid_value.specs.PlainValue.{PlainValue}
use Rattle.kid_value.specs.Rows.Parts.{truth_of}

-- whether the truth value is among them
abbrev pub is_found : Bool → List Bool → Bool
is_found true [] = false
is_found false [] = false
is_found true (b ∷ bs) = b || is_found true bs
is_found false (b ∷ bs) = not b || is_found false bs

-- the members at whose places stands true
abbrev pub kept : List PlainValue → List PlainValue → List PlainValue
kept [] ts = []
kept (v ∷ vs) [] = []
kept (v ∷ vs) (t ∷ ts) = cond (truth_of t) (v ∷ kept vs ts) (kept vs ts)
