-- Finite maps of values as lists of entries that ascend by their keys.
use Rattle.std.specs.Prelude.{◌≡◌, ℕ, ◌<◌, ◌≤◌, cond, List, [], ◌∷◌, Option, Some, None, map, length, insert, set}
use Rattle.std.specs.declared.cmp.Ordering.{Ordering}
use Rattle.std.specs.declared.cmp.Ordering.TheVariants.{Less, Equal, Greater}
use Rattle.kid_value.specs.PlainValue.{PlainValue}
use Rattle.kid_value.specs.ValueOrder.{value_cmp}
use Rattle.kid_value.specs.ValueSet.{value_eq}

-- the keys of a map, in its order
abbrev pub keys : List (PlainValue × PlainValue) → List PlainValue
keys es = map (λ e. e.0) es

-- the value at a key
abbrev pub lookup : PlainValue → List (PlainValue × PlainValue) → Option PlainValue
lookup k [] = None
lookup k (e ∷ es) = cond (value_eq k e.0) (Some e.1) (lookup k es)

-- what a comparison with the first key decides
abbrev pub put_entry_by : Ordering → PlainValue → PlainValue → PlainValue × PlainValue → List (PlainValue × PlainValue) → List (PlainValue × PlainValue) → List (PlainValue × PlainValue)
put_entry_by Less k v e es more = (k, v) ∷ e ∷ es
put_entry_by Equal k v e es more = (k, v) ∷ es
put_entry_by Greater k v e es more = e ∷ more

-- the map with the value at the key
abbrev pub put_entry : PlainValue → PlainValue → List (PlainValue × PlainValue) → List (PlainValue × PlainValue)
put_entry k v [] = (k, v) ∷ []
put_entry k v (e ∷ es) = put_entry_by (value_cmp k e.0) k v e es (put_entry k v es)

-- the place at which a map has a key, and the place at which one that it lacks would stand
abbrev pub HoldsKey : PlainValue → List (PlainValue × PlainValue) → ℕ → Type 0
HoldsKey k es at = (at < length es) × ((v : PlainValue) → put_entry k v es ≡ set es at (k, v))

abbrev pub KeyStandsAt : PlainValue → List (PlainValue × PlainValue) → ℕ → Type 0
KeyStandsAt k es at = (at ≤ length es) × ((v : PlainValue) → put_entry k v es ≡ insert es at (k, v))
