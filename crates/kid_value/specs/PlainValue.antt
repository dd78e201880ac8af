-- Values as plain trees.
use Rattle.std.specs.Prelude.{ℕ, ◌+◌, ℤ, Bool, List, [], ◌∷◌, max}

mutual
  -- a value, with the members of a set and the keys of a map in their order; a tag is a name, told by its bytes
  pub data PlainValue : Type 0 where
    int : ℤ → PlainValue
    bool : Bool → PlainValue
    pair : PlainValue → PlainValue → PlainValue
    set : PlainValues → PlainValue
    seq : PlainValues → PlainValue
    map_of : PlainEntries → PlainValue
    tag : List ℕ → PlainValue

  pub data PlainValues : Type 0 where
    none : PlainValues
    more : PlainValue → PlainValues → PlainValues

  pub data PlainEntries : Type 0 where
    no_entry : PlainEntries
    entry : PlainValue → PlainValue → PlainEntries → PlainEntries

abbrev pub items : PlainValues → List PlainValue
items none = []
items (more v vs) = v ∷ items vs

abbrev pub row : List PlainValue → PlainValues
row [] = none
row (v ∷ vs) = more v (row vs)

abbrev pub entries : PlainEntries → List (PlainValue × PlainValue)
entries no_entry = []
entries (entry k v es) = (k, v) ∷ entries es

abbrev pub table : List (PlainValue × PlainValue) → PlainEntries
table [] = no_entry
table (e ∷ es) = entry e.0 e.1 (table es)

-- how deep a value nests
abbrev mutual
  pub height : PlainValue → ℕ
  height (int n) = 1
  height (bool b) = 1
  height (pair a b) = max (height a) (height b) + 1
  height (set vs) = heights vs + 1
  height (seq vs) = heights vs + 1
  height (map_of es) = entry_heights es + 1
  height (tag n) = 1

  pub heights : PlainValues → ℕ
  heights none = 0
  heights (more v vs) = max (height v + 1) (heights vs)

  pub entry_heights : PlainEntries → ℕ
  entry_heights no_entry = 0
  entry_heights (entry k v es) = max (max (height k) (height v) + 1) (entry_heights es)
