-- What the map has that a row stands for, and what the operators on rows change in it.
use Rattle.std.specs.Prelude.{◌≡◌, ℕ, ℤ, ◌<◌, ◌≤◌, cond, Some, None, length}
use Rattle.kid_value.specs.Canonical.{IsCanonical}
use Rattle.kid_value.specs.Contents.{IsSequence, IsMap, value_at}
use Rattle.kid_value.specs.Entries.{IsMapOf}
use Rattle.kid_value.specs.PlainValue.{PlainValue, int}
use Rattle.kid_value.specs.Rows.Kinds.{natural}
use Rattle.kid_value.specs.Rows.Map as map_rows
use Rattle.kid_value.specs.Rows.Parts.{items_of}
use Rattle.kid_value.specs.Rows.Word as rows
use Rattle.kid_value.specs.Rows.Word.{key_at}
use Rattle.kid_value.specs.ValueSet.{value_eq}

-- the map that a row stands for, whose first item is at lo
abbrev pub map_of_row : ℤ → PlainValue → PlainValue
map_of_row lo g = rows.rdec (int lo) g

-- each key of the map is one of the n numbers from lo on
abbrev pub HasKeysBetween : ℤ → ℤ → PlainValue → Type 0
HasKeysBetween lo n m = (k v : PlainValue) → value_at k m ≡ Some v → (i : ℕ) × (i < natural n) × (k ≡ key_at lo i)

pub record RowLaws : Type 0 where
  -- the keys of the map are numbers at which the row has items, and rget reads the map
  pub rdec : (lo : ℤ) (g : PlainValue) → IsSequence g → IsMap (map_of_row lo g)
  pub rdec_only : (lo : ℤ) (g k v : PlainValue) → IsSequence g → value_at k (map_of_row lo g) ≡ Some v → (i : ℕ) × (i < length (items_of g)) × (k ≡ key_at lo i)
  pub rget : (lo a : ℤ) (g d : PlainValue) → IsSequence g → rows.rget (int lo) g (int a) d ≡ map_rows.get (map_of_row lo g) (int a) d
  -- the row of a map has at its numbers what the map has, and nothing beyond
  pub renc : (lo n : ℤ) (m : PlainValue) (i : ℕ) → IsMap m → i < natural n → value_at (key_at lo i) (map_of_row lo (rows.renc (int lo) (int n) m)) ≡ value_at (key_at lo i) m
  pub renc_above : (lo n : ℤ) (m : PlainValue) (i : ℕ) → IsMap m → natural n ≤ i → value_at (key_at lo i) (map_of_row lo (rows.renc (int lo) (int n) m)) ≡ None
  -- so that the row gives the map back
  pub rdec_renc : (lo n : ℤ) (m : PlainValue) → IsMap m → IsCanonical m → HasKeysBetween lo n m → map_of_row lo (rows.renc (int lo) (int n) m) ≡ m
  -- rput sets the value at a number, and rdrop takes it away
  pub rput : (lo : ℤ) (i : ℕ) (g x : PlainValue) → IsSequence g → i < length (items_of g) → IsMapOf (λ k. cond (value_eq k (key_at lo i)) (Some x) (value_at k (map_of_row lo g))) (map_of_row lo (rows.rput (int lo) g (key_at lo i) x))
  pub rdrop : (lo : ℤ) (i : ℕ) (g : PlainValue) → IsSequence g → i < length (items_of g) → IsMapOf (λ k. cond (value_eq k (key_at lo i)) None (value_at k (map_of_row lo g))) (map_of_row lo (rows.rdrop (int lo) g (key_at lo i)))
