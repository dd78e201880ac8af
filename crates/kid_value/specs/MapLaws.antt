-- The laws of maps.
use Rattle.std.specs.Prelude.{◌≡◌, ◌↔◌, true, Some, unwrap_or}
use Rattle.kid_value.specs.Canonical.{IsCanonical}
use Rattle.kid_value.specs.Contents.{IsSet, IsMap, has, value_at}
use Rattle.kid_value.specs.MapOrder.{IsLowerAt}
use Rattle.kid_value.specs.PlainValue.{PlainValue}
use Rattle.kid_value.specs.Rows.Map as rows
use Rattle.kid_value.specs.Rows.Parts.{truth_of}
use Rattle.kid_value.specs.Rows.Set as set_rows
use Rattle.kid_value.specs.ValueOrder.{Before}

abbrev pub IsSubmap : PlainValue → PlainValue → Type 0
IsSubmap m n = truth_of (rows.submap m n) ≡ true

abbrev pub Fits : PlainValue → PlainValue → Type 0
Fits m n = truth_of (rows.fits m n) ≡ true

pub record MapLaws : Type 0 where
  -- two canonical maps that have the same at each key are one
  pub same : (m n : PlainValue) → IsMap m → IsMap n → IsCanonical m → IsCanonical n → ((k : PlainValue) → value_at k m ≡ value_at k n) → m ≡ n
  pub get : (m k d : PlainValue) → IsMap m → rows.get m k d ≡ unwrap_or (value_at k m) d
  -- the values are those that the map has at some key
  pub ran : (m v : PlainValue) → IsMap m → IsCanonical m → (has v (rows.ran m) ≡ true) ↔ ((k : PlainValue) × (value_at k m ≡ Some v))
  -- which keys the operators leave
  pub dom_put : (m k v : PlainValue) → IsMap m → rows.dom (rows.put m k v) ≡ set_rows.with k (rows.dom m)
  pub dom_drop : (m k : PlainValue) → IsMap m → rows.dom (rows.drop m k) ≡ set_rows.without k (rows.dom m)
  pub dom_fill : (s v : PlainValue) → IsSet s → rows.dom (rows.fill s v) ≡ s
  pub dom_narrow : (m n : PlainValue) → IsMap m → IsMap n → rows.dom (rows.narrow m n) ≡ rows.dom m
  -- a map lies within another where that has its values, and fits one of sets where it has members of these
  pub submap : (m n : PlainValue) → IsMap m → IsMap n → IsCanonical m → IsSubmap m n ↔ ((k v : PlainValue) → value_at k m ≡ Some v → value_at k n ≡ Some v)
  pub fits : (m n : PlainValue) → IsMap m → IsMap n → IsCanonical n → Fits m n ↔ ((k s : PlainValue) → value_at k n ≡ Some s → (v : PlainValue) × (value_at k m ≡ Some v) × (has v s ≡ true))
  -- a map that is lower at the least key at which two differ is before the other
  pub before : (m n k : PlainValue) → IsMap m → IsMap n → IsCanonical m → IsCanonical n → IsLowerAt (value_at k m) (value_at k n) → ((l : PlainValue) → Before l k → value_at l m ≡ value_at l n) → Before m n
