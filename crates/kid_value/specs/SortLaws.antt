-- The sorts of what operators make of values of their sorts.
use Rattle.std.specs.Prelude.{◌≡◌, ℕ, ◌<◌, ◌≤◌, true, Some, length}
use Rattle.kid_value.specs.Contents.{IsSet, IsSequence, IsMap, has, value_at}
use Rattle.kid_value.specs.InSort.{in_sort}
use Rattle.kid_value.specs.PlainSort.{PlainSort, sets, seqs, maps}
use Rattle.kid_value.specs.PlainValue.{PlainValue}
use Rattle.kid_value.specs.Rows.Map as map_rows
use Rattle.kid_value.specs.Rows.Parts.{items_of}
use Rattle.kid_value.specs.Rows.Seq as seq_rows
use Rattle.kid_value.specs.Rows.Set as set_rows

-- the value is of the sort
abbrev pub IsOf : PlainSort → PlainValue → Type 0
IsOf a v = in_sort a v ≡ true

pub record SortLaws : Type 0 where
  pub set : (a : PlainSort) (s : PlainValue) → IsOf (sets a) s → IsSet s
  pub sequence : (a : PlainSort) (n : ℕ) (v : PlainValue) → IsOf (seqs a n) v → IsSequence v × (length (items_of v) ≤ n)
  pub map : (a b : PlainSort) (m : PlainValue) → IsOf (maps a b) m → IsMap m
  pub member : (a : PlainSort) (x s : PlainValue) → IsOf (sets a) s → has x s ≡ true → IsOf a x
  pub with : (a : PlainSort) (x s : PlainValue) → IsOf a x → IsOf (sets a) s → IsOf (sets a) (set_rows.with x s)
  pub without : (a : PlainSort) (x s : PlainValue) → IsOf (sets a) s → IsOf (sets a) (set_rows.without x s)
  pub union : (a : PlainSort) (s t : PlainValue) → IsOf (sets a) s → IsOf (sets a) t → IsOf (sets a) (set_rows.union s t)
  pub inter : (a : PlainSort) (s t : PlainValue) → IsOf (sets a) s → IsSet t → IsOf (sets a) (set_rows.inter s t)
  pub diff : (a : PlainSort) (s t : PlainValue) → IsOf (sets a) s → IsSet t → IsOf (sets a) (set_rows.diff s t)
  pub snoc : (a : PlainSort) (n : ℕ) (v x : PlainValue) → IsOf (seqs a n) v → IsOf a x → length (items_of v) < n → IsOf (seqs a n) (seq_rows.snoc v x)
  pub entry : (a b : PlainSort) (m k v : PlainValue) → IsOf (maps a b) m → value_at k m ≡ Some v → IsOf a k × IsOf b v
  pub put : (a b : PlainSort) (m k v : PlainValue) → IsOf (maps a b) m → IsOf a k → IsOf b v → IsOf (maps a b) (map_rows.put m k v)
  pub drop : (a b : PlainSort) (m k : PlainValue) → IsOf (maps a b) m → IsOf (maps a b) (map_rows.drop m k)
  pub fill : (a b : PlainSort) (s v : PlainValue) → IsOf (sets a) s → IsOf b v → IsOf (maps a b) (map_rows.fill s v)
  pub narrow : (a b c d : PlainSort) (m n : PlainValue) → IsOf (maps a (sets b)) m → IsOf (maps c (sets d)) n → IsOf (maps a (sets b)) (map_rows.narrow m n)
