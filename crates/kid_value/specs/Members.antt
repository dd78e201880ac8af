-- Which values the sets have that the operators make.
use Rattle.std.specs.Prelude.{◌≡◌, ℤ, Bool, false, not, ◌||◌, ◌&&◌, List, map, int_le, is_some}
use Rattle.kid_value.specs.Contents.{IsSet, IsSequence, IsMap, has, value_at}
use Rattle.kid_value.specs.PlainValue.{PlainValue, int}
use Rattle.kid_value.specs.Rows.Map as map_rows
use Rattle.kid_value.specs.Rows.Parts.{items_of, entries_of}
use Rattle.kid_value.specs.Rows.Seq as seq_rows
use Rattle.kid_value.specs.Rows.Set as set_rows
use Rattle.kid_value.specs.ValueSet.{value_eq, is_member}

-- the value is the set of just those values that pass
abbrev pub IsSetOf : (PlainValue → Bool) → PlainValue → Type 0
IsSetOf p s = IsSet s × ((x : PlainValue) → has x s ≡ p x)

abbrev pub is_between : ℤ → ℤ → PlainValue → Bool
is_between a b (int n) = int_le a n && int_le n b
is_between a b x = false

-- the values of each set that an operator on sets, sequences or maps makes
pub record SetsHoldMembers : Type 0 where
  pub set : (vs : List PlainValue) → IsSetOf (λ x. is_member x vs) (set_rows.set_of_values vs)
  pub range : (a b : ℤ) → IsSetOf (is_between a b) (set_rows.range (int a) (int b))
  pub union : (s t : PlainValue) → IsSet s → IsSet t → IsSetOf (λ x. has x s || has x t) (set_rows.union s t)
  pub inter : (s t : PlainValue) → IsSet s → IsSet t → IsSetOf (λ x. has x s && has x t) (set_rows.inter s t)
  pub diff : (s t : PlainValue) → IsSet s → IsSet t → IsSetOf (λ x. has x s && not (has x t)) (set_rows.diff s t)
  pub with : (y s : PlainValue) → IsSet s → IsSetOf (λ x. value_eq x y || has x s) (set_rows.with y s)
  pub without : (y s : PlainValue) → IsSet s → IsSetOf (λ x. has x s && not (value_eq x y)) (set_rows.without y s)
  pub items : (v : PlainValue) → IsSequence v → IsSetOf (λ x. is_member x (items_of v)) (seq_rows.items v)
  pub dom : (m : PlainValue) → IsMap m → IsSetOf (λ x. is_some (value_at x m)) (map_rows.dom m)
  pub ran : (m : PlainValue) → IsMap m → IsSetOf (λ x. is_member x (map (λ e. e.1) (entries_of m))) (map_rows.ran m)
