-- What the maps have at each key that the operators make.
use Rattle.std.specs.Prelude.{◌≡◌, cond, Option, Some, None, option_map}
use Rattle.kid_value.specs.Contents.{IsSet, IsMap, has, value_at}
use Rattle.kid_value.specs.PlainValue.{PlainValue}
use Rattle.kid_value.specs.Rows.Map as map_rows
use Rattle.kid_value.specs.ValueSet.{value_eq}

-- the value is a map that has just what f gives at each key
abbrev pub IsMapOf : (PlainValue → Option PlainValue) → PlainValue → Type 0
IsMapOf f m = IsMap m × ((k : PlainValue) → value_at k m ≡ f k)

-- what each map has that an operator on maps or sets makes
pub record MapsHoldValues : Type 0 where
  pub empty : IsMapOf (λ k. None) map_rows.empty_map
  pub put : (m l v : PlainValue) → IsMap m → IsMapOf (λ k. cond (value_eq k l) (Some v) (value_at k m)) (map_rows.put m l v)
  pub drop : (m l : PlainValue) → IsMap m → IsMapOf (λ k. cond (value_eq k l) None (value_at k m)) (map_rows.drop m l)
  pub fill : (s v : PlainValue) → IsSet s → IsMapOf (λ k. cond (has k s) (Some v) None) (map_rows.fill s v)
  pub narrow : (m n : PlainValue) → IsMap m → IsMap n → IsMapOf (λ k. option_map (λ v. map_rows.cut_down v (value_at k n)) (value_at k m)) (map_rows.narrow m n)
