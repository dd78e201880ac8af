-- Maps entry by entry.
use Rattle.std.specs.Prelude.{List, map, filter, not}
use Rattle.kid_value.specs.PlainValue.{PlainValue}
use Rattle.kid_value.specs.Rows.Map.{cut_down}
use Rattle.kid_value.specs.ValueMap.{lookup}
use Rattle.kid_value.specs.ValueSet.{value_eq}
use Rattle.kid_value.specs.ValueView.{plain}
use Rattle.kid_value.specs.declared.value.Value.{Value}

abbrev pub key_of : Value × Value → PlainValue
key_of e = plain e.0

abbrev pub held_by : Value × Value → PlainValue
held_by e = plain e.1

-- the entries but for that of a key
abbrev pub without_key : PlainValue → List (PlainValue × PlainValue) → List (PlainValue × PlainValue)
without_key x es = filter (λ e. not (value_eq e.0 x)) es

-- the keys with one value
abbrev pub filled : PlainValue → List PlainValue → List (PlainValue × PlainValue)
filled x vs = map (λ v. (v, x)) vs

-- the entries cut down by another map
abbrev pub narrowed : List (PlainValue × PlainValue) → List (PlainValue × PlainValue) → List (PlainValue × PlainValue)
narrowed n es = map (λ e. (e.0, cut_down e.1 (lookup e.0 n))) es
