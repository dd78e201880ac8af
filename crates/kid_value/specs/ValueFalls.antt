-- A value is deeper than its parts.
use Rattle.std.specs.Prelude.{◌≤◌, max, List, [], ◌∷◌, map}
use Rattle.std.proofs.Common.{arith}
use denote.Param.Weighed.{most}
use Rattle.kid_value.specs.PlainValue.{height, heights, row, entry_heights, table}
use Rattle.kid_value.specs.ValueView.{plain, plain_entry}
use Rattle.kid_value.specs.declared.value.Value.{Value}
use Rattle.kid_value.specs.declared.value.Value.TheVariants.{Int, Bool, Pair, Set, Seq, Map, Tag}
use Rattle.kid_value.specs.declared.entries.Entries.TheDeep.{deep-Value}

pub deep-le-height : (n : Value) → deep-Value n ≤ height (plain n)
deep-le-height (Int n) = omega arith
deep-le-height (Bool b) = omega arith
deep-le-height (Pair a b) = omega arith
deep-le-height (Set vs) = omega arith
deep-le-height (Seq vs) = omega arith
deep-le-height (Map es) = omega arith
deep-le-height (Tag n) = omega arith

pub most_le-heights : (vs : List Value) → most deep-Value vs ≤ heights (row (map plain vs))
most_le-heights [] = omega arith
most_le-heights (v ∷ vs) = omega (arith, most_le-heights vs, deep-le-height v)

pub most_le-entry_heights : (es : List (Value × Value)) → most (λ e. max (deep-Value e.0) (max (deep-Value e.1) 0)) es ≤ entry_heights (table (map plain_entry es))
most_le-entry_heights [] = omega arith
most_le-entry_heights (e ∷ es) = omega (arith, most_le-entry_heights es, deep-le-height e.0, deep-le-height e.1)
