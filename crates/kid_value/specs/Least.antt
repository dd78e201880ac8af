-- The least value of a sort.
use Rattle.std.specs.Prelude.{◌≡◌, true, false}
use Rattle.std.specs.declared.cmp.Ordering.TheVariants.{Greater}
use Rattle.kid_value.specs.PlainValue.{PlainValue, int, bool, pair, set, seq, map_of, tag, none, no_entry}
use Rattle.kid_value.specs.NameSet.{least_name}
use Rattle.kid_value.specs.PlainSort.{PlainSort, never, bools, ints, pairs, sets, seqs, maps, enums, has_sort}
use Rattle.kid_value.specs.ValueOrder.{value_cmp}

abbrev pub least_value : PlainSort → PlainValue
least_value never = bool false
least_value bools = bool false
least_value (ints lo hi) = int lo
least_value (pairs a b) = pair (least_value a) (least_value b)
least_value (sets a) = set none
least_value (seqs a n) = seq none
least_value (maps a b) = map_of no_entry
least_value (enums ns) = tag (least_name ns)

-- where the sort has a value, v is one, and no other is before it
abbrev pub IsLeastOf : PlainSort → PlainValue → Type 0
IsLeastOf s v = (w : PlainValue) → has_sort s w ≡ true → (has_sort s v ≡ true) × (value_cmp v w ≡ Greater → ⊥)
