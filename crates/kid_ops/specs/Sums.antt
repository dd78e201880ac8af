-- Sets and sequences of which each sum stays within the limits of integers.
use Rattle.std.specs.Prelude.{◌≡◌, pos, true}
use Rattle.kid_value.specs.PlainValue.{PlainValue, set, seq, items}
use Rattle.kid_value.specs.Rows.Sums.{sums_small}

abbrev pub HasSmallSums : PlainValue → Type 0
HasSmallSums (set vs) = sums_small (pos 0) (items vs) ≡ true
HasSmallSums (seq vs) = sums_small (pos 0) (items vs) ≡ true
HasSmallSums v = ⊥
