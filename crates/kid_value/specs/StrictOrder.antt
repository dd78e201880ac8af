-- What it means that a value is before another.
use Rattle.std.specs.Prelude.{◌≡◌, ◌<◌, ◌<ℤ◌, true, false, ◌⊎◌}
use Rattle.kid_value.specs.PlainValue.{PlainValue, int, bool, pair, set, seq, map_of, tag, items, entries}
use Rattle.kid_value.specs.ValueOrder.{Before, kind_rank}
use Rattle.kid_value.specs.SetOrder.{LacksLeast}
use Rattle.kid_value.specs.SequenceOrder.{IsLexicallyBefore}
use Rattle.kid_value.specs.MapOrder.{IsLowerFirst}

-- numbers ascend, false is before true, pairs and sequences go by their parts from the first on and tags by the bytes of
-- their names, sets and maps by the least value or key in which they differ, and values of two kinds by the kinds
abbrev pub IsBefore : PlainValue → PlainValue → Type 0
IsBefore (int m) (int n) = m <ℤ n
IsBefore (bool a) (bool b) = (a ≡ false) × (b ≡ true)
IsBefore (pair a b) (pair c d) = Before a c ⊎ ((a ≡ c) × Before b d)
IsBefore (set vs) (set ws) = LacksLeast (items vs) (items ws)
IsBefore (seq vs) (seq ws) = IsLexicallyBefore Before (items vs) (items ws)
IsBefore (map_of m) (map_of n) = IsLowerFirst (entries m) (entries n)
IsBefore (tag m) (tag n) = IsLexicallyBefore (λ x y. x < y) m n
IsBefore v w = kind_rank v < kind_rank w
