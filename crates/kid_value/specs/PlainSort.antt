-- Sorts as plain trees, and which values they have.
use Rattle.std.specs.Prelude.{ℕ, ℤ, Bool, true, false, ◌&&◌, ◌||◌, nat_le, int_le, List, length}
use Rattle.std.specs.List.{list_all}
use Rattle.kid_value.specs.PlainValue.{PlainValue, int, bool, pair, set, seq, map_of, tag, items, entries}
use Rattle.kid_value.specs.NameSet.{is_among}

pub data PlainSort : Type 0 where
  never : PlainSort
  bools : PlainSort
  ints : ℤ → ℤ → PlainSort
  pairs : PlainSort → PlainSort → PlainSort
  sets : PlainSort → PlainSort
  seqs : PlainSort → ℕ → PlainSort
  maps : PlainSort → PlainSort → PlainSort
  enums : List (List ℕ) → PlainSort

-- whether the value is of the sort
abbrev pub has_sort : PlainSort → PlainValue → Bool
has_sort bools (bool b) = true
has_sort (ints lo hi) (int n) = int_le lo n && int_le n hi
has_sort (pairs a b) (pair v w) = has_sort a v && has_sort b w
has_sort (sets a) (set vs) = list_all (has_sort a) (items vs)
has_sort (seqs a n) (seq vs) = nat_le (length (items vs)) n && list_all (has_sort a) (items vs)
has_sort (maps a b) (map_of es) = list_all (λ e. has_sort a e.0 && has_sort b e.1) (entries es)
has_sort (enums ns) (tag n) = is_among n ns
has_sort s v = false

-- whether the sort holds the sort without values
abbrev pub has_never : PlainSort → Bool
has_never never = true
has_never bools = false
has_never (ints lo hi) = false
has_never (pairs a b) = has_never a || has_never b
has_never (sets a) = has_never a
has_never (seqs a n) = has_never a
has_never (maps a b) = has_never a || has_never b
has_never (enums ns) = false
