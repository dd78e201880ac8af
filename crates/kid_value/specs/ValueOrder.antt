-- The order of values: by kinds, and within a kind by parts.
use Rattle.std.specs.Prelude.{◌≡◌, ℕ}
use Rattle.std.specs.declared.cmp.Ordering.{Ordering}
use Rattle.std.specs.declared.cmp.Ordering.TheVariants.{Less, Equal, Greater}
use Rattle.std.specs.Ordering.{ordering_then, ordering_reverse, nat_cmp, int_cmp, bool_cmp}
use Rattle.kid_value.specs.NameSet.{name_cmp}
use Rattle.kid_value.specs.PlainValue.{PlainValue, int, bool, pair, set, seq, map_of, tag, PlainValues, none, more, PlainEntries, no_entry, entry}

abbrev pub kind_rank : PlainValue → ℕ
kind_rank (int n) = 0
kind_rank (bool b) = 1
kind_rank (pair a b) = 2
kind_rank (set vs) = 3
kind_rank (seq vs) = 4
kind_rank (map_of es) = 5
kind_rank (tag n) = 6

abbrev mutual
  pub value_cmp : PlainValue → PlainValue → Ordering
  value_cmp (int m) (int n) = int_cmp m n
  value_cmp (bool a) (bool b) = bool_cmp a b
  value_cmp (pair a b) (pair c d) = ordering_then (value_cmp a c) (value_cmp b d)
  value_cmp (set vs) (set ws) = set_cmp vs ws
  value_cmp (seq vs) (seq ws) = seq_cmp vs ws
  value_cmp (map_of m) (map_of n) = map_cmp m n
  value_cmp (tag m) (tag n) = name_cmp m n
  value_cmp v w = nat_cmp (kind_rank v) (kind_rank w)

  -- the list that ends first is smaller
  pub seq_cmp : PlainValues → PlainValues → Ordering
  seq_cmp none none = Equal
  seq_cmp none (more w ws) = Less
  seq_cmp (more v vs) none = Greater
  seq_cmp (more v vs) (more w ws) = ordering_then (value_cmp v w) (seq_cmp vs ws)

  -- the set that lacks the least member in which they differ is smaller
  pub set_cmp : PlainValues → PlainValues → Ordering
  set_cmp none none = Equal
  set_cmp none (more w ws) = Less
  set_cmp (more v vs) none = Greater
  set_cmp (more v vs) (more w ws) = ordering_then (ordering_reverse (value_cmp v w)) (set_cmp vs ws)

  -- the map that lacks the least key at which they differ is smaller, and else the smaller value decides
  pub map_cmp : PlainEntries → PlainEntries → Ordering
  map_cmp no_entry no_entry = Equal
  map_cmp no_entry (entry l w n) = Less
  map_cmp (entry k v m) no_entry = Greater
  map_cmp (entry k v m) (entry l w n) = ordering_then (ordering_reverse (value_cmp k l)) (ordering_then (value_cmp v w) (map_cmp m n))

-- the strict order
abbrev pub Before : PlainValue → PlainValue → Type 0
Before v w = value_cmp v w ≡ Less
