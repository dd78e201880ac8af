-- A sort or the first fault, and how sorts are taken apart.
use Rattle.std.specs.Prelude.{ℕ, ℤ, cond, List, [], ◌∷◌, Option, Some, None, Result, Ok, Err}
use Rattle.kid_value.specs.PlainSort.{PlainSort, never, bools, ints, pairs, sets, seqs, maps}
use Rattle.kid_value.specs.SortOrder.{join}
use Rattle.kid_value.specs.SortLimits.{is_allowed}
pub use Rattle.kid_term.specs.Chain.{◌>>=◌}

-- why a term has no sort
pub data Fault : Type 0 where
  Size : Fault
  TermDeep : Fault
  Unknown : Fault
  Kind : Fault
  Bounds : Fault
  Shadow : Fault

abbrev pub Sorted : Type 0
Sorted = Result PlainSort Fault

-- the sort, if it is allowed
abbrev pub allowed : PlainSort → Sorted
allowed s = cond (is_allowed s) (Ok s) (Err Bounds)

abbrev pub with_one : List PlainSort → (PlainSort → Sorted) → Sorted
with_one (a ∷ []) k = k a
with_one ss k = Err Kind

abbrev pub with_two : List PlainSort → (PlainSort → PlainSort → Sorted) → Sorted
with_two (a ∷ b ∷ []) k = k a b
with_two ss k = Err Kind

abbrev pub with_three : List PlainSort → (PlainSort → PlainSort → PlainSort → Sorted) → Sorted
with_three (a ∷ b ∷ c ∷ []) k = k a b c
with_three ss k = Err Kind

abbrev pub with_four : List PlainSort → (PlainSort → PlainSort → PlainSort → PlainSort → Sorted) → Sorted
with_four (a ∷ b ∷ c ∷ d ∷ []) k = k a b c d
with_four ss k = Err Kind

abbrev pub with_bool : PlainSort → Sorted → Sorted
with_bool bools r = r
with_bool s r = Err Kind

abbrev pub with_ints : PlainSort → (ℤ → ℤ → Sorted) → Sorted
with_ints (ints lo hi) k = k lo hi
with_ints s k = Err Kind

abbrev pub with_set : PlainSort → (PlainSort → Sorted) → Sorted
with_set (sets a) k = k a
with_set s k = Err Kind

abbrev pub with_join : Option PlainSort → (PlainSort → Sorted) → Sorted
with_join None k = Err Kind
with_join (Some s) k = k s

abbrev pub with_pair : PlainSort → (PlainSort → PlainSort → Sorted) → Sorted
with_pair (pairs a b) k = k a b
with_pair s k = Err Kind

abbrev pub with_seq : PlainSort → (PlainSort → ℕ → Sorted) → Sorted
with_seq (seqs a n) k = k a n
with_seq s k = Err Kind

abbrev pub with_map : PlainSort → (PlainSort → PlainSort → Sorted) → Sorted
with_map (maps a b) k = k a b
with_map s k = Err Kind

-- the least sort above both, where the second is there
abbrev pub join_over : PlainSort → Option PlainSort → Option PlainSort
join_over a None = None
join_over a (Some b) = join a b

-- the least sort above all, which for none is the sort without values
abbrev pub join_all : List PlainSort → Option PlainSort
join_all [] = Some never
join_all (a ∷ ss) = join_over a (join_all ss)
