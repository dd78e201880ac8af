-- What sets, sequences and maps hold.
use Rattle.std.specs.Prelude.{◌≡◌, Bool, true, Option}
use Rattle.kid_value.specs.PlainValue.{PlainValue, set, seq, map_of}
use Rattle.kid_value.specs.Rows.Parts.{members_of, entries_of}
use Rattle.kid_value.specs.ValueMap.{lookup}
use Rattle.kid_value.specs.ValueSet.{is_member}

abbrev pub IsSet : PlainValue → Type 0
IsSet (set vs) = Unit {0}
IsSet v = ⊥

abbrev pub IsSequence : PlainValue → Type 0
IsSequence (seq vs) = Unit {0}
IsSequence v = ⊥

abbrev pub IsMap : PlainValue → Type 0
IsMap (map_of m) = Unit {0}
IsMap v = ⊥

-- whether x is a member of the set
abbrev pub has : PlainValue → PlainValue → Bool
has x s = is_member x (members_of s)

-- what a map has at a key
abbrev pub value_at : PlainValue → PlainValue → Option PlainValue
value_at k m = lookup k (entries_of m)

-- each member of the first set is one of the second
abbrev pub IsWithin : PlainValue → PlainValue → Type 0
IsWithin s t = (x : PlainValue) → has x s ≡ true → has x t ≡ true
