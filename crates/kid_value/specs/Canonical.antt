-- Values whose sets ascend, at any depth, and whose maps ascend by their keys.
use Rattle.std.specs.Prelude.{Bool, true, false, ◌&&◌, List, [], ◌∷◌}
use Rattle.std.specs.declared.cmp.Ordering.{Ordering}
use Rattle.std.specs.declared.cmp.Ordering.TheVariants.{Less, Equal, Greater}
use Rattle.kid_value.specs.PlainValue.{PlainValue, int, bool, pair, set, seq, map_of, tag, PlainValues, none, more, PlainEntries, no_entry, entry, items, entries}
use Rattle.kid_value.specs.ValueMap.{keys}
use Rattle.kid_value.specs.ValueOrder.{value_cmp}
use Rattle.kid_value.specs.ValueSet.{Ascends}

abbrev mutual
  pub IsCanonical : PlainValue → Type 0
  IsCanonical (int n) = Unit {0}
  IsCanonical (bool b) = Unit {0}
  IsCanonical (pair a b) = IsCanonical a × IsCanonical b
  IsCanonical (set vs) = Ascends (items vs) × AreCanonical vs
  IsCanonical (seq vs) = AreCanonical vs
  IsCanonical (map_of es) = Ascends (keys (entries es)) × EntriesAreCanonical es
  IsCanonical (tag n) = Unit {0}

  pub AreCanonical : PlainValues → Type 0
  AreCanonical none = Unit {0}
  AreCanonical (more v vs) = IsCanonical v × AreCanonical vs

  pub EntriesAreCanonical : PlainEntries → Type 0
  EntriesAreCanonical no_entry = Unit {0}
  EntriesAreCanonical (entry k v es) = IsCanonical k × IsCanonical v × EntriesAreCanonical es

-- the same as tests
abbrev pub is_less : Ordering → Bool
is_less Less = true
is_less Equal = false
is_less Greater = false

abbrev pub are_after : PlainValue → List PlainValue → Bool
are_after x [] = true
are_after x (y ∷ ys) = is_less (value_cmp x y) && are_after x ys

abbrev pub is_ascending : List PlainValue → Bool
is_ascending [] = true
is_ascending (x ∷ xs) = are_after x xs && is_ascending xs

abbrev mutual
  pub is_canonical : PlainValue → Bool
  is_canonical (int n) = true
  is_canonical (bool b) = true
  is_canonical (pair a b) = is_canonical a && is_canonical b
  is_canonical (set vs) = is_ascending (items vs) && are_canonical vs
  is_canonical (seq vs) = are_canonical vs
  is_canonical (map_of es) = is_ascending (keys (entries es)) && entries_are_canonical es
  is_canonical (tag n) = true

  pub are_canonical : PlainValues → Bool
  are_canonical none = true
  are_canonical (more v vs) = is_canonical v && are_canonical vs

  pub entries_are_canonical : PlainEntries → Bool
  entries_are_canonical no_entry = true
  entries_are_canonical (entry k v es) = is_canonical k && is_canonical v && entries_are_canonical es
