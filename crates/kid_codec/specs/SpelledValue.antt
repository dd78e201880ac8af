-- What a tree says: the value that it spells, by its members and by what it has at each key.
use Rattle.std.specs.Prelude.{◌≡◌, ◌⊎◌, ℕ, true, List, Some, Result, Ok, Err, ⊤, codes}
use Rattle.std.specs.Fmt.{signed_decimal}
use Rattle.kid_sexp.specs.Plain as tree
use Rattle.kid_sexp.specs.Plain.{Plain, Plains, atom, list}
use Rattle.kid_value.specs.Canonical.{IsCanonical}
use Rattle.kid_value.specs.PlainSort.{PlainSort, has_sort}
use Rattle.kid_value.specs.PlainValue.{PlainValue, int, bool, pair, set, seq, map_of, tag, PlainValues, none, more, items, entries}
use Rattle.kid_value.specs.SortLimits.{in_limits}
use Rattle.kid_value.specs.ValueMap.{keys, lookup}
use Rattle.kid_value.specs.ValueSet.{Ascends, is_member}
use Rattle.kid_value.specs.ValueView.{plain}
use Rattle.kid_value.specs.declared.value.Value.{Value}
use Rattle.kid_codec.specs.Name.{is_name}
use Rattle.kid_codec.specs.NameSpelling.{tag_word}
use Rattle.kid_codec.specs.SortSpelling.{is_spelled_sort}
use Rattle.kid_codec.specs.ValueSpelling.{truth_word, is_spelled_value}
use Rattle.kid_codec.specs.declared.fault.CodecFault.{CodecFault}
use Rattle.kid_codec.specs.declared.fault.CodecFault.TheVariants.{Form, Sort, Memory}

-- a truth value by its word, a number by its decimal text, and a tag by an apostrophe and its name
abbrev pub WordSpells : List ℕ → PlainValue → Type 0
WordSpells w (bool b) = w ≡ truth_word b
WordSpells w (int n) = (w ≡ signed_decimal n) × (in_limits n ≡ true)
WordSpells w (tag n) = (w ≡ tag_word n) × (is_name n ≡ true)
WordSpells w v = ⊥

abbrev mutual
  -- the tree spells the value
  pub Spells : Plain → PlainValue → Type 0
  Spells (atom w) v = WordSpells w v
  Spells (list ts) v = ListSpells ts v

  -- a pair of what two trees spell, a sequence of what each spells, a set of just what some tree spells, and a map that
  -- has just the values that some tree spells at their keys, of which no two trees spell the same
  pub ListSpells : Plains → PlainValue → Type 0
  ListSpells tree.none v = ⊥
  ListSpells (tree.more (list us) ts) v = ⊥
  ListSpells (tree.more (atom w) ts) (pair a b) = (w ≡ codes "pair") × SpellTwo ts a b
  ListSpells (tree.more (atom w) ts) (seq vs) = (w ≡ codes "seq") × SpellInOrder ts vs
  ListSpells (tree.more (atom w) ts) (set vs) =
      (w ≡ codes "set") × Ascends (items vs) × EachSpellsMember ts (items vs) × ((v : PlainValue) → is_member v (items vs) ≡ true → SomeSpells ts v)
  ListSpells (tree.more (atom w) ts) (map_of es) =
      (w ≡ codes "map") × Ascends (keys (entries es)) × EachSpellsEntry ts (entries es)
      × ((k v : PlainValue) → lookup k (entries es) ≡ Some v → SomeSpellsEntry ts k v) × KeysDiffer ts
  ListSpells (tree.more (atom w) ts) (bool b) = ⊥
  ListSpells (tree.more (atom w) ts) (int n) = ⊥
  ListSpells (tree.more (atom w) ts) (tag n) = ⊥

  -- there are two trees, and they spell the two values
  pub SpellTwo : Plains → PlainValue → PlainValue → Type 0
  SpellTwo (tree.more s (tree.more t tree.none)) a b = Spells s a × Spells t b
  SpellTwo ts a b = ⊥

  pub SpellInOrder : Plains → PlainValues → Type 0
  SpellInOrder tree.none none = Unit {0}
  SpellInOrder (tree.more t ts) (more v vs) = Spells t v × SpellInOrder ts vs
  SpellInOrder ts vs = ⊥

  pub EachSpellsMember : Plains → List PlainValue → Type 0
  EachSpellsMember tree.none vs = Unit {0}
  EachSpellsMember (tree.more t ts) vs = ((v : PlainValue) × Spells t v × (is_member v vs ≡ true)) × EachSpellsMember ts vs

  pub SomeSpells : Plains → PlainValue → Type 0
  SomeSpells tree.none v = ⊥
  SomeSpells (tree.more t ts) v = Spells t v ⊎ SomeSpells ts v

  -- the tree is a list of two that spell the key and its value
  pub SpellsEntry : Plain → PlainValue → PlainValue → Type 0
  SpellsEntry (atom w) k v = ⊥
  SpellsEntry (list ts) k v = SpellTwo ts k v

  pub EachSpellsEntry : Plains → List (PlainValue × PlainValue) → Type 0
  EachSpellsEntry tree.none es = Unit {0}
  EachSpellsEntry (tree.more t ts) es = ((k : PlainValue) × (v : PlainValue) × SpellsEntry t k v × (lookup k es ≡ Some v)) × EachSpellsEntry ts es

  pub SomeSpellsEntry : Plains → PlainValue → PlainValue → Type 0
  SomeSpellsEntry tree.none k v = ⊥
  SomeSpellsEntry (tree.more t ts) k v = SpellsEntry t k v ⊎ SomeSpellsEntry ts k v

  -- no two of the trees spell entries of one key
  pub KeysDiffer : Plains → Type 0
  KeysDiffer tree.none = Unit {0}
  KeysDiffer (tree.more t ts) = ((k v w : PlainValue) → SpellsEntry t k v → SomeSpellsEntry ts k w → ⊥) × KeysDiffer ts

-- the answer is a value of the sort that the tree spells, or it spells none; want of memory says nothing
abbrev pub TellsValue : PlainSort → Plain → Result Value CodecFault → Type 0
TellsValue s t (Ok v) = Spells t (plain v) × (has_sort s (plain v) ≡ true)
TellsValue s t (Err Form) = (v : PlainValue) → Spells t v → has_sort s v ≡ true → ⊥
TellsValue s t (Err Sort) = ⊥
TellsValue s t (Err Memory) = ⊤

-- the answer is the value, or want of memory
abbrev pub IsReadAs : PlainValue → Result Value CodecFault → Type 0
IsReadAs v (Ok w) = plain w ≡ v
IsReadAs v (Err Form) = ⊥
IsReadAs v (Err Sort) = ⊥
IsReadAs v (Err Memory) = ⊤

-- a tree spells one value at most
abbrev pub SpellsOnce : Type 0
SpellsOnce = (t : Plain) (v w : PlainValue) → Spells t v → Spells t w → v ≡ w

-- at any depth its sets ascend, and its maps by their keys
abbrev pub SpellsCanonical : Type 0
SpellsCanonical = (t : Plain) (v : PlainValue) → Spells t v → IsCanonical v

-- a value of a sort that has a spelling has one too
abbrev pub SortedAreSpelled : Type 0
SortedAreSpelled = (s : PlainSort) (v : PlainValue) → is_spelled_sort s ≡ true → has_sort s v ≡ true → is_spelled_value v ≡ true
