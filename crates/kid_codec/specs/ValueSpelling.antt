-- Values as trees.
use Rattle.std.specs.Prelude.{ℕ, Bool, true, false, ◌&&◌, List, [], ◌∷◌, Option, Some, None, option_map, if◌then◌else◌, codes, Result}
use Rattle.std.specs.Str.{bytes_eq}
use Rattle.kid_sexp.specs.Plain as tree
use Rattle.kid_sexp.specs.Plain.{Plain, Plains, atom, list, one}
use Rattle.kid_value.specs.PlainSort.{PlainSort, has_sort}
use Rattle.kid_value.specs.SortOrder.{both}
use Rattle.kid_value.specs.SortLimits.{in_limits}
use Rattle.kid_value.specs.PlainValue.{PlainValue, int, bool, pair, set, seq, map_of, tag, PlainValues, none, more, PlainEntries, no_entry, entry}
use Rattle.kid_value.specs.ValueMap.{put_entry, keys}
use Rattle.kid_value.specs.ValueSet.{is_member}
use Rattle.kid_value.specs.Rows.Kinds.{set_of_all, sequence_from, map_from}
use Rattle.kid_codec.specs.Name.{is_name}
use Rattle.kid_codec.specs.NameSpelling.{tag_word, is_tag, tag_name}
use Rattle.kid_codec.specs.Number.{number_of}
use Rattle.kid_codec.specs.Reading.{fitting, ◌>>=◌}
use Rattle.kid_codec.specs.SortSpelling.{number_tree, headed}
use Rattle.kid_codec.specs.declared.fault.CodecFault.{CodecFault}

abbrev pub truth_word : Bool → List ℕ
truth_word true = codes "true"
truth_word false = codes "false"

-- the tree of a value, with members and entries in their order
abbrev mutual
  pub value_spelling : PlainValue → Plain
  value_spelling (int n) = number_tree n
  value_spelling (bool b) = atom (truth_word b)
  value_spelling (pair a b) = headed (codes "pair") (tree.more (value_spelling a) (one (value_spelling b)))
  value_spelling (set vs) = headed (codes "set") (value_spellings vs)
  value_spelling (seq vs) = headed (codes "seq") (value_spellings vs)
  value_spelling (map_of es) = headed (codes "map") (entry_spellings es)
  value_spelling (tag n) = atom (tag_word n)

  pub value_spellings : PlainValues → Plains
  value_spellings none = tree.none
  value_spellings (more v vs) = tree.more (value_spelling v) (value_spellings vs)

  pub entry_spellings : PlainEntries → Plains
  entry_spellings no_entry = tree.none
  entry_spellings (entry k v es) = tree.more (list (tree.more (value_spelling k) (one (value_spelling v)))) (entry_spellings es)

-- the values that have a spelling: each integer in them lies within the limits, and each tag is a name
abbrev mutual
  pub is_spelled_value : PlainValue → Bool
  is_spelled_value (int n) = in_limits n
  is_spelled_value (bool b) = true
  is_spelled_value (pair a b) = is_spelled_value a && is_spelled_value b
  is_spelled_value (set vs) = are_spelled_values vs
  is_spelled_value (seq vs) = are_spelled_values vs
  is_spelled_value (map_of es) = are_spelled_entries es
  is_spelled_value (tag n) = is_name n

  pub are_spelled_values : PlainValues → Bool
  are_spelled_values none = true
  are_spelled_values (more v vs) = is_spelled_value v && are_spelled_values vs

  pub are_spelled_entries : PlainEntries → Bool
  are_spelled_entries no_entry = true
  are_spelled_entries (entry k v es) = is_spelled_value k && is_spelled_value v && are_spelled_entries es

abbrev pub atom_value : List ℕ → Option PlainValue
atom_value w =
    if bytes_eq w (codes "true") then Some (bool true)
    else (if bytes_eq w (codes "false") then Some (bool false)
    else (if is_tag w then Some (tag (tag_name w))
    else option_map int (number_of w)))

-- the map with one more entry, unless its key is there already
abbrev pub with_entry : List (PlainValue × PlainValue) → PlainValue × PlainValue → Option (List (PlainValue × PlainValue))
with_entry known e = if is_member e.0 (keys known) then None else Some (put_entry e.0 e.1 known)

-- the map with these entries too
abbrev pub with_entries : List (PlainValue × PlainValue) → List (PlainValue × PlainValue) → Option (List (PlainValue × PlainValue))
with_entries known [] = Some known
with_entries known (e ∷ es) = with_entry known e >>= λ more. with_entries more es

-- the map of entries, of which no two may have one key
abbrev pub distinct_entries : Option (List (PlainValue × PlainValue)) → Option (List (PlainValue × PlainValue))
distinct_entries es = es >>= with_entries []

-- what a word makes of the trees after it, which are two values, values, or entries
abbrev pub value_of_parts : List ℕ → Option PlainValue → Option (List PlainValue) → Option (List (PlainValue × PlainValue)) → Option PlainValue
value_of_parts w paired values entries =
    if bytes_eq w (codes "pair") then paired
    else (if bytes_eq w (codes "set") then option_map set_of_all values
    else (if bytes_eq w (codes "seq") then option_map sequence_from values
    else (if bytes_eq w (codes "map") then option_map map_from (distinct_entries entries) else None)))

-- the value that a tree spells
abbrev mutual
  pub spelled_value : Plain → Option PlainValue
  spelled_value (atom w) = atom_value w
  spelled_value (list ts) = spelled_list ts

  pub spelled_list : Plains → Option PlainValue
  spelled_list tree.none = None
  spelled_list (tree.more (list us) ts) = None
  spelled_list (tree.more (atom w) ts) = value_of_parts w (spelled_pair ts) (spelled_values ts) (spelled_entries ts)

  pub spelled_pair : Plains → Option PlainValue
  spelled_pair tree.none = None
  spelled_pair (tree.more s tree.none) = None
  spelled_pair (tree.more s (tree.more t tree.none)) = both pair (spelled_value s) (spelled_value t)
  spelled_pair (tree.more s (tree.more t (tree.more u ts))) = None

  pub spelled_values : Plains → Option (List PlainValue)
  spelled_values tree.none = Some []
  spelled_values (tree.more t ts) = spelled_value t >>= λ v. option_map (λ vs. v ∷ vs) (spelled_values ts)

  -- an entry is a list of a key and its value
  pub spelled_entry : Plain → Option (PlainValue × PlainValue)
  spelled_entry (atom w) = None
  spelled_entry (list ts) = key_and_value ts

  pub key_and_value : Plains → Option (PlainValue × PlainValue)
  key_and_value tree.none = None
  key_and_value (tree.more s tree.none) = None
  key_and_value (tree.more s (tree.more t tree.none)) = both (λ k v. (k, v)) (spelled_value s) (spelled_value t)
  key_and_value (tree.more s (tree.more t (tree.more u ts))) = None

  pub spelled_entries : Plains → Option (List (PlainValue × PlainValue))
  spelled_entries tree.none = Some []
  spelled_entries (tree.more t ts) = spelled_entry t >>= λ e. option_map (λ es. e ∷ es) (spelled_entries ts)

-- the value of the sort that a tree spells, or the fault
abbrev pub value_reading : PlainSort → Plain → Result PlainValue CodecFault
value_reading s t = fitting (has_sort s) (spelled_value t)
