-- Sorts as trees.
use Rattle.std.specs.Prelude.{ℕ, ℤ, pos, negsuc, Bool, true, not, ◌&&◌, List, Option, Some, None, option_map, if◌then◌else◌, codes, Result}
use Rattle.std.specs.Fmt.{signed_decimal}
use Rattle.std.specs.List.{list_all}
use Rattle.std.specs.Str.{bytes_eq}
use Rattle.kid_sexp.specs.Plain.{Plain, Plains, atom, list, none, more, one}
use Rattle.kid_value.specs.PlainSort.{PlainSort, never, bools, ints, pairs, sets, seqs, maps, enums, has_never}
use Rattle.kid_value.specs.SortOrder.{both}
use Rattle.kid_value.specs.SortCount.{capped}
use Rattle.kid_value.specs.SortLimits.{is_allowed}
use Rattle.kid_codec.specs.Name.{is_name}
use Rattle.kid_codec.specs.NameSpelling.{spelled_names, name_spellings}
use Rattle.kid_codec.specs.Number.{number_of}
use Rattle.kid_codec.specs.Reading.{judged}
use Rattle.kid_codec.specs.declared.fault.CodecFault.{CodecFault}

abbrev pub number_tree : ℤ → Plain
number_tree n = atom (signed_decimal n)

-- a list of a word and trees
abbrev pub headed : List ℕ → Plains → Plain
headed word ts = list (more (atom word) ts)

-- the tree of a sort; the sort without values has none, and its place is empty
abbrev pub sort_spelling : PlainSort → Plain
sort_spelling never = list none
sort_spelling bools = atom (codes "bool")
sort_spelling (ints lo hi) = headed (codes "int") (more (number_tree lo) (one (number_tree hi)))
sort_spelling (pairs a b) = headed (codes "pair") (more (sort_spelling a) (one (sort_spelling b)))
sort_spelling (sets a) = headed (codes "set") (one (sort_spelling a))
sort_spelling (seqs a n) = headed (codes "seq") (more (sort_spelling a) (one (number_tree (pos n))))
sort_spelling (maps a b) = headed (codes "map") (more (sort_spelling a) (one (sort_spelling b)))
sort_spelling (enums ns) = headed (codes "enum") (name_spellings ns)

-- whether what the sort's enums list are names
abbrev pub has_spelled_names : PlainSort → Bool
has_spelled_names never = true
has_spelled_names bools = true
has_spelled_names (ints lo hi) = true
has_spelled_names (pairs a b) = has_spelled_names a && has_spelled_names b
has_spelled_names (sets a) = has_spelled_names a
has_spelled_names (seqs a n) = has_spelled_names a
has_spelled_names (maps a b) = has_spelled_names a && has_spelled_names b
has_spelled_names (enums ns) = list_all is_name ns

-- the sorts that have a spelling
abbrev pub is_spelled_sort : PlainSort → Bool
is_spelled_sort s = is_allowed s && not (has_never s) && has_spelled_names s

abbrev pub spelled_number : Plain → Option ℤ
spelled_number (atom w) = number_of w
spelled_number (list ts) = None

-- the bound of a sequence sort, where 65537 stands for each number that is none
abbrev pub bound_from : ℤ → ℕ
bound_from (pos n) = capped n
bound_from (negsuc n) = 65537

abbrev pub spelled_bound : Plain → Option ℕ
spelled_bound t = option_map bound_from (spelled_number t)

-- what a word makes of one sort
abbrev pub sort_of_one : List ℕ → Option PlainSort → Option PlainSort
sort_of_one w a = if bytes_eq w (codes "set") then option_map sets a else None

-- what a word makes of two trees, which are two sorts, a sort and a bound, or two numbers
abbrev pub sort_of_two : List ℕ → Option PlainSort → Option PlainSort → Plain → Plain → Option PlainSort
sort_of_two w a b s t =
    if bytes_eq w (codes "int") then both ints (spelled_number s) (spelled_number t)
    else (if bytes_eq w (codes "pair") then both pairs a b
    else (if bytes_eq w (codes "seq") then both seqs a (spelled_bound t)
    else (if bytes_eq w (codes "map") then both maps a b else None)))

-- the sort that a tree has the shape of, allowed or not
abbrev mutual
  pub spelled_sort : Plain → Option PlainSort
  spelled_sort (atom w) = if bytes_eq w (codes "bool") then Some bools else None
  spelled_sort (list ts) = sort_of_list ts

  pub sort_of_list : Plains → Option PlainSort
  sort_of_list none = None
  sort_of_list (more (list us) ts) = None
  sort_of_list (more (atom w) ts) = if bytes_eq w (codes "enum") then option_map enums (spelled_names ts) else sort_of_parts ts w

  -- what another word makes of the trees after it
  pub sort_of_parts : Plains → List ℕ → Option PlainSort
  sort_of_parts none w = None
  sort_of_parts (more s none) w = sort_of_one w (spelled_sort s)
  sort_of_parts (more s (more t none)) w = sort_of_two w (spelled_sort s) (spelled_sort t) s t
  sort_of_parts (more s (more t (more u ts))) w = None

-- the sort that a tree spells, or the fault
abbrev pub sort_reading : Plain → Result PlainSort CodecFault
sort_reading t = judged is_allowed (spelled_sort t)
