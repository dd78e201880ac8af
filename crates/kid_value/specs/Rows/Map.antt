-- The operators on maps, by look-ups.
use Rattle.std.specs.Prelude.{Bool, false, not, [], Option, Some, None, map, filter, unwrap_or}
use Rattle.std.specs.List.{list_all}
use Rattle.kid_value.specs.PlainValue.{PlainValue, bool, set, map_of, items, entries}
use Rattle.kid_value.specs.Rows.Kinds.{wrong_kind, set_from, set_of_all, map_from}
use Rattle.kid_value.specs.ValueMap.{keys, lookup, put_entry}
use Rattle.kid_value.specs.ValueSet as sets
use Rattle.kid_value.specs.ValueSet.{value_eq, is_member}

-- whether the value at the key is v, or is a member of v
abbrev pub has_value : Option PlainValue → PlainValue → Bool
has_value None v = false
has_value (Some w) v = value_eq w v

abbrev pub has_value_in : Option PlainValue → PlainValue → Bool
has_value_in (Some w) (set vs) = is_member w (items vs)
has_value_in o v = false

-- a set cut down to the members of another, where there is one
abbrev pub cut_down : PlainValue → Option PlainValue → PlainValue
cut_down v None = v
cut_down (set vs) (Some (set ws)) = set_from (sets.inter (items vs) (items ws))
cut_down v (Some w) = wrong_kind

abbrev pub empty_map : PlainValue
empty_map = map_from []

abbrev pub dom : PlainValue → PlainValue
dom (map_of m) = set_from (keys (entries m))
dom v = wrong_kind

abbrev pub ran : PlainValue → PlainValue
ran (map_of m) = set_of_all (map (λ e. e.1) (entries m))
ran v = wrong_kind

abbrev pub get : PlainValue → PlainValue → PlainValue → PlainValue
get (map_of m) x d = unwrap_or (lookup x (entries m)) d
get v x d = wrong_kind

abbrev pub put : PlainValue → PlainValue → PlainValue → PlainValue
put (map_of m) x y = map_from (put_entry x y (entries m))
put v x y = wrong_kind

abbrev pub drop : PlainValue → PlainValue → PlainValue
drop (map_of m) x = map_from (filter (λ e. not (value_eq e.0 x)) (entries m))
drop v x = wrong_kind

abbrev pub fill : PlainValue → PlainValue → PlainValue
fill (set vs) x = map_from (map (λ v. (v, x)) (items vs))
fill v x = wrong_kind

abbrev pub submap : PlainValue → PlainValue → PlainValue
submap (map_of m) (map_of n) = bool (list_all (λ e. has_value (lookup e.0 (entries n)) e.1) (entries m))
submap v w = wrong_kind

abbrev pub fits : PlainValue → PlainValue → PlainValue
fits (map_of m) (map_of n) = bool (list_all (λ e. has_value_in (lookup e.0 (entries m)) e.1) (entries n))
fits v w = wrong_kind

abbrev pub narrow : PlainValue → PlainValue → PlainValue
narrow (map_of m) (map_of n) = map_from (map (λ e. (e.0, cut_down e.1 (lookup e.0 (entries n)))) (entries m))
narrow v w = wrong_kind
