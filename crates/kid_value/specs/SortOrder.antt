-- Which sorts lie within others, and the least sort above two.
use Rattle.std.specs.Prelude.{◌&&◌, Bool, true, false, Option, Some, None, int_le, nat_le, max}
use Rattle.std.specs.Option.{option_map}
use Rattle.std.specs.Int.{int_min, int_max}
use Rattle.kid_value.specs.NameSet.{are_among, names_union}
use Rattle.kid_value.specs.PlainSort.{PlainSort, never, bools, ints, pairs, sets, seqs, maps, enums}

-- whether the first lies within the second, part by part: then each value of the first is one of the second
abbrev pub is_subsort : PlainSort → PlainSort → Bool
is_subsort never t = true
is_subsort bools bools = true
is_subsort (ints lo hi) (ints low high) = int_le low lo && int_le hi high
is_subsort (pairs a b) (pairs c d) = is_subsort a c && is_subsort b d
is_subsort (sets a) (sets c) = is_subsort a c
is_subsort (seqs a n) (seqs c m) = is_subsort a c && nat_le n m
is_subsort (maps a b) (maps c d) = is_subsort a c && is_subsort b d
is_subsort (enums ms) (enums ns) = are_among ms ns
is_subsort s t = false

-- both, where both are there
abbrev pub both : {A B C : Type 0} → (A → B → C) → Option A → Option B → Option C
both f (Some a) (Some b) = Some (f a b)
both f (Some a) None = None
both f None o = None

-- the least sort above both
abbrev pub join : PlainSort → PlainSort → Option PlainSort
join never t = Some t
join s never = Some s
join bools bools = Some bools
join (ints lo hi) (ints low high) = Some (ints (int_min lo low) (int_max hi high))
join (pairs a b) (pairs c d) = both pairs (join a c) (join b d)
join (sets a) (sets c) = option_map sets (join a c)
join (seqs a n) (seqs c m) = option_map (λ x. seqs x (max n m)) (join a c)
join (maps a b) (maps c d) = both maps (join a c) (join b d)
join (enums ms) (enums ns) = Some (enums (names_union ms ns))
join s t = None
