-- The range theory: a descriptor is an interval, and halves until one integer is left.
use Rattle.std.specs.Prelude.{ℕ, suc, ℤ, pos, ◌+ℤ◌, int_lt, Bool, ◌&&◌, List, [], ◌∷◌, length, take, Option, Some, None, if◌then◌else◌}
use Rattle.std.specs.Int.{int_gap, int_div_euclid}
use Rattle.std.specs.List.{flat_map}
use Rattle.std.specs.Option.{option_to_list}
use Rattle.std.specs.Ordering.{int_eq}
use Rattle.kid_top.specs.Search.{visit, visited, upto_wanted}

abbrev pub Interval : Type 0
Interval = ℤ × ℤ

abbrev pub middle : ℤ → ℤ → ℤ
middle lo hi = int_div_euclid (lo +ℤ hi) (pos 2)

abbrev pub range_leaf : (ℤ → Bool) → Interval → Option ℤ
range_leaf good d = if int_eq d.0 d.1 && good d.0 then Some d.0 else None

abbrev pub range_kids : Interval → List Interval
range_kids d = if int_lt d.0 d.1 then (d.0, middle d.0 d.1) ∷ (middle d.0 d.1 +ℤ pos 1, d.1) ∷ [] else []

-- how much of the way down can be left
abbrev pub range_rank : Interval → ℕ
range_rank d = int_gap d.0 d.1

abbrev pub range_visit : (ℤ → Bool) → ℕ → ℤ → ℤ → List ℤ
range_visit good n lo hi = visit (range_leaf good) range_kids n (lo, hi)

-- how many descriptors can be visited, where at most n visits lie one under another
abbrev pub range_visits : ℕ → ℤ → ℤ → ℕ
range_visits n lo hi = length (visited range_kids n (lo, hi))

-- all that the search from an interval can find
abbrev pub range_search : (ℤ → Bool) → Interval → List ℤ
range_search good d = visit (range_leaf good) range_kids (suc (range_rank d)) d

-- the descriptors that it visits where so many values are wanted, and how many they are
abbrev pub range_visited : (ℤ → Bool) → Option ℕ → Interval → List Interval
range_visited good first d = upto_wanted (range_leaf good) first (visited range_kids (suc (range_rank d)) d)

abbrev pub range_count : (ℤ → Bool) → Option ℕ → Interval → ℕ
range_count good first d = length (range_visited good first d)

-- what it finds in the first of these, of which there are n
abbrev pub range_found : (ℤ → Bool) → Option ℕ → ℕ → Interval → List ℤ
range_found good first n d = flat_map (λ e. option_to_list (range_leaf good e)) (take n (range_visited good first d))
