-- Small searches of maps.
use Rattle.std.specs.Prelude.{◌≡◌, ℕ, pos, true, [], ◌∷◌}
use Rattle.kid_value.specs.PlainSort.{ints}
use Rattle.kid_value.specs.PlainValue.{PlainValue, int, set, map_of, none, more, no_entry, entry}
use Rattle.kid_search.specs.Searching.{Event, visited, found, unpruned, search}
use Rattle.kid_maps.specs.Maps.{maps_space, maps_start}

-- the keys 1 and 2, and the values 7 and 8
abbrev pub keys : PlainValue
keys = set (more (int (pos 1)) (more (int (pos 2)) none))

abbrev pub values : PlainValue
values = set (more (int (pos 7)) (more (int (pos 8)) none))

abbrev pub of_none : PlainValue
of_none = map_of no_entry

-- the first key has the value, and both have
abbrev pub first_at : ℕ → PlainValue
first_at x = map_of (entry (int (pos 1)) (int (pos x)) no_entry)

abbrev pub both_at : ℕ → ℕ → PlainValue
both_at x y = map_of (entry (int (pos 1)) (int (pos x)) (entry (int (pos 2)) (int (pos y)) no_entry))

-- each open key with the values that it may get
abbrev pub two_open : PlainValue
two_open = map_of (entry (int (pos 1)) values (entry (int (pos 2)) values no_entry))

abbrev pub one_open : PlainValue
one_open = map_of (entry (int (pos 2)) values no_entry)

abbrev pub whole : ℕ → ℕ → Event
whole x y = visited (both_at x y ∷ of_none ∷ [])

pub record MapsExamples : Type 0 where
  -- the least open key gets each of its values
  pub all : search (maps_space (ints (pos 0) (pos 9)) (ints (pos 0) (pos 9))) (λ z. true) unpruned (maps_start keys values)
      ≡ visited (of_none ∷ two_open ∷ [])
      ∷ visited (first_at 7 ∷ one_open ∷ []) ∷ whole 7 7 ∷ found (both_at 7 7) ∷ whole 7 8 ∷ found (both_at 7 8)
      ∷ visited (first_at 8 ∷ one_open ∷ []) ∷ whole 8 7 ∷ found (both_at 8 7) ∷ whole 8 8 ∷ found (both_at 8 8) ∷ []
  -- without a value there is no map, but that of no keys
  pub none : search (maps_space (ints (pos 0) (pos 9)) (ints (pos 0) (pos 9))) (λ z. true) unpruned (maps_start keys (set none))
      ≡ visited (of_none ∷ map_of (entry (int (pos 1)) (set none) (entry (int (pos 2)) (set none) no_entry)) ∷ []) ∷ []
