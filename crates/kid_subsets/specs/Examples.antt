-- Small searches of subsets.
use Rattle.std.specs.Prelude.{◌≡◌, pos, true, [], ◌∷◌}
use Rattle.kid_value.specs.PlainSort.{ints}
use Rattle.kid_value.specs.PlainValue.{PlainValue, int, set, none, more}
use Rattle.kid_search.specs.Searching.{Event, visited, found, unpruned, search}
use Rattle.kid_subsets.specs.Subsets.{subsets_space, subsets_start}

abbrev pub one : PlainValue
one = set (more (int (pos 1)) none)

abbrev pub two : PlainValue
two = set (more (int (pos 2)) none)

abbrev pub both : PlainValue
both = set (more (int (pos 1)) (more (int (pos 2)) none))

abbrev pub empty : PlainValue
empty = set none

-- the members that are taken, and those that are open
abbrev pub at : PlainValue → PlainValue → Event
at taken open_ones = visited (taken ∷ open_ones ∷ [])

pub record SubsetsExamples : Type 0 where
  -- the least open member is left out first, and then taken
  pub all : search (subsets_space (ints (pos 0) (pos 9))) (λ z. true) unpruned (subsets_start both)
      ≡ at empty both
      ∷ at empty two ∷ at empty empty ∷ found empty ∷ at two empty ∷ found two
      ∷ at one two ∷ at one empty ∷ found one ∷ at both empty ∷ found both ∷ []
  -- the empty set has one subset
  pub none : search (subsets_space (ints (pos 0) (pos 9))) (λ z. true) unpruned (subsets_start empty) ≡ at empty empty ∷ found empty ∷ []
