-- What a lawful search space keeps, and what a start and a cut owe.
use Rattle.std.specs.Prelude.{◌≡◌, ℕ, ◌+◌, ◌<◌, ◌≤◌, Bool, true, ◌||◌, cond, List, [], ◌∷◌, Some}
use Rattle.kid_value.specs.PlainValue.{PlainValue}
use Rattle.kid_value.specs.ValueOrder.{Before}
use Rattle.kid_search.specs.Space.{Descriptor, Space, is_leaf, any_satisfies}

module _ (s : Space) (in_sort : PlainValue → Bool) where
  -- every value under an earlier descriptor is before every value under a later one
  abbrev pub InOrder : List Descriptor → Type 0
  InOrder [] = Unit {0}
  InOrder (d ∷ ds) =
      ((v w : PlainValue) → in_sort v ≡ true → in_sort w ≡ true → s.satisfies d v ≡ true → any_satisfies s ds w ≡ true → Before v w) × InOrder ds

  -- each is good, and of a rank below n
  abbrev pub AllFall : ℕ → List Descriptor → Type 0
  AllFall n [] = Unit {0}
  AllFall n (d ∷ ds) = (s.is_good d ≡ true) × (s.rank d < n) × AllFall n ds

  -- the laws of a search space for the values of a sort
  pub record IsLawful : Type 0 where
    -- what satisfies a descriptor is its leaf or satisfies a kid
    pub covers : (d : Descriptor) (v : PlainValue) → s.is_good d ≡ true → in_sort v ≡ true → s.satisfies d v ≡ (is_leaf (s.leaf d) v || any_satisfies s (s.kids d) v)
    -- the leaf is of the sort
    pub leaf_in_sort : (d : Descriptor) (v : PlainValue) → s.is_good d ≡ true → s.leaf d ≡ Some v → in_sort v ≡ true
    -- the leaf comes first
    pub leaf_first : (d : Descriptor) (v w : PlainValue) → s.is_good d ≡ true → s.leaf d ≡ Some v → in_sort w ≡ true → any_satisfies s (s.kids d) w ≡ true → Before v w
    -- and the kids in their order
    pub kids_in_order : (d : Descriptor) → s.is_good d ≡ true → InOrder (s.kids d)
    -- kids are good, and the rank falls
    pub kids_fall : (d : Descriptor) → s.is_good d ≡ true → AllFall (s.rank d) (s.kids d)

-- how many of the descriptors a value satisfies
abbrev pub how_many : Space → List Descriptor → PlainValue → ℕ
how_many s [] v = 0
how_many s (d ∷ ds) v = cond (s.satisfies d v) 1 0 + how_many s ds v

abbrev pub is_one : Bool → ℕ
is_one b = cond b 1 0

-- a value that satisfies a descriptor is the leaf or satisfies a kid, and is just one of these
abbrev pub IsJustOne : Space → (PlainValue → Bool) → Type 0
IsJustOne s in_sort = (d : Descriptor) (v : PlainValue) → s.is_good d ≡ true → in_sort v ≡ true → is_one (is_leaf (s.leaf d) v) + how_many s (s.kids d) v ≡ is_one (s.satisfies d v)

-- the start is good, and every value of which the goal is true satisfies it
pub record Starts (s : Space) (in_sort : PlainValue → Bool) (goal : PlainValue → Bool) (start : Descriptor) : Type 0 where
  pub good : s.is_good start ≡ true
  pub holds_all : (v : PlainValue) → in_sort v ≡ true → goal v ≡ true → s.satisfies start v ≡ true

-- what a cut owes: the changed descriptor is good, of no higher rank, stands for no more, and loses nothing of which the fact is true
pub record IsCut (s : Space) (in_sort : PlainValue → Bool) (fact : PlainValue → Bool) (d changed : Descriptor) : Type 0 where
  pub good : s.is_good changed ≡ true
  pub rank : s.rank changed ≤ s.rank d
  pub within : (v : PlainValue) → in_sort v ≡ true → s.satisfies changed v ≡ true → s.satisfies d v ≡ true
  pub keeps : (v : PlainValue) → in_sort v ≡ true → fact v ≡ true → s.satisfies d v ≡ true → s.satisfies changed v ≡ true
