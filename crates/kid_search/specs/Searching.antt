-- The search through a space: what it does, the values that it finds, and the descriptors that it visits.
use Rattle.std.specs.Prelude.{◌≡◌, ℕ, ◌≤◌, zero, suc, Bool, true, cond, List, [], ◌∷◌, ◌++◌, Option, Some, None, map}
use Rattle.std.specs.List.{flat_map}
use Rattle.kid_value.specs.PlainValue.{PlainValue}
use Rattle.kid_search.specs.Space.{Descriptor, Space}

-- what is done to a descriptor before it is visited: the cuts in their order, and then the filters, of which each has to be true
pub record Pruning : Type 0 where
  pub cut : Descriptor → Descriptor
  pub passes : Descriptor → Bool

-- what cuts and filters owe: no feasible value is lost
pub record IsNecessary (s : Space) (feasible : PlainValue → Bool) (p : Pruning) : Type 0 where
  pub cut_good : (d : Descriptor) → s.is_good d ≡ true → s.is_good (p.cut d) ≡ true
  pub cut_rank : (d : Descriptor) → s.is_good d ≡ true → s.rank (p.cut d) ≤ s.rank d
  pub cut_within : (d : Descriptor) (v : PlainValue) → s.is_good d ≡ true → feasible v ≡ true → s.satisfies (p.cut d) v ≡ true → s.satisfies d v ≡ true
  pub cut_keeps : (d : Descriptor) (v : PlainValue) → s.is_good d ≡ true → feasible v ≡ true → s.satisfies d v ≡ true → s.satisfies (p.cut d) v ≡ true
  pub filter_keeps : (d : Descriptor) (v : PlainValue) → s.is_good d ≡ true → feasible v ≡ true → s.satisfies d v ≡ true → p.passes d ≡ true

-- neither cuts nor filters
abbrev pub unpruned : Pruning
unpruned = record { cut = λ d. d; passes = λ d. true }

-- a visit of a descriptor is begun, or a value is found
pub data Event : Type 0 where
  visited : Descriptor → Event
  found : PlainValue → Event

-- the values that are found, and the descriptors that are visited, in their order
abbrev pub values_of : List Event → List PlainValue
values_of [] = []
values_of (visited d ∷ es) = values_of es
values_of (found v ∷ es) = v ∷ values_of es

abbrev pub visits_of : List Event → List Descriptor
visits_of [] = []
visits_of (visited d ∷ es) = d ∷ visits_of es
visits_of (found v ∷ es) = visits_of es

-- the events up to and with the k-th value, and all where there are fewer values
abbrev pub upto : ℕ → List Event → List Event
upto zero es = []
upto (suc k) [] = []
upto (suc k) (visited d ∷ es) = visited d ∷ upto (suc k) es
upto (suc k) (found v ∷ es) = found v ∷ upto k es

-- as far as values are wanted
abbrev pub upto_value : Option ℕ → List Event → List Event
upto_value None es = es
upto_value (Some k) es = upto k es

module _ (s : Space) (holds : PlainValue → Bool) (p : Pruning) where
  -- the leaf, where it is an answer
  abbrev pub leaf_answers : Option PlainValue → List PlainValue
  leaf_answers None = []
  leaf_answers (Some v) = cond (holds v) (v ∷ []) []

  -- what is done at a descriptor, to a depth of n: first its leaf, and then each kid that passes after the cuts
  abbrev pub visit : ℕ → Descriptor → List Event
  visit zero d = []
  visit (suc n) d = visited d ∷ (map found (leaf_answers (s.leaf d)) ++ flat_map (λ k. cond (p.passes (p.cut k)) (visit n (p.cut k)) []) (s.kids d))

  -- the search from a start, which is cut and filtered as the kids are; no visit lies deeper than the rank
  abbrev pub search : Descriptor → List Event
  search d = cond (p.passes (p.cut d)) (visit (suc (s.rank (p.cut d))) (p.cut d)) []
