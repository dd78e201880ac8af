-- Small searches of sequences.
use Rattle.std.specs.Prelude.{◌≡◌, pos, true, [], ◌∷◌}
use Rattle.kid_value.specs.PlainSort.{ints}
use Rattle.kid_value.specs.PlainValue.{PlainValue, PlainValues, int, set, seq, none, more}
use Rattle.kid_search.specs.Searching.{Event, visited, found, unpruned, search}
use Rattle.kid_seqs.specs.Seqs.{seqs_space, seqs_start}

-- the items 1 and 2
abbrev pub items : PlainValue
items = set (more (int (pos 1)) (more (int (pos 2)) none))

abbrev pub of_none : PlainValue
of_none = seq none

abbrev pub of_one : PlainValue → PlainValue
of_one x = seq (more x none)

abbrev pub of_two : PlainValue → PlainValue → PlainValue
of_two x y = seq (more x (more y none))

pub record SeqsExamples : Type 0 where
  -- a sequence is found before those that go on from it
  pub all : search (seqs_space 5 (pos 2) (ints (pos 0) (pos 9))) (λ z. true) unpruned (seqs_start items)
      ≡ visited (of_none ∷ items ∷ []) ∷ found of_none
      ∷ visited (of_one (int (pos 1)) ∷ items ∷ []) ∷ found (of_one (int (pos 1)))
      ∷ visited (of_two (int (pos 1)) (int (pos 1)) ∷ items ∷ []) ∷ found (of_two (int (pos 1)) (int (pos 1)))
      ∷ visited (of_two (int (pos 1)) (int (pos 2)) ∷ items ∷ []) ∷ found (of_two (int (pos 1)) (int (pos 2)))
      ∷ visited (of_one (int (pos 2)) ∷ items ∷ []) ∷ found (of_one (int (pos 2)))
      ∷ visited (of_two (int (pos 2)) (int (pos 1)) ∷ items ∷ []) ∷ found (of_two (int (pos 2)) (int (pos 1)))
      ∷ visited (of_two (int (pos 2)) (int (pos 2)) ∷ items ∷ []) ∷ found (of_two (int (pos 2)) (int (pos 2))) ∷ []
  -- the sort has at most none
  pub none : search (seqs_space 0 (pos 2) (ints (pos 0) (pos 9))) (λ z. true) unpruned (seqs_start items) ≡ visited (of_none ∷ items ∷ []) ∷ found of_none ∷ []
