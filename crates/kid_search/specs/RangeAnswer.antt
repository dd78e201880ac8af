-- What the search of an interval answers.
use Rattle.std.specs.Prelude.{ℕ, ℤ, pos, ◌+ℤ◌, ◌-ℤ◌, Bool, ◌&&◌, cond, List, [], ◌∷◌, Err, Result}
use Rattle.kid_value.specs.PlainSort.{PlainSort, ints}
use Rattle.kid_value.specs.SortLimits.{is_allowed}
use Rattle.kid_value.specs.SortOrder.{is_subsort}
use Rattle.kid_term.specs.Names.{Names}
use Rattle.kid_term.specs.PlainTerm.{PlainTerm}
use Rattle.kid_term.specs.declared.why.Why.{Why}
use Rattle.kid_term.specs.declared.why.Why.TheVariants.{Outside, IllSorted}
use Rattle.kid_search.specs.Judged.{judged}
use Rattle.kid_search.specs.Pieces.{PlainPieces}
use Rattle.kid_search.specs.RangePieces.{range_pieces}
use Rattle.kid_search.specs.TheoryLaws.{Answering}

-- both components have allowed sorts: the least number may rise to one above the interval, the greatest fall to one below
abbrev pub has_ends : ℤ → ℤ → Bool
has_ends lo hi = is_allowed (ints lo (hi +ℤ pos 1)) && is_allowed (ints (lo -ℤ pos 1) hi)

-- the sum of both has one, whose half is the middle
abbrev pub has_middle : ℤ → ℤ → Bool
has_middle lo hi = is_allowed (ints (lo +ℤ (lo -ℤ pos 1)) ((hi +ℤ pos 1) +ℤ hi))

-- both terms have values of the output's sort
abbrev pub are_within : ℤ → ℤ → PlainSort → PlainSort → Bool
are_within lo hi s t = is_subsort s (ints lo hi) && is_subsort t (ints lo hi)

abbrev pub range_between : ℤ → ℤ → List ℕ → List ℕ × PlainSort → List ℕ × PlainSort → PlainTerm → PlainTerm → Result PlainPieces Why
range_between lo hi z l h a b =
    cond (are_within lo hi l.1 h.1 && has_ends lo hi) (judged (has_middle lo hi) (range_pieces lo hi l.0 h.0 z a b)) (Err IllSorted)

-- two names and two terms, for an output that is a number
abbrev pub range_of_two : ℤ → ℤ → List ℕ → Names → List PlainTerm → Result PlainPieces Why
range_of_two lo hi z (l ∷ h ∷ []) (a ∷ b ∷ []) = range_between lo hi z l h a b
range_of_two lo hi z names ts = Err Outside

abbrev pub range_answer : Answering
range_answer (ints lo hi) z names ts = range_of_two lo hi z names ts
range_answer s z names ts = Err Outside
