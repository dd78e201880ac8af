-- Names that have values of their sorts, and terms that have a sort.
use Rattle.std.specs.Prelude.{Bool, true, false, ◌&&◌, ℕ, List, [], ◌∷◌, Ok, Err}
use Rattle.kid_value.specs.PlainValue.{PlainValue}
use Rattle.kid_value.specs.PlainSort.{PlainSort}
use Rattle.kid_value.specs.SortLimits.{is_allowed}
use Rattle.kid_value.specs.InSort.{in_sort}
use Rattle.kid_term.specs.Names.{Names}
use Rattle.kid_term.specs.Sorted.{Sorted}

abbrev pub is_given : List ℕ × PlainSort → PlainValue → Bool
is_given n v = is_allowed n.1 && in_sort n.1 v

-- as many values as names, each of its name's sort
abbrev pub are_given : Names → List PlainValue → Bool
are_given [] [] = true
are_given (n ∷ ns) (v ∷ vs) = is_given n v && are_given ns vs
are_given ns vs = false

abbrev pub is_sorted : Sorted → Bool
is_sorted (Ok s) = true
is_sorted (Err fault) = false
