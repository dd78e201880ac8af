-- The operators on sets. Those that make a set are given by its members.
use Rattle.std.specs.Prelude.{ℕ, zero, suc, ℤ, pos, ◌+ℤ◌, not, List, [], ◌∷◌, length, filter}
use Rattle.kid_value.specs.SortCount.{interval_count}
use Rattle.kid_value.specs.PlainValue.{PlainValue, int, bool, set, items}
use Rattle.kid_value.specs.Rows.Kinds.{wrong_kind, set_from, set_of_all}
use Rattle.kid_value.specs.Rows.Parts.{total}
use Rattle.kid_value.specs.ValueSet as sets
use Rattle.kid_value.specs.ValueSet.{value_eq, is_member}

-- n numbers from a on
abbrev pub numbers : ℤ → ℕ → List PlainValue
numbers a zero = []
numbers a (suc n) = int a ∷ numbers (a +ℤ pos 1) n

-- the first of a list, or d where it is empty
abbrev pub first_or : List PlainValue → PlainValue → PlainValue
first_or [] d = d
first_or (v ∷ vs) d = v

abbrev pub set_of_values : List PlainValue → PlainValue
set_of_values vs = set_of_all vs

abbrev pub range : PlainValue → PlainValue → PlainValue
range (int a) (int b) = set_from (numbers a (interval_count a b))
range v w = wrong_kind

abbrev pub member : PlainValue → PlainValue → PlainValue
member x (set vs) = bool (is_member x (items vs))
member x v = wrong_kind

abbrev pub subset : PlainValue → PlainValue → PlainValue
subset (set vs) (set ws) = bool (sets.is_subset (items vs) (items ws))
subset v w = wrong_kind

abbrev pub union : PlainValue → PlainValue → PlainValue
union (set vs) (set ws) = set_from (sets.union (items vs) (items ws))
union v w = wrong_kind

abbrev pub with : PlainValue → PlainValue → PlainValue
with x (set vs) = set_from (sets.put x (items vs))
with x v = wrong_kind

abbrev pub inter : PlainValue → PlainValue → PlainValue
inter (set vs) (set ws) = set_from (sets.inter (items vs) (items ws))
inter v w = wrong_kind

abbrev pub diff : PlainValue → PlainValue → PlainValue
diff (set vs) (set ws) = set_from (sets.diff (items vs) (items ws))
diff v w = wrong_kind

abbrev pub without : PlainValue → PlainValue → PlainValue
without x (set vs) = set_from (filter (λ v. not (value_eq v x)) (items vs))
without x v = wrong_kind

abbrev pub card : PlainValue → PlainValue
card (set vs) = int (pos (length (items vs)))
card v = wrong_kind

abbrev pub sum : PlainValue → PlainValue
sum (set vs) = int (total (items vs))
sum v = wrong_kind

abbrev pub least : PlainValue → PlainValue → PlainValue
least (set vs) d = first_or (items vs) d
least v d = wrong_kind
