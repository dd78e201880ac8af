-- What the join of two sorts is.
use Rattle.std.specs.Prelude.{◌≡◌, true, Option, Some, None}
use Rattle.kid_value.specs.PlainSort.{PlainSort}
use Rattle.kid_value.specs.SortOrder.{is_subsort}

-- the sort is above both and below each other that is; there is none where no sort is above both
abbrev pub IsJoin : PlainSort → PlainSort → Option PlainSort → Type 0
IsJoin a b (Some j) = (is_subsort a j ≡ true) × (is_subsort b j ≡ true) × ((t : PlainSort) → is_subsort a t ≡ true → is_subsort b t ≡ true → is_subsort j t ≡ true)
IsJoin a b None = (t : PlainSort) → is_subsort a t ≡ true → is_subsort b t ≡ true → ⊥
