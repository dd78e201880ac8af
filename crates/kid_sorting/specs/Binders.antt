-- The rule of a binder, once its set has a sort.
use Rattle.std.specs.Prelude.{ℕ, List, ◌∷◌}
use Rattle.kid_value.specs.PlainSort.{PlainSort}
use Rattle.kid_term.specs.PlainTerm.{PlainTerm}
use Rattle.kid_term.specs.Names.{Names, PlainDef}
use Rattle.kid_term.specs.Sorted.{Sorted, ◌>>=◌, with_set}
use Rattle.kid_term.specs.Sorting.{least_sort, binder_sort, unshadowed}
use Rattle.kid_term.specs.declared.operator.Binder.{Binder}

abbrev pub over_set : List PlainDef → Names → Binder → List ℕ → PlainTerm → PlainSort → Sorted
over_set known names b x t set = with_set set (λ a. least_sort known ((x, a) ∷ names) t >>= λ body. binder_sort b a body >>= unshadowed x names)
