-- Values of sorts, and environments, calls and definitions that fit their sorts.
use Rattle.std.specs.Prelude.{◌≡◌, ℕ, true, List, [], ◌∷◌, Ok}
use Rattle.kid_value.specs.PlainValue.{PlainValue}
use Rattle.kid_value.specs.PlainSort.{PlainSort, has_sort}
use Rattle.kid_value.specs.SortOrder.{is_subsort}
use Rattle.kid_value.specs.SortLimits.{is_allowed}
use Rattle.kid_value.specs.Canonical.{IsCanonical}
use Rattle.kid_term.specs.Names.{Names, PlainDef}
use Rattle.kid_term.specs.Eval.{Env, value_at}
use Rattle.kid_term.specs.Sorting.{sort_at, least_sort}

-- a canonical value of the sort
pub record IsOfSort (s : PlainSort) (v : PlainValue) : Type 0 where
  pub has : has_sort s v ≡ true
  pub canonical : IsCanonical v

-- as many values as sorts, each of the sort at its place
abbrev pub AreOfSorts : List PlainSort → List PlainValue → Type 0
AreOfSorts [] [] = Unit {0}
AreOfSorts (s ∷ ss) (v ∷ vs) = IsOfSort s v × AreOfSorts ss vs
AreOfSorts ss vs = ⊥

-- each name has a value of its sort
abbrev pub Fits : Names → Env → Type 0
Fits names env = (x : List ℕ) (s : PlainSort) → sort_at x names ≡ Ok s → IsOfSort s (value_at x env)

-- each name has an allowed sort
abbrev pub AreAllowed : Names → Type 0
AreAllowed names = (x : List ℕ) (s : PlainSort) → sort_at x names ≡ Ok s → is_allowed s ≡ true

-- the body has a sort within the declared one, over the parameters alone and the definitions that are known
pub record IsSound (known : List PlainDef) (d : PlainDef) : Type 0 where
  pub parameters_allowed : AreAllowed d.parameters
  pub sort_allowed : is_allowed d.sort ≡ true
  pub of_body : PlainSort
  pub body_sorted : least_sort known d.parameters d.body ≡ Ok of_body
  pub within : is_subsort of_body d.sort ≡ true

-- each definition is sound over those that stand before it
abbrev pub AreSoundOver : List PlainDef → List PlainDef → Type 0
AreSoundOver known [] = Unit {0}
AreSoundOver known (d ∷ ds) = IsSound known d × AreSoundOver (d ∷ known) ds

abbrev pub AreSound : List PlainDef → Type 0
AreSound ds = AreSoundOver [] ds
