-- What answers a problem at an input, without descriptors and axioms.
use Rattle.std.specs.Prelude.{◌≡◌, ℕ, Bool, ◌&&◌, Option, Some, None, List, ◌∷◌, take}
use Rattle.kid_value.specs.PlainValue.{PlainValue}
use Rattle.kid_value.specs.InSort.{in_sort}
use Rattle.kid_value.specs.ValueSet.{is_member, Ascends}
use Rattle.kid_value.specs.Rows.Parts.{truth_of}
use Rattle.kid_term.specs.Eval.{Env, Calls, eval}
use Rattle.kid_term.specs.PlainSpec.{PlainSpec}

-- whether the relation is true at the input and this value of the output
abbrev pub relates : Calls → PlainSpec → Env → PlainValue → Bool
relates calls spec x v = truth_of (eval calls ((spec.output, v) ∷ x) spec.relation)

-- The list ascends strictly, and a value is in it exactly where it has the output's sort and the relation is true.
pub record AllAnswers (calls : Calls) (spec : PlainSpec) (x : Env) (values : List PlainValue) : Type 0 where
  pub ascends : Ascends values
  pub exact : (v : PlainValue) → is_member v values ≡ (in_sort spec.sort v && relates calls spec x v)

-- as many from the front as are wanted, and all where none is said
abbrev pub first_of : {A : Type 0} → Option ℕ → List A → List A
first_of None xs = xs
first_of (Some n) xs = take n xs

-- of all answers as many as are wanted, the least first
pub record Answer (calls : Calls) (spec : PlainSpec) (x : Env) (values : List PlainValue) : Type 0 where
  pub all : List PlainValue
  pub are_all : AllAnswers calls spec x all
  pub first : values ≡ first_of spec.first all
