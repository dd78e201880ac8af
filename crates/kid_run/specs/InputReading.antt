-- The inputs that a file spells.
use Rattle.std.specs.Prelude.{◌≡◌, ◌++◌, ℕ, suc, nat_le, List, [], ◌∷◌, length, map, Option, Some, None, Result, Ok, Err, if◌then◌else◌, ⊤}
use Rattle.std.specs.Result.{result_ok}
use Rattle.kid_sexp.specs.Plain.{Plain, Plains, atom, list, none, more}
use Rattle.kid_sexp.specs.Brackets.{Fault}
use Rattle.kid_sexp.specs.Reading.{reading}
use Rattle.kid_value.specs.PlainValue.{PlainValue}
use Rattle.kid_value.specs.PlainSort.{PlainSort}
use Rattle.kid_value.specs.SortOrder.{both}
use Rattle.kid_term.specs.Names.{Names}
use Rattle.kid_term.specs.Fitting.{IsOfSort, AreOfSorts}
use Rattle.kid_term.specs.Eval.{Env, bound}
use Rattle.kid_codec.specs.ValueSpelling.{value_reading}

-- the value of the sort that a tree spells
abbrev pub value_from : PlainSort → Plain → Option PlainValue
value_from s t = result_ok (value_reading s t)

-- as many values as names, each of its name's sort
abbrev pub values_from : Names → Plains → Option (List PlainValue)
values_from [] none = Some []
values_from (n ∷ ns) (more t ts) = both (λ v vs. v ∷ vs) (value_from n.1 t) (values_from ns ts)
values_from ns ts = None

-- a list of the inputs' values
abbrev pub input_from : Names → Plain → Option (List PlainValue)
input_from ns (atom w) = None
input_from ns (list ts) = values_from ns ts

-- a form's input before those of the later forms, or the form's number where it has none
abbrev pub after_input : Option (List PlainValue) → ℕ → Result (List (List PlainValue)) ℕ → Result (List (List PlainValue)) ℕ
after_input None number rest = Err number
after_input (Some vs) number (Ok inputs) = Ok (vs ∷ inputs)
after_input (Some vs) number (Err later) = Err later

-- the inputs' values for each form, or the number of the first form that has none; so many forms stand before them
abbrev pub inputs_from : Names → ℕ → Plains → Result (List (List PlainValue)) ℕ
inputs_from ns k none = Ok []
inputs_from ns k (more t ts) = after_input (input_from ns t) (suc k) (inputs_from ns (suc k) ts)

abbrev pub from_forest : Names → Result Plains Fault → Result (List (List PlainValue)) ℕ
from_forest ns (Err fault) = Err 0
from_forest ns (Ok ts) = inputs_from ns 0 ts

-- the inputs that a file spells, or the number of the first form that is none, which is 0 where the file as a whole is refused
abbrev pub inputs_reading : Names → List ℕ → Result (List (List PlainValue)) ℕ
inputs_reading ns bytes = if nat_le (length bytes) 4194304 then from_forest ns (reading bytes) else Err 0

-- the names with the values of each input
abbrev pub envs_of : Names → List (List PlainValue) → List Env
envs_of ns inputs = map (bound ns) inputs

abbrev pub sorts_of : Names → List PlainSort
sorts_of ns = map (λ n. n.1) ns

-- each input has as many values as there are names, each of its name's sort
abbrev pub AllFit : Names → List (List PlainValue) → Type 0
AllFit ns [] = ⊤
AllFit ns (vs ∷ inputs) = AreOfSorts (sorts_of ns) vs × AllFit ns inputs

-- a value that was read is of the sort
abbrev pub ValueFits : PlainSort → Option PlainValue → Type 0
ValueFits s None = ⊤
ValueFits s (Some v) = IsOfSort s v

-- values that were read are of the names' sorts
abbrev pub ValuesFit : Names → Option (List PlainValue) → Type 0
ValuesFit ns None = ⊤
ValuesFit ns (Some vs) = AreOfSorts (sorts_of ns) vs

-- the same of those after the first, which are given
abbrev pub LaterFit : Names → List PlainValue → Option (List PlainValue) → Type 0
LaterFit ns done None = ⊤
LaterFit ns done (Some vs) = (later : List PlainValue) × (vs ≡ done ++ later) × AreOfSorts (sorts_of ns) later
