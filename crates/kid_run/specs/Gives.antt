-- What a call answers, against what there is.
use Rattle.std.specs.Prelude.{◌≡◌, ℕ, List, Result, Ok, Err, ⊤}
use Rattle.kid_value.specs.PlainValue.{PlainValue}
use Rattle.kid_run.specs.declared.inputs.Inputs.{Inputs}
use Rattle.kid_run.specs.declared.inputs.InputFault.{InputFault}
use Rattle.kid_run.specs.declared.inputs.InputFault.TheVariants.{Form, Memory}

-- the inputs, or the number of the first form that is none; want of memory says nothing
abbrev pub InputsGiven : Result Inputs InputFault → Result (List (List PlainValue)) ℕ → Type 0
InputsGiven (Ok inputs) there = there ≡ Ok inputs
InputsGiven (Err (Form number)) there = there ≡ Err number
InputsGiven (Err Memory) there = ⊤
