-- What a call put on out.
use Rattle.std.specs.Prelude.{ℕ, List, [], Option, Some, None, Result, Ok, Err, ⊤}
use Rattle.kid_outer.specs.Held.{Held}
use Rattle.kid_outer.specs.Written.{AppendsPrefix}
use Rattle.kid_top.specs.declared.stop.Stop.{Stop}
use Rattle.kid_top.specs.declared.stop.Stop.TheVariants as stop
use Rattle.kid_top.specs.Command.{Command, derive}
use Rattle.kid_top.specs.Outcome.{Work, work_text, outcome}

-- a refusal, which comes before anything is put
abbrev pub IsQuiet : Stop → Type 0
IsQuiet stop.Failed = ⊥
IsQuiet stop.Memory = ⊥
IsQuiet why = ⊤

-- the text that the call is to put: none where it is refused
abbrev pub text_for : Result Work Stop → List ℕ
text_for (Ok w) = work_text w
text_for (Err e) = []

-- a front of it was put
abbrev pub PutsFront : List (List ℕ) → Option Held → Option (List ℕ) → Option (List ℕ) → Type 0
PutsFront words None old new = (text : List ℕ) × AppendsPrefix text old new
PutsFront words (Some files) old new = AppendsPrefix (text_for (outcome words files)) old new

-- a command that prints nothing, or none
abbrev pub IsSilent : Option Command → Type 0
IsSilent None = ⊤
IsSilent (Some (derive theory script derivation program)) = ⊤
IsSilent command = ⊥
