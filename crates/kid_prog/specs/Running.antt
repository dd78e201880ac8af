-- The run of a program at an input: as far as the values that are wanted, and as far as its fuel.
use Rattle.std.specs.Prelude.{ℕ, zero, suc, Bool, true, false, List, [], ◌∷◌, Option, Some, None}
use Rattle.kid_value.specs.PlainValue.{PlainValue}
use Rattle.kid_term.specs.Eval.{Env}
use Rattle.kid_prog.specs.Events.{Event, called, found, program_events}
use Rattle.kid_prog.specs.PlainProgram.{PlainProgram}

-- the events up to and with the k-th value, and all where there are fewer values
abbrev pub upto : ℕ → List Event → List Event
upto zero es = []
upto (suc k) [] = []
upto (suc k) (called ∷ es) = called ∷ upto (suc k) es
upto (suc k) (found v ∷ es) = found v ∷ upto k es

-- the events as far as values are wanted
abbrev pub upto_value : Option ℕ → List Event → List Event
upto_value None es = es
upto_value (Some k) es = upto k es

-- A run: the values that it found in order, how many calls it began, and whether it came to its end.
pub record Run : Type 0 where
  pub values : List PlainValue
  pub calls : ℕ
  pub whole : Bool

abbrev pub finding : PlainValue → Run → Run
finding v r = record { values = v ∷ r.values; calls = r.calls; whole = r.whole }

abbrev pub calling : Run → Run
calling r = record { values = r.values; calls = suc r.calls; whole = r.whole }

-- as far as n calls reach: the run stops before the next
abbrev pub within : ℕ → List Event → Run
within n [] = record { values = []; calls = 0; whole = true }
within n (found v ∷ es) = finding v (within n es)
within zero (called ∷ es) = record { values = []; calls = 0; whole = false }
within (suc n) (called ∷ es) = calling (within n es)

-- the run of a program at an input with so much fuel, of which each call takes one; calls that lie deeper than that are not come to
abbrev pub run_of : PlainProgram → Env → ℕ → Run
run_of p x fuel = within fuel (upto_value p.first (program_events p x fuel))
