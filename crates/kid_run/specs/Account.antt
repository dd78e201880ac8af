-- What a run has come to so far, and what it comes to with a run that follows.
use Rattle.std.specs.Prelude.{◌≡◌, ℕ, ◌+◌, Bool, false, List, [], ◌++◌, length, map, Option, Some, None}
use Rattle.kid_value.specs.ValueView.{plain}
use Rattle.kid_value.specs.declared.value.Value.{Value}
use Rattle.kid_term.specs.Eval.{calls_of}
use Rattle.kid_prog.specs.Events.{Event, Procedure}
use Rattle.kid_prog.specs.PlainProgram.{PlainProgram}
use Rattle.kid_prog.specs.Running.{Run, upto_value, within}
use Rattle.kid_run.specs.Lines.{value_line, shown}
use Rattle.kid_run.specs.Frames.{PlainMachine, doing}
use Rattle.kid_run.specs.Scope.{MachineCanRun, AreArguments}
use Rattle.kid_run.specs.Wanted.{has_all}
use Rattle.kid_run.specs.declared.tally.Tally.{Tally}

-- the lines of the values, how many they are as far as it is shown, how many calls were begun, and whether the run came to its end
pub record Account : Type 0 where
  pub lines : List (List ℕ)
  pub answers : ℕ
  pub splits : ℕ
  pub whole : Bool

abbrev pub account : List (List ℕ) → ℕ → ℕ → Run → Account
account lines answers splits r = record {
  lines = lines ++ map value_line r.values;
  answers = shown (answers + length r.values);
  splits = splits + r.calls;
  whole = r.whole;
}

-- what was counted, and then the run
abbrev pub told : Tally → Run → Account
told t r = account t.lines.items t.answers t.splits r

-- what was counted, and then nothing
abbrev pub ending : Tally → Bool → Account
ending t whole = told t (record { values = []; calls = 0; whole = whole })

-- what was counted, and then the events, as far as values are still wanted and so many calls reach
abbrev pub with_events : Tally → ℕ → List Event → Account
with_events t l es = told t (within l (upto_value t.wanted es))

-- what was still done is what was counted since, and then the call of these arguments and what is still done, or nothing where there is no call
abbrev pub Advances : PlainProgram → Tally → PlainMachine → Tally → PlainMachine → Option (List Value) → Type 0
Advances p t m u n None = (f : Procedure) (l : ℕ) → with_events t l (doing (calls_of p.definitions) f m) ≡ told u (within l [])
Advances p t m u n (Some vs) =
    ((f : Procedure) (l : ℕ) → with_events t l (doing (calls_of p.definitions) f m) ≡ with_events u l (f (map plain vs) ++ doing (calls_of p.definitions) f n))
    × MachineCanRun p n
    × AreArguments p (map plain vs)
    × (has_all u.wanted ≡ false)
