-- Calls of the search procedure, and the fuel that each takes.
use Rattle.std.proofs.Common.{◌≡◌, ℕ, ◌≤◌, zero, suc, Bool, true, false, List, [], ◌++◌, Option, Some, None, refl, sym, ap, ◌∙◌, arith, append-nil}
use Rattle.kid_value.specs.PlainValue.{PlainValue}
use Rattle.kid_term.specs.Eval.{Env, calls_of}
use Rattle.kid_prog.specs.Events.{Event, procedure, program_events, search_env}
use Rattle.kid_prog.specs.PlainProgram.{PlainProgram}
use Rattle.kid_prog.specs.Running.{Run, calling, upto_value, within, run_of}
use Rattle.kid_prog.proofs.RunDepths.{within-deeper}
use Rattle.kid_run.specs.Frames.{PlainMachine, machine, entered, doing}
use Rattle.kid_run.specs.Wanted.{has_all}
use Rattle.kid_run.proofs.Steps.{entered-does}
use Rattle.kid_run.proofs.WantedLemmas.{upto-called}

-- at the start all is still to be done
pub all-to_do : (p : PlainProgram) (x : Env) (fuel : ℕ)
    → within fuel (upto_value p.first (doing (calls_of p.definitions) (procedure p x fuel) (machine x p.main []))) ≡ run_of p x fuel
all-to_do p x fuel = ap (λ es. within fuel (upto_value p.first es)) (append-nil (program_events p x fuel))

-- where there is fuel, a call takes one, and then the machine that has entered it goes on
pub call-goes_on : (p : PlainProgram) (x : Env) (fuel left less : ℕ) → left ≡ suc less → left ≤ fuel → (w : Option ℕ) → has_all w ≡ false → (vs : List PlainValue) (m : PlainMachine)
    → within left (upto_value w (procedure p x fuel vs ++ doing (calls_of p.definitions) (procedure p x fuel) m))
    ≡ calling (within less (upto_value w (doing (calls_of p.definitions) (procedure p x fuel) (entered p x vs m))))
call-goes_on p x zero left less e le w more vs m = let none : ⊥ = omega (arith, e, le) in absurd none
call-goes_on p x (suc n) left less e le w more vs m =
    ap (λ k. within k (upto_value w (procedure p x (suc n) vs ++ doing (calls_of p.definitions) (procedure p x (suc n)) m))) e
    ∙ ap (within (suc less)) (upto-called w _ more)
    ∙ ap calling
    (within-deeper p x n (suc n) (omega arith) (calls_of p.definitions) (search_env p x vs) p.search (doing (calls_of p.definitions) (procedure p x (suc n)) m) w less (omega (arith, e, le))
    ∙ ap (λ es. within less (upto_value w es)) (sym (entered-does p (procedure p x (suc n)) x vs m)))

-- a run that stops before a call
abbrev pub stopped : Run
stopped = record { values = []; calls = 0; whole = false }

-- where there is none, the run stops before the call
pub call-stops : (p : PlainProgram) (x : Env) (fuel left : ℕ) → left ≡ 0 → (w : Option ℕ) → has_all w ≡ false → (vs : List PlainValue) (es : List Event)
    → within left (upto_value w (procedure p x fuel vs ++ es)) ≡ stopped
call-stops p x fuel left e w more vs es = ap (λ k. within k (upto_value w (procedure p x fuel vs ++ es))) e ∙ by fuel
  where
    by : (fuel : ℕ) → within 0 (upto_value w (procedure p x fuel vs ++ es)) ≡ stopped
    by zero = ap (within 0) (upto-called w _ more)
    by (suc n) = ap (within 0) (upto-called w _ more)
