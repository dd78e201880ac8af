-- Rules that look at the term alone, made of what other crates give.
use Rattle.std.specs.Prelude.{◌≡◌, List, Result, Ok, Err}
use Rattle.kid_value.specs.PlainSort.{PlainSort}
use Rattle.kid_term.specs.PlainTerm.{PlainTerm}
use Rattle.kid_term.specs.Names.{Names, PlainDef}
use Rattle.kid_term.specs.Sorting.{sort_of}
use Rattle.kid_term.specs.Eval.{Env, eval, calls_of}
use Rattle.kid_term.specs.Fitting.{Fits, AreAllowed, AreSound}
use Rattle.kid_term.specs.Truths.{AllTrue}
use Rattle.kid_term.specs.declared.why.Why.{Why}
use Rattle.kid_scope.specs.Rewriting.{PlainInstance}
use Rattle.kid_scope.specs.Instances.{provided}

-- the instance of what was given, with its conditions and its term, or why nothing was
abbrev pub lifted : {A E : Type 0} → (A → List PlainTerm) → (A → PlainTerm) → (E → Why) → Result A E → Result PlainInstance Why
lifted cs tm why (Ok a) = provided (cs a) (tm a)
lifted cs tm why (Err e) = Err (why e)

-- where both terms have a sort and the conditions are true, the new term has the value of the old one
abbrev pub KeepsUnder : PlainTerm → List PlainTerm → PlainTerm → Type 0
KeepsUnder old cs new =
    (defs : List PlainDef) (names : Names) (env : Env) (s s' : PlainSort) → AreSound defs → AreAllowed names → Fits names env
    → sort_of defs names old ≡ Ok s → sort_of defs names new ≡ Ok s' → AllTrue (calls_of defs) env cs
    → eval (calls_of defs) env new ≡ eval (calls_of defs) env old
