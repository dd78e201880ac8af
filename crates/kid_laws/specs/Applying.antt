-- What holds of each law that is applied.
use Rattle.std.specs.Prelude.{◌≡◌, ℕ, Bool, List, Ok}
use Rattle.kid_value.specs.PlainSort.{PlainSort}
use Rattle.kid_term.specs.PlainTerm.{PlainTerm}
use Rattle.kid_term.specs.Names.{Names, PlainDef}
use Rattle.kid_term.specs.Eval.{Env, eval, calls_of}
use Rattle.kid_term.specs.Sorting.{sort_of}
use Rattle.kid_term.specs.Fitting.{Fits, AreAllowed, AreSound}
use Rattle.kid_term.specs.Truths.{IsTrueAt, AllTrue}
use Rattle.kid_laws.specs.Applied.{PlainApplied, applied_by, concluded_by}

-- where both terms have a sort and the conditions are true, the new term has the value of the old one
abbrev pub KeepsTerm : PlainTerm → PlainApplied → Type 0
KeepsTerm t a =
    (defs : List PlainDef) (names : Names) (env : Env) (s s' : PlainSort) → AreSound defs → AreAllowed names → Fits names env
    → sort_of defs names t ≡ Ok s → sort_of defs names a.term ≡ Ok s' → AllTrue (calls_of defs) env a.conditions
    → eval (calls_of defs) env a.term ≡ eval (calls_of defs) env t

-- where the conclusion has a sort and the conditions are true, it is true
abbrev pub IsTrueTerm : PlainApplied → Type 0
IsTrueTerm a =
    (defs : List PlainDef) (names : Names) (env : Env) (s : PlainSort) → AreSound defs → AreAllowed names → Fits names env
    → sort_of defs names a.term ≡ Ok s → AllTrue (calls_of defs) env a.conditions → IsTrueAt (calls_of defs) env a.term

abbrev pub EquationsKeepValues : Type 0
EquationsKeepValues = (n : ℕ) (back : Bool) (args : List PlainTerm) (t : PlainTerm) (a : PlainApplied) → applied_by n back args t ≡ Ok a → KeepsTerm t a

abbrev pub ImplicationsAreTrue : Type 0
ImplicationsAreTrue = (n : ℕ) (ts : List PlainTerm) (a : PlainApplied) → concluded_by n ts ≡ Ok a → IsTrueTerm a
