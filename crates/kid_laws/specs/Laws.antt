-- What holds of all laws.
use Rattle.std.specs.Prelude.{◌≡◌, ℕ, List, Some, Ok, map}
use Rattle.kid_value.specs.PlainSort.{PlainSort}
use Rattle.kid_term.specs.Names.{Names, PlainDef}
use Rattle.kid_term.specs.Eval.{Env, eval, calls_of}
use Rattle.kid_term.specs.Sorting.{sort_of}
use Rattle.kid_term.specs.Fitting.{Fits, AreAllowed, AreSound}
use Rattle.kid_term.specs.Simultaneous.{Subst, substituted}
use Rattle.kid_term.specs.Truths.{AllTrue}
use Rattle.kid_laws.specs.Law.{Law}
use Rattle.kid_laws.specs.Table.{laws_of, law_at}
use Rattle.kid_laws.specs.declared.kind.LawKind.{LawKind}

-- each instance of a law of the table whose sides have sorts and whose conditions are true has sides of one value
abbrev pub InstancesAreTrue : Type 0
InstancesAreTrue =
    (kind : LawKind) (number : ℕ) (l : Law) (σ : Subst) (defs : List PlainDef) (names : Names) (env : Env) (s s' : PlainSort)
    → law_at (laws_of kind) number ≡ Some l → AreSound defs → AreAllowed names → Fits names env
    → sort_of defs names (substituted σ l.left) ≡ Ok s → sort_of defs names (substituted σ l.right) ≡ Ok s'
    → AllTrue (calls_of defs) env (map (substituted σ) l.conditions)
    → eval (calls_of defs) env (substituted σ l.left) ≡ eval (calls_of defs) env (substituted σ l.right)
