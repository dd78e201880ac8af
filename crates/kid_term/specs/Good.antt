-- When a law holds, and which inputs of a theory are good.
use Rattle.std.specs.Prelude.{◌≡◌, List, [], ◌∷◌, ◌++◌, map}
use Rattle.kid_value.specs.PlainValue.{PlainValue}
use Rattle.kid_term.specs.Eval.{Env, Calls, eval, bound, calls_of}
use Rattle.kid_term.specs.Fitting.{AreOfSorts, Fits}
use Rattle.kid_term.specs.PlainLaw.{PlainConclusion, equal, holds, PlainLaw}
use Rattle.kid_term.specs.PlainTheory.{PlainTheory}
use Rattle.kid_term.specs.Truths.{IsTrueAt, AllTrue}

-- the two sides have one value, or the term is true
abbrev pub IsConcluded : Calls → Env → PlainConclusion → Type 0
IsConcluded calls env (equal l r) = eval calls env l ≡ eval calls env r
IsConcluded calls env (holds c) = IsTrueAt calls env c

-- at all values of the variables' sorts where the conditions are true, the conclusion is too
abbrev pub LawHolds : Calls → Env → PlainLaw → Type 0
LawHolds calls env law =
    (vs : List PlainValue) → AreOfSorts (map (λ n. n.1) law.variables) vs → AllTrue calls (bound law.variables vs ++ env) law.conditions
    → IsConcluded calls (bound law.variables vs ++ env) law.conclusion

abbrev pub AllHold : Calls → Env → List PlainLaw → Type 0
AllHold calls env [] = Unit {0}
AllHold calls env (l ∷ ls) = LawHolds calls env l × AllHold calls env ls

-- The inputs have values of their sorts, the input condition is true at them, and each axiom holds. Proved laws are not asked for, since they follow.
pub record Good (t : PlainTheory) (x : Env) : Type 0 where
  pub fits : Fits t.signature.inputs x
  pub condition : IsTrueAt (calls_of t.signature.definitions) x t.spec.condition
  pub axioms : AllHold (calls_of t.signature.definitions) x t.axioms
