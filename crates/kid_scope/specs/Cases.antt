-- The environments in which a scope is judged.
use Rattle.std.specs.Prelude.{◌≡◌, ℕ, true, List, [], ◌∷◌, ◌++◌}
use Rattle.kid_term.specs.PlainTerm.{PlainTerm}
use Rattle.kid_term.specs.Names.{Names, is_named}
use Rattle.kid_term.specs.Eval.{Env, value_at, calls_of}
use Rattle.kid_term.specs.Fitting.{Fits, AreAllowed, AreSound}
use Rattle.kid_term.specs.Substitution.{mentions}
use Rattle.kid_term.specs.PlainLaw.{PlainConclusion, equal, holds, PlainLaw}
use Rattle.kid_term.specs.PlainTheory.{PlainTheory}
use Rattle.kid_term.specs.Truths.{AllTrue}
use Rattle.kid_term.specs.Good.{Good, AllHold}
use Rattle.kid_scope.specs.Definitions.{AreDistinct}
use Rattle.kid_scope.specs.Scope.{PlainScope}

-- each free name of the term is among the names
abbrev pub IsClosed : Names → PlainTerm → Type 0
IsClosed names t = (y : List ℕ) → mentions y t ≡ true → is_named y names ≡ true

abbrev pub AllClosed : Names → List PlainTerm → Type 0
AllClosed names [] = Unit {0}
AllClosed names (t ∷ ts) = IsClosed names t × AllClosed names ts

-- the names of the inputs are among the scope's, sorts are allowed, and what is true there names what is in scope alone
pub record IsScope (t : PlainTheory) (sc : PlainScope) : Type 0 where
  pub covers : (y : List ℕ) → is_named y t.signature.inputs ≡ true → is_named y sc.names ≡ true
  pub allowed : AreAllowed sc.names
  pub facts_closed : AllClosed sc.names sc.facts
  pub assumed_closed : AllClosed sc.names sc.assumed

-- an environment of the names that has the values of good inputs
pub record IsCase (t : PlainTheory) (names : Names) (env : Env) : Type 0 where
  pub inputs : Env
  pub good : Good t inputs
  pub agrees : (y : List ℕ) → is_named y t.signature.inputs ≡ true → value_at y env ≡ value_at y inputs
  pub fits : Fits names env

-- a case in which all that may be used is true
pub record Meets (t : PlainTheory) (sc : PlainScope) (env : Env) : Type 0 where
  pub case : IsCase t sc.names env
  pub facts : AllTrue (calls_of t.signature.definitions) env sc.facts
  pub assumed : AllTrue (calls_of t.signature.definitions) env sc.assumed

-- the terms that a law speaks of
abbrev pub said_by : PlainConclusion → List PlainTerm
said_by (equal l r) = l ∷ r ∷ []
said_by (holds c) = c ∷ []

-- a law names its variables and the inputs alone
abbrev pub LawClosed : Names → PlainLaw → Type 0
LawClosed inputs law = AllClosed (law.variables ++ inputs) law.conditions × AllClosed (law.variables ++ inputs) (said_by law.conclusion)

abbrev pub LawsClosed : Names → List PlainLaw → Type 0
LawsClosed inputs [] = Unit {0}
LawsClosed inputs (l ∷ ls) = LawClosed inputs l × LawsClosed inputs ls

-- definitions are sound and differ in their names, what is proved holds at all good inputs, and laws and axioms name their variables and the inputs alone
pub record IsSoundTheory (t : PlainTheory) : Type 0 where
  pub definitions : AreSound t.signature.definitions
  pub distinct : AreDistinct t.signature.definitions
  pub laws : (x : Env) → Good t x → AllHold (calls_of t.signature.definitions) x t.laws
  pub closed : LawsClosed t.signature.inputs (t.laws ++ t.axioms)
