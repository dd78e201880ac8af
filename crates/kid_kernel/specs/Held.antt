-- What facts keep: each has a sort, and follows from those at the start.
use Rattle.std.specs.Prelude.{◌≡◌, ℕ, true, List, [], ◌∷◌, ◌++◌}
use Rattle.kid_term.specs.PlainTerm.{PlainTerm}
use Rattle.kid_term.specs.PlainTheory.{PlainTheory}
use Rattle.kid_term.specs.Names.{Names, PlainDef}
use Rattle.kid_term.specs.Sorting.{sort_of}
use Rattle.kid_term.specs.Eval.{Env, calls_of}
use Rattle.kid_term.specs.Fitting.{AreAllowed}
use Rattle.kid_term.specs.Truths.{AllTrue}
use Rattle.kid_term.specs.Good.{Good, AllHold}
use Rattle.kid_scope.specs.Cases.{IsCase}
use Rattle.kid_scope.specs.Holds.{has_a_sort}
use Rattle.kid_kernel.specs.Differ.{words_of, differ}
use Rattle.kid_kernel.specs.IsTheory.{IsTheory}
use Rattle.kid_kernel.specs.Key.{key}

-- names that differ and have allowed sorts, of which the inputs come first
pub record AreNames (t : PlainTheory) (names : Names) : Type 0 where
  pub differ : differ (words_of names) ≡ true
  pub more : Names
  pub inputs_first : names ≡ t.signature.inputs ++ more
  pub allowed : AreAllowed names

abbrev pub AllSorted : List PlainDef → Names → List PlainTerm → Type 0
AllSorted defs names [] = Unit {0}
AllSorted defs names (t ∷ ts) = (has_a_sort (sort_of defs names t) ≡ true) × AllSorted defs names ts

-- each proved law holds at all good inputs
abbrev pub LawsHold : PlainTheory → Type 0
LawsHold t = (x : Env) → Good t x → AllHold (calls_of t.signature.definitions) x t.laws

-- in each case in which the start is true, so are the facts
abbrev pub AllFollow : PlainTheory → Names → List PlainTerm → List PlainTerm → Type 0
AllFollow t names start facts = (env : Env) → IsCase t names env → AllTrue (calls_of t.signature.definitions) env start → AllTrue (calls_of t.signature.definitions) env facts

pub record Held (t : PlainTheory) (names : Names) (start facts : List PlainTerm) : Type 0 where
  pub theory : IsTheory t
  pub named : AreNames t names
  pub sorted : AllSorted t.signature.definitions names facts
  pub follow : LawsHold t → AllFollow t names start facts

-- over each theory of the key
abbrev pub HeldOver : List ℕ → Names → List PlainTerm → List PlainTerm → Type 0
HeldOver k names start facts = (t : PlainTheory) → key t ≡ k → Held t names start facts
