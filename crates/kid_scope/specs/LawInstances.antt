-- Instances of the laws and axioms of a theory.
use Rattle.std.specs.Prelude.{◌≡◌, ◌⊎◌, nat_eq, true, false, List, [], ◌∷◌, ◌++◌, map, length}
use Rattle.kid_value.specs.PlainSort.{PlainSort}
use Rattle.kid_term.specs.PlainTerm.{PlainTerm}
use Rattle.kid_term.specs.Names.{Names}
use Rattle.kid_term.specs.Simultaneous.{Subst, substituted, captures_any}
use Rattle.kid_term.specs.Eval.{Env, Calls, eval, calls_of}
use Rattle.kid_term.specs.PlainLaw.{PlainConclusion, equal, holds, PlainLaw}
use Rattle.kid_term.specs.PlainTheory.{PlainTheory}
use Rattle.kid_term.specs.Truths.{IsTrueAt, AllTrue}
use Rattle.kid_scope.specs.Cases.{said_by, IsSoundTheory, IsScope, Meets}
use Rattle.kid_scope.specs.Rewriting.{all_within}
use Rattle.kid_scope.specs.Scope.{PlainScope}
use Rattle.kid_scope.specs.Unfolding.{paired}

abbrev pub Contains : PlainLaw → List PlainLaw → Type 0
Contains law [] = ⊥
Contains law (l ∷ ls) = (l ≡ law) ⊎ Contains law ls

-- no name in a term of the list would be bound
abbrev pub AllFree : Subst → List PlainTerm → Type 0
AllFree σ [] = Unit {0}
AllFree σ (t ∷ ts) = (captures_any σ t ≡ false) × AllFree σ ts

-- the conclusion with terms put in
abbrev pub ConcludedAt : Calls → Env → Subst → PlainConclusion → Type 0
ConcludedAt calls env σ (equal l r) = eval calls env (substituted σ l) ≡ eval calls env (substituted σ r)
ConcludedAt calls env σ (holds c) = IsTrueAt calls env (substituted σ c)

-- each term with the sort of its variable
abbrev pub sorts_for : Names → List PlainTerm → List (PlainTerm × PlainSort)
sorts_for [] ts = []
sorts_for (v ∷ vs) [] = []
sorts_for (v ∷ vs) (t ∷ ts) = (t, v.1) ∷ sorts_for vs ts

-- a law of the theory with a term for each of its variables, none of whose names would be bound
pub record IsInstanceOf (t : PlainTheory) (law : PlainLaw) (ts : List PlainTerm) : Type 0 where
  pub stands : Contains law (t.laws ++ t.axioms)
  pub counted : nat_eq (length ts) (length law.variables) ≡ true
  pub conditions_free : AllFree (paired law.variables ts) law.conditions
  pub conclusion_free : AllFree (paired law.variables ts) (said_by law.conclusion)

-- where the terms have the sorts of their variables and the conditions are true of them, what the law says is true of them
abbrev pub LawsOfTheoriesHold : Type 0
LawsOfTheoriesHold =
    (t : PlainTheory) (sc : PlainScope) (env : Env) (law : PlainLaw) (ts : List PlainTerm) → IsSoundTheory t → IsScope t sc → Meets t sc env → IsInstanceOf t law ts
    → all_within t.signature.definitions sc.names (sorts_for law.variables ts) ≡ true
    → AllTrue (calls_of t.signature.definitions) env (map (substituted (paired law.variables ts)) law.conditions)
    → ConcludedAt (calls_of t.signature.definitions) env (paired law.variables ts) law.conclusion
