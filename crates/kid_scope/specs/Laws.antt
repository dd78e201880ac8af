-- What holds of all scopes and rewritings.
use Rattle.std.specs.Prelude.{◌≡◌, ℕ, Bool, true, List, Result, Ok}
use Rattle.kid_value.specs.PlainSort.{PlainSort}
use Rattle.kid_term.specs.PlainTerm.{PlainTerm}
use Rattle.kid_term.specs.Names.{PlainDef}
use Rattle.kid_term.specs.Sorting.{sort_of}
use Rattle.kid_term.specs.Eval.{Env, eval, calls_of}
use Rattle.kid_term.specs.Fitting.{Fits, AreAllowed, AreSound}
use Rattle.kid_term.specs.PlainTheory.{PlainTheory}
use Rattle.kid_term.specs.Truths.{IsTrueAt, AllTrue}
use Rattle.kid_scope.specs.Cases.{IsScope, IsSoundTheory, Meets}
use Rattle.kid_scope.specs.Scope.{PlainScope}
use Rattle.kid_scope.specs.Holds.{holds}
use Rattle.kid_scope.specs.Settling as settling
use Rattle.kid_scope.specs.Settling.{compute}
use Rattle.kid_scope.specs.Uncasting.{uncast}
use Rattle.kid_scope.specs.Unfolding.{unfold_call, fold_call}
use Rattle.kid_scope.specs.Using.{use_fact}
use Rattle.kid_term.specs.declared.why.Why.{Why}
use Rattle.kid_scope.specs.Instances.{termwise, KeepsTerms}
use Rattle.kid_scope.specs.LawRules.{Way, StandsFor, by_law, law_conclusion}
use Rattle.kid_scope.specs.Rewriting.{PlainInstance, Rule, KeepsValue, all_within, rewritten}

-- a condition that holds is true wherever the names have values of their sorts and what may be used is true
abbrev pub HeldAreTrue : Type 0
HeldAreTrue =
    (defs : List PlainDef) (sc : PlainScope) (c : PlainTerm) (env : Env) → AreSound defs → AreAllowed sc.names → Fits sc.names env
    → AllTrue (calls_of defs) env sc.facts → AllTrue (calls_of defs) env sc.assumed → holds defs sc c ≡ true → IsTrueAt (calls_of defs) env c

-- a rewritten term has the value of the old one wherever the scope is met
abbrev pub RewritingsKeepValues : Type 0
RewritingsKeepValues =
    (rule : Rule) → KeepsValue rule → (t : PlainTheory) (sc : PlainScope) (whole : PlainTerm) (path : List ℕ) (new : PlainTerm) (s : PlainSort) (env : Env)
    → IsSoundTheory t → IsScope t sc → Meets t sc env → sort_of t.signature.definitions sc.names whole ≡ Ok s → rewritten rule t sc whole path ≡ Ok new
    → eval (calls_of t.signature.definitions) env new ≡ eval (calls_of t.signature.definitions) env whole

-- the rules for calls, values, facts and casts keep the value, in each direction and with any arguments
pub record PlaceRulesKeepValues : Type 0 where
  pub unfolds : (back : Bool) (args : List PlainTerm) → KeepsValue (unfold_call back args)
  pub folds : (f : List ℕ) (back : Bool) (args : List PlainTerm) → KeepsValue (fold_call f back args)
  pub computes : (back : Bool) (args : List PlainTerm) → KeepsValue (compute back args)
  pub holds : (back : Bool) (args : List PlainTerm) → KeepsValue (settling.holds back args)
  pub fails : (back : Bool) (args : List PlainTerm) → KeepsValue (settling.fails back args)
  pub uses : (k : ℕ) (back : Bool) (args : List PlainTerm) → KeepsValue (use_fact k back args)
  pub uncasts : (back : Bool) (args : List PlainTerm) → KeepsValue (uncast back args)

-- a rule that looks at the term alone, and keeps the value wherever both terms have a sort, keeps it in each scope
abbrev pub TermwiseRulesKeepValues : Type 0
TermwiseRulesKeepValues = (f : PlainTerm → Result PlainInstance Why) → KeepsTerms f → KeepsValue (termwise f)

-- Rules by laws and axioms of the theory keep the value, with any way to find the terms of the variables at which the side is the term;
-- and what such a law concludes of terms is true, where they have the sorts of its variables and its conditions are true.
pub record LawRulesKeepValues : Type 0 where
  pub rewrites : (m : Way) → StandsFor m → (f : List ℕ) (back : Bool) (args : List PlainTerm) → KeepsValue (by_law m f back args)
  pub concludes : (f : List ℕ) (ts : List PlainTerm) (t : PlainTheory) (sc : PlainScope) (env : Env) (n : PlainInstance) → law_conclusion f ts t ≡ Ok n → IsSoundTheory t → IsScope t sc → Meets t sc env
      → all_within t.signature.definitions sc.names n.within ≡ true → AllTrue (calls_of t.signature.definitions) env n.conditions → IsTrueAt (calls_of t.signature.definitions) env n.term
