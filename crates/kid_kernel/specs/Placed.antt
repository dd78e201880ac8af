-- Where a rule may be tried, and what the program answers of a term that is rewritten.
use Rattle.std.specs.Prelude.{◌≡◌, ℕ, true, List, [], Option, Some, Result, Ok, Err}
use Rattle.kid_value.specs.PlainSort.{PlainSort}
use Rattle.kid_term.specs.Chain.{◌>>=◌}
use Rattle.kid_term.specs.Eval.{Env, eval, calls_of}
use Rattle.kid_term.specs.Fitting.{AreSound}
use Rattle.kid_term.specs.Names.{Names, PlainDef}
use Rattle.kid_term.specs.PlainTerm.{PlainTerm}
use Rattle.kid_term.specs.PlainTheory.{PlainTheory}
use Rattle.kid_term.specs.Replacing.{subterm}
use Rattle.kid_term.specs.Sorting.{sort_of}
use Rattle.kid_term.specs.TermView.{plain_term}
use Rattle.kid_term.specs.declared.Term.{Term}
use Rattle.kid_term.specs.declared.why.Why.{Why}
use Rattle.kid_scope.specs.Cases.{IsScope, IsSoundTheory, Meets}
use Rattle.kid_scope.specs.Holds.{has_a_sort}
use Rattle.kid_scope.specs.InstanceView.{Fails, plain_instance}
use Rattle.kid_scope.specs.Rewriting.{PlainInstance, Rule, licensed, all_within, unless, unsorted, misfitting}
use Rattle.kid_scope.specs.Scope.{PlainScope}
use Rattle.kid_scope.specs.declared.instance.Instance.{Instance}
use Rattle.kid_kernel.specs.ScopeView.{plain_scope}
use Rattle.kid_kernel.specs.declared.scope.Scope.{Scope}

-- the scope of a whole term: nothing is assumed yet
abbrev pub top_scope : Names → List PlainTerm → PlainScope
top_scope names facts = record { names = names; facts = facts; assumed = [] }

-- the scope is one over the theory's definitions, these are sound, and the term has a sort there
pub record IsPlaced (t : PlainTheory) (sc : Scope) (old : PlainTerm) : Type 0 where
  pub known : sc.definitions.now ≡ t.signature.definitions
  pub sound : AreSound t.signature.definitions
  pub sorted : has_a_sort (sort_of t.signature.definitions (plain_scope sc).names old) ≡ true

-- the path is there
abbrev pub IsThere : PlainTerm → List ℕ → Type 0
IsThere t path = (old : PlainTerm) × (subterm t path ≡ Some old)

-- what the rule makes of the term, if its conditions hold
abbrev pub licensed_by : Rule → PlainTheory → PlainScope → PlainTerm → Result PlainInstance Why
licensed_by rule t sc old = rule t sc old >>= λ new. licensed t.signature.definitions sc new

-- the whole term, if it is sorted and these terms lie within their sorts
abbrev pub settled_within : List PlainDef → PlainScope → Names → List (PlainTerm × PlainSort) → PlainTerm → Result PlainTerm Why
settled_within defs sc names within whole =
    unless (unsorted (sort_of defs names whole)) whole >>= λ sorted. unless (misfitting (all_within defs sc.names within)) sorted

-- ---- answers

-- an instance and the scope of its place, or the refusal that there is
abbrev pub Finds : Result (Scope × Instance) Why → PlainTheory → Result PlainInstance Why → PlainScope → Type 0
Finds (Ok p) t there inner = (there ≡ Ok (plain_instance p.1)) × (plain_scope p.0 ≡ inner) × (p.0.definitions.now ≡ t.signature.definitions)
Finds (Err why) t there inner = Fails why there

-- that the term may stand, or the refusal that there is
abbrev pub Stands : {A : Type 0} → Result A Why → PlainTerm → Result PlainTerm Why → Type 0
Stands (Ok x) t there = there ≡ Ok t
Stands (Err why) t there = Fails why there

-- the new term, or the old one with why it is refused
abbrev pub Rewrote : Result Term (Term × Why) → PlainTerm → Result PlainTerm Why → Type 0
Rewrote (Ok t) old there = there ≡ Ok (plain_term t)
Rewrote (Err p) old there = (plain_term p.0 ≡ old) × Fails p.1 there

-- the new term has the old one's value wherever the scope is met
abbrev pub KeepsAt : PlainTheory → PlainScope → PlainTerm → PlainTerm → Type 0
KeepsAt t sc old new =
    (env : Env) → IsSoundTheory t → IsScope t sc → Meets t sc env → eval (calls_of t.signature.definitions) env new ≡ eval (calls_of t.signature.definitions) env old
