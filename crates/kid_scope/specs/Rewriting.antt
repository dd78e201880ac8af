-- What a rule is, when it keeps the value, and a term with one subterm rewritten by it.
use Rattle.std.specs.Prelude.{◌≡◌, ℕ, suc, Bool, true, false, cond, List, [], ◌∷◌, Option, Some, None, Result, Ok, Err}
use Rattle.kid_value.specs.PlainSort.{PlainSort}
use Rattle.kid_value.specs.SortOrder.{is_subsort}
use Rattle.kid_term.specs.PlainTerm.{PlainTerm}
use Rattle.kid_term.specs.Names.{Names, PlainDef, latest_first}
use Rattle.kid_term.specs.Places.{put_at}
use Rattle.kid_term.specs.Replacing.{subterm}
use Rattle.kid_term.specs.Sorted.{Fault, Size, TermDeep, Sorted}
use Rattle.kid_term.specs.Sorting.{sort_of}
use Rattle.kid_term.specs.Chain.{◌>>=◌}
use Rattle.kid_term.specs.Eval.{Env, eval, calls_of}
use Rattle.kid_term.specs.declared.why.Why.{Why}
use Rattle.kid_term.specs.declared.why.Why.TheVariants.{NoPath, Condition, IllSorted, Limit}
use Rattle.kid_term.specs.PlainTheory.{PlainTheory}
use Rattle.kid_term.specs.Truths.{AllTrue}
use Rattle.kid_scope.specs.Cases.{IsScope, IsSoundTheory, Meets}
use Rattle.kid_scope.specs.Scope.{PlainScope, scope_at}
use Rattle.kid_scope.specs.Holds.{holds}

-- an instance of a rule: the conditions that must hold, the new term, and terms with the sorts that theirs must lie within
pub record PlainInstance : Type 0 where
  pub conditions : List PlainTerm
  pub term : PlainTerm
  pub within : List (PlainTerm × PlainSort)

-- what a rule makes of a term in a scope, or why there is no instance
abbrev pub Rule : Type 0
Rule = PlainTheory → PlainScope → PlainTerm → Result PlainInstance Why

abbrev pub lies_within : PlainSort → Sorted → Bool
lies_within s (Ok a) = is_subsort a s
lies_within s (Err fault) = false

module _ (defs : List PlainDef) (names : Names) where
  abbrev pub all_within : List (PlainTerm × PlainSort) → Bool
  all_within [] = true
  all_within (e ∷ es) = cond (lies_within e.1 (sort_of defs names e.0)) (all_within es) false

-- wherever both terms have a sort, the terms lie within their sorts and the conditions are true, the new term has the value of the old one
abbrev pub KeepsValue : Rule → Type 0
KeepsValue rule =
    (t : PlainTheory) (sc : PlainScope) (old : PlainTerm) (new : PlainInstance) (s s' : PlainSort) (env : Env) → IsSoundTheory t → IsScope t sc → Meets t sc env
    → rule t sc old ≡ Ok new → sort_of t.signature.definitions sc.names old ≡ Ok s → sort_of t.signature.definitions sc.names new.term ≡ Ok s'
    → all_within t.signature.definitions sc.names new.within ≡ true → AllTrue (calls_of t.signature.definitions) env new.conditions
    → eval (calls_of t.signature.definitions) env new.term ≡ eval (calls_of t.signature.definitions) env old

-- ---- the first refusal

abbrev pub unless : {A : Type 0} → Option Why → A → Result A Why
unless None x = Ok x
unless (Some why) x = Err why

abbrev pub placed : Option PlainTerm → Result PlainTerm Why
placed None = Err NoPath
placed (Some t) = Ok t

-- the number of the first condition that does not hold, counted from the one that is given
abbrev pub unmet : (PlainTerm → Bool) → ℕ → List PlainTerm → Option Why
unmet met k [] = None
unmet met k (c ∷ cs) = cond (met c) (unmet met (suc k) cs) (Some (Condition k))

abbrev pub why_of : Fault → Why
why_of Size = Limit
why_of TermDeep = Limit
why_of fault = IllSorted

abbrev pub unsorted : Sorted → Option Why
unsorted (Ok s) = None
unsorted (Err fault) = Some (why_of fault)

abbrev pub misfitting : Bool → Option Why
misfitting true = None
misfitting false = Some IllSorted

-- the instance, if its conditions hold
abbrev pub licensed : List PlainDef → PlainScope → PlainInstance → Result PlainInstance Why
licensed defs sc new = unless (unmet (holds defs sc) 1 new.conditions) new

-- the whole new term, if it is sorted and the instance's terms lie within their sorts
abbrev pub settled : List PlainDef → PlainScope → Names → PlainInstance → PlainTerm → Result PlainTerm Why
settled defs sc names new whole =
    unless (unsorted (sort_of defs names whole)) whole >>= λ sorted. unless (misfitting (all_within defs sc.names new.within)) sorted

-- what the rule makes of the subterm at the path
abbrev pub made : Rule → PlainTheory → PlainScope → PlainTerm → List ℕ → Result PlainInstance Why
made rule t sc whole path =
    placed (subterm whole path) >>= λ old. rule t (scope_at (latest_first t.signature.definitions) whole path sc) old >>= λ new.
    licensed t.signature.definitions (scope_at (latest_first t.signature.definitions) whole path sc) new

-- the term with the subterm at the path rewritten, or the first refusal
abbrev pub rewritten : Rule → PlainTheory → PlainScope → PlainTerm → List ℕ → Result PlainTerm Why
rewritten rule t sc whole path =
    made rule t sc whole path >>= λ new. settled t.signature.definitions (scope_at (latest_first t.signature.definitions) whole path sc) sc.names new (put_at whole path new.term)
