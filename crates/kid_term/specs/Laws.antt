-- What holds of all terms.
use Rattle.std.specs.Prelude.{◌≡◌, ◌↔◌, ℕ, true, false, List, [], ◌∷◌, Ok}
use Rattle.kid_value.specs.PlainValue.{PlainValue}
use Rattle.kid_value.specs.PlainSort.{PlainSort}
use Rattle.kid_value.specs.Canonical.{IsCanonical}
use Rattle.kid_term.specs.PlainTerm.{PlainTerm}
use Rattle.kid_term.specs.Places.{put_at}
use Rattle.kid_term.specs.Contexts.{SameAt}
use Rattle.kid_term.specs.Names.{Names, PlainDef}
use Rattle.kid_term.specs.Eval.{Env, Calls, eval, calls_of}
use Rattle.kid_term.specs.Sorting.{sort_of}
use Rattle.kid_term.specs.Fitting.{IsOfSort, Fits, AreAllowed, AreSound}
use Rattle.kid_term.specs.Small.{StaysSmall}
use Rattle.kid_term.specs.Quote.{quote}
use Rattle.kid_term.specs.PlainSpec.{PlainSpec}
use Rattle.kid_term.specs.Answer.{AllAnswers, Answer}
use Rattle.kid_term.specs.Substitution.{mentions, replaced, captures}
use Rattle.kid_term.specs.Simultaneous.{substituted, captures_any}
use Rattle.kid_term.specs.Closed.{is_closed}
use Rattle.kid_term.specs.WordTerms.{holds_word_operator}

-- over sound definitions and an environment that fits, a sorted term has a value of its sort, and every integer on the way is small
pub record IsEvaluated (defs : List PlainDef) (env : Env) (t : PlainTerm) (s : PlainSort) : Type 0 where
  pub of_sort : IsOfSort s (eval (calls_of defs) env t)
  pub small : StaysSmall defs env t

abbrev pub SortsAreKept : Type 0
SortsAreKept =
    (defs : List PlainDef) (names : Names) (env : Env) (t : PlainTerm) (s : PlainSort)
    → AreSound defs → AreAllowed names → Fits names env → sort_of defs names t ≡ Ok s → IsEvaluated defs env t s

-- the term of a value has that value wherever it stands, since it has no free name, and is written without operators on words and rows
pub record IsQuoted (v : PlainValue) : Type 0 where
  pub value : (calls : Calls) (env : Env) → eval calls env (quote v) ≡ v
  pub closed : is_closed (quote v) ≡ true
  pub wordless : holds_word_operator (quote v) ≡ false

abbrev pub QuotesAreTheirValues : Type 0
QuotesAreTheirValues = (v : PlainValue) → IsCanonical v → IsQuoted v

-- a sorted term keeps its value where the subterm at a path is exchanged for one that leaves it sorted and has the old value wherever that counts
abbrev pub ExchangesKeepValues : Type 0
ExchangesKeepValues =
    (defs : List PlainDef) (names : Names) (env : Env) (t new : PlainTerm) (path : List ℕ) (s s' : PlainSort)
    → AreSound defs → AreAllowed names → Fits names env → sort_of defs names t ≡ Ok s → sort_of defs names (put_at t path new) ≡ Ok s'
    → SameAt (calls_of defs) t path new env → eval (calls_of defs) env (put_at t path new) ≡ eval (calls_of defs) env t

-- at most one list has all answers, and at most one is the answer
abbrev pub HasOneList : (Calls → PlainSpec → Env → List PlainValue → Type 0) → Type 0
HasOneList Is = (calls : Calls) (spec : PlainSpec) (x : Env) (vs ws : List PlainValue) → Is calls spec x vs → Is calls spec x ws → vs ≡ ws

abbrev pub AnswersAreDetermined : Type 0
AnswersAreDetermined = HasOneList AllAnswers × HasOneList Answer

-- one name at once is one name
abbrev pub OneNameIsReplaced : Type 0
OneNameIsReplaced =
    (x : List ℕ) (new t : PlainTerm)
    → (substituted ((x, new) ∷ []) t ≡ replaced x new t) × (captures_any ((x, new) ∷ []) t ≡ captures x new t)

-- a term is closed exactly where no name stands free in it, and then has the same value in each environment
pub record IsConstant (t : PlainTerm) : Type 0 where
  pub free : (is_closed t ≡ true) ↔ ((x : List ℕ) → mentions x t ≡ false)
  pub value : is_closed t ≡ true → (calls : Calls) (env env' : Env) → eval calls env t ≡ eval calls env' t

abbrev pub ClosedTermsAreConstant : Type 0
ClosedTermsAreConstant = (t : PlainTerm) → IsConstant t
