-- How rules are written.
use Rattle.std.specs.Prelude.{◌≡◌, Bool, false, List, [], Result, Ok, Err}
use Rattle.kid_value.specs.PlainSort.{PlainSort}
use Rattle.kid_term.specs.PlainTerm.{PlainTerm}
use Rattle.kid_term.specs.Names.{Names, PlainDef}
use Rattle.kid_term.specs.Sorting.{sort_of}
use Rattle.kid_term.specs.Eval.{Env, eval, calls_of}
use Rattle.kid_term.specs.Fitting.{Fits, AreAllowed, AreSound}
use Rattle.kid_term.specs.Truths.{AllTrue}
use Rattle.kid_term.specs.declared.why.Why.{Why}
use Rattle.kid_term.specs.declared.why.Why.TheVariants.{NoMatch}
use Rattle.kid_scope.specs.Rewriting.{PlainInstance, Rule}

abbrev pub no_match : Result PlainInstance Why
no_match = Err NoMatch

-- the new term, under no condition or under some
abbrev pub just : PlainTerm → Result PlainInstance Why
just new = Ok (record { conditions = []; term = new; within = [] })

abbrev pub provided : List PlainTerm → PlainTerm → Result PlainInstance Why
provided cs new = Ok (record { conditions = cs; term = new; within = [] })

-- a rule that has no direction back and takes no arguments
abbrev pub forth_alone : Bool → List PlainTerm → Rule → Rule
forth_alone false [] rule = rule
forth_alone back args rule = λ t sc old. no_match

-- a rule that looks at the term alone
abbrev pub termwise : (PlainTerm → Result PlainInstance Why) → Rule
termwise f = λ t sc old. f old

-- where both terms have a sort and the conditions are true, what it makes has the value of the term
abbrev pub KeepsTerms : (PlainTerm → Result PlainInstance Why) → Type 0
KeepsTerms f =
    (old : PlainTerm) (new : PlainInstance) (defs : List PlainDef) (names : Names) (env : Env) (s s' : PlainSort) → f old ≡ Ok new → AreSound defs → AreAllowed names → Fits names env
    → sort_of defs names old ≡ Ok s → sort_of defs names new.term ≡ Ok s' → AllTrue (calls_of defs) env new.conditions
    → eval (calls_of defs) env new.term ≡ eval (calls_of defs) env old
