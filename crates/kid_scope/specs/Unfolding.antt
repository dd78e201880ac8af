-- Calls of definitions, opened and closed again.
use Rattle.std.specs.Prelude.{ℕ, Bool, true, false, nat_eq, cond, List, [], ◌∷◌, length, Option, Some, None, Result, Ok, Err}
use Rattle.kid_term.specs.PlainTerm.{call, PlainTerm, app, terms, term_row}
use Rattle.kid_term.specs.Names.{Names, PlainDef}
use Rattle.kid_term.specs.Chain.{◌>>=◌}
use Rattle.kid_term.specs.Simultaneous.{Subst, substituted, captures_any}
use Rattle.kid_term.specs.declared.why.Why.{Why}
use Rattle.kid_term.specs.declared.why.Why.TheVariants.{UnknownLaw, NoMatch, Capture}
use Rattle.kid_term.specs.Definition.{definition_of}
use Rattle.kid_scope.specs.Same.{same_term}
use Rattle.kid_scope.specs.Rewriting.{PlainInstance, Rule}
use Rattle.kid_scope.specs.Instances.{no_match, just, forth_alone}

-- each parameter with its argument
abbrev pub paired : Names → List PlainTerm → Subst
paired [] ts = []
paired (p ∷ ps) [] = []
paired (p ∷ ps) (t ∷ ts) = (p.0, t) ∷ paired ps ts

-- the body with the arguments in the parameters' places, where there are as many and none of their names would be bound
abbrev pub opened : PlainDef → List PlainTerm → Result PlainTerm Why
opened d ts =
    cond (nat_eq (length ts) (length d.parameters)) (cond (captures_any (paired d.parameters ts) d.body) (Err Capture) (Ok (substituted (paired d.parameters ts) d.body))) (Err NoMatch)

abbrev pub opened_call : Option PlainDef → List PlainTerm → Result PlainInstance Why
opened_call None ts = no_match
opened_call (Some d) ts = opened d ts >>= λ body. just body

-- a call becomes the body of its definition
abbrev pub opened_in : List PlainDef → PlainTerm → Result PlainInstance Why
opened_in defs (app (call f) ts) = opened_call (definition_of f defs) (terms ts)
opened_in defs t = no_match

abbrev pub unfold_call : Bool → List PlainTerm → Rule
unfold_call back args = forth_alone back args (λ t sc old. opened_in t.signature.definitions old)

-- what is the body of a definition with these arguments becomes the call
abbrev pub closed_from : Result PlainTerm Why → PlainTerm → PlainTerm → Result PlainInstance Why
closed_from (Ok body) new old = cond (same_term body old) (just new) no_match
closed_from (Err why) new old = no_match

-- there is no way back; that there is no such definition is said first
abbrev pub closed_call : Bool → Option PlainDef → List ℕ → List PlainTerm → PlainTerm → Result PlainInstance Why
closed_call back None f ts old = Err UnknownLaw
closed_call false (Some d) f ts old = closed_from (opened d ts) (app (call f) (term_row ts)) old
closed_call true (Some d) f ts old = no_match

abbrev pub fold_by : List ℕ → Bool → List PlainTerm → List PlainDef → PlainTerm → Result PlainInstance Why
fold_by f back args defs old = closed_call back (definition_of f defs) f args old

abbrev pub fold_call : List ℕ → Bool → List PlainTerm → Rule
fold_call f back args = λ t sc old. fold_by f back args t.signature.definitions old
