-- Subterms that become their value: without a free name, or held to be true or false.
use Rattle.std.specs.Prelude.{Bool, true, false, cond, List, [], ◌∷◌, Result, Ok}
use Rattle.kid_value.specs.PlainSort.{bools}
use Rattle.kid_term.specs.PlainTerm.{PlainTerm, truth}
use Rattle.kid_term.specs.Names.{PlainDef}
use Rattle.kid_term.specs.Sorted.{Sorted}
use Rattle.kid_term.specs.Sorting.{sort_of}
use Rattle.kid_term.specs.Eval.{eval, calls_of}
use Rattle.kid_term.specs.Closed.{is_closed}
use Rattle.kid_term.specs.Quote.{quote}
use Rattle.kid_term.specs.declared.why.Why.{Why}
use Rattle.kid_scope.specs.Scope.{negated}
use Rattle.kid_scope.specs.Rewriting.{PlainInstance, Rule}
use Rattle.kid_scope.specs.Instances.{no_match, just, provided, forth_alone}

-- a term without a free name becomes the term of its value
abbrev pub computed : List PlainDef → PlainTerm → Result PlainInstance Why
computed defs old = cond (is_closed old) (just (quote (eval (calls_of defs) [] old))) no_match

abbrev pub compute : Bool → List PlainTerm → Rule
compute back args = forth_alone back args (λ t sc old. computed t.signature.definitions old)

abbrev pub is_a_truth : Sorted → Bool
is_a_truth (Ok bools) = true
is_a_truth r = false

-- a truth value becomes true if it holds, and false if its negation does
abbrev pub settled_as : Bool → PlainTerm → Sorted → Result PlainInstance Why
settled_as b c r = cond (is_a_truth r) (provided (c ∷ []) (truth b)) no_match

abbrev pub holds : Bool → List PlainTerm → Rule
holds back args = forth_alone back args (λ t sc old. settled_as true old (sort_of t.signature.definitions sc.names old))

abbrev pub fails : Bool → List PlainTerm → Rule
fails back args = forth_alone back args (λ t sc old. settled_as false (negated old) (sort_of t.signature.definitions sc.names old))
