-- A cast that changes nothing is taken away.
use Rattle.std.specs.Prelude.{Bool, pos, cond, List, [], ◌∷◌, Result, Ok}
use Rattle.kid_value.specs.PlainSort.{PlainSort, ints, seqs}
use Rattle.kid_value.specs.SortOrder.{is_subsort}
use Rattle.kid_term.specs.PlainTerm.{cast, PlainTerm, op, number, app, no_term, term}
use Rattle.kid_term.specs.Names.{Names, PlainDef}
use Rattle.kid_term.specs.Sorted.{Sorted}
use Rattle.kid_term.specs.Sorting.{sort_of}
use Rattle.kid_term.specs.declared.operator.Op.TheVariants.{Number, Seq}
use Rattle.kid_term.specs.declared.operator.NumberOp.TheVariants.{Le}
use Rattle.kid_term.specs.declared.operator.SeqOp.TheVariants.{Len}
use Rattle.kid_term.specs.declared.why.Why.{Why}
use Rattle.kid_scope.specs.Rewriting.{PlainInstance, Rule, lies_within}
use Rattle.kid_scope.specs.Instances.{no_match, just, provided, forth_alone}

abbrev pub at_most : PlainTerm → PlainTerm → PlainTerm
at_most a b = app (op (Number Le)) (term a (term b no_term))

abbrev pub length_of : PlainTerm → PlainTerm
length_of v = app (op (Seq Len)) (term v no_term)

-- to an interval if the number lies in it, to sequences of a bound if its items fit and it is not longer, and to another sort if its own lies within that
abbrev pub uncast_from : PlainSort → PlainTerm → Sorted → Result PlainInstance Why
uncast_from (ints lo hi) t r = provided (at_most (number lo) t ∷ at_most t (number hi) ∷ []) t
uncast_from (seqs b n) t (Ok (seqs c m)) = cond (is_subsort c b) (provided (at_most (length_of t) (number (pos n)) ∷ []) t) no_match
uncast_from a t r = cond (lies_within a r) (just t) no_match

abbrev pub uncast_in : List PlainDef → Names → PlainTerm → Result PlainInstance Why
uncast_in defs names (app (cast a) (term t no_term)) = uncast_from a t (sort_of defs names t)
uncast_in defs names t = no_match

abbrev pub uncast : Bool → List PlainTerm → Rule
uncast back args = forth_alone back args (λ t sc old. uncast_in t.signature.definitions sc.names old)
