-- The least sort of a term, or its first fault.
use Rattle.std.specs.Prelude.{ℕ, Bool, true, false, ◌&&◌, nat_le, cond, List, [], ◌∷◌, Result, Ok, Err}
use Rattle.kid_value.specs.PlainSort.{PlainSort, bools, ints, sets, enums, has_never}
use Rattle.kid_value.specs.SortOrder.{is_subsort}
use Rattle.kid_value.specs.SortCount.{count_of}
use Rattle.kid_term.specs.PlainTerm.{PlainHead, op, call, cast, PlainTerm, var, number, truth, tag, app, bind, PlainTerms, no_term, term, node_count, depth}
use Rattle.kid_term.specs.Names.{same_name, Names, is_named, PlainDef, latest_first}
use Rattle.kid_term.specs.Sorted.{Fault, Size, TermDeep, Unknown, Kind, Bounds, Shadow, Sorted, ◌>>=◌, allowed, with_one, with_bool, with_set}
use Rattle.kid_term.specs.LogicSorts.{logic_sort}
use Rattle.kid_term.specs.NumberSorts.{number_sort}
use Rattle.kid_term.specs.PairSorts.{pair_sort}
use Rattle.kid_term.specs.SetSorts.{set_sort}
use Rattle.kid_term.specs.SeqSorts.{seq_sort}
use Rattle.kid_term.specs.MapSorts.{map_sort}
use Rattle.kid_term.specs.WordSorts.{word_sort}
use Rattle.kid_term.specs.Written.{Numbers, written}
pub use Rattle.kid_term.specs.SumSort.{sum_sort}
use Rattle.kid_term.specs.declared.operator.Op.{Op}
use Rattle.kid_term.specs.declared.operator.Op.TheVariants.{Logic, Number, Pair, Set, Seq, Map, Word}
use Rattle.kid_term.specs.declared.operator.Binder.{Binder}
use Rattle.kid_term.specs.declared.operator.Binder.TheVariants as binder

abbrev pub op_sort : Op → Numbers → List PlainSort → Sorted
op_sort (Logic o) ns = logic_sort o
op_sort (Number o) ns = number_sort o
op_sort (Pair o) ns = pair_sort o
op_sort (Set o) ns = set_sort o
op_sort (Seq o) ns = seq_sort o
op_sort (Map o) ns = map_sort o
op_sort (Word o) ns = word_sort o ns

abbrev pub sort_at : List ℕ → Names → Sorted
sort_at x [] = Err Unknown
sort_at x (n ∷ names) = cond (same_name x n.0) (Ok n.1) (sort_at x names)

-- each argument's sort is a subsort of its parameter's, and there are as many
abbrev pub fit_parameters : Names → List PlainSort → Bool
fit_parameters [] [] = true
fit_parameters (p ∷ ps) (s ∷ ss) = is_subsort s p.1 && fit_parameters ps ss
fit_parameters ps ss = false

-- the declared sort of the first definition of the name
abbrev pub call_sort : List ℕ → List PlainDef → List PlainSort → Sorted
call_sort f [] ss = Err Unknown
call_sort f (d ∷ known) ss = cond (same_name f d.name) (cond (fit_parameters d.parameters ss) (Ok d.sort) (Err Kind)) (call_sort f known ss)

abbrev pub cast_sort : PlainSort → List PlainSort → Sorted
cast_sort s ss = with_one ss (λ _. cond (has_never s) (Err Bounds) (allowed s))

-- the sort of a head before arguments of these sorts, of which some are written as numbers
abbrev pub head_sort : List PlainDef → PlainHead → Numbers → List PlainSort → Sorted
head_sort known (op o) ns ss = op_sort o ns ss
head_sort known (call f) ns ss = call_sort f known ss
head_sort known (cast s) ns ss = cast_sort s ss

-- what a binder gives over a set of a where its body is of the sort
abbrev pub binder_sort : Binder → PlainSort → PlainSort → Sorted
binder_sort binder.All a body = with_bool body (Ok bools)
binder_sort binder.Some a body = with_bool body (Ok bools)
binder_sort binder.SetOf a body = with_bool body (Ok (sets a))
binder_sort binder.Image a body = allowed (sets body)
binder_sort binder.SumOf a body = sum_sort (count_of a) body

-- the sort of a binder, unless its name is in scope already
abbrev pub unshadowed : List ℕ → Names → PlainSort → Sorted
unshadowed x names s = cond (is_named x names) (Err Shadow) (Ok s)

-- the first fault in post-order, over definitions of which the last comes first
abbrev mutual
  pub least_sort : List PlainDef → Names → PlainTerm → Sorted
  least_sort known names (var x) = sort_at x names
  least_sort known names (number n) = allowed (ints n n)
  least_sort known names (truth b) = Ok bools
  least_sort known names (tag n) = allowed (enums (n ∷ []))
  least_sort known names (app h ts) = least_sorts known names ts >>= head_sort known h (written ts)
  least_sort known names (bind b x s t) =
      least_sort known names s >>= λ set. with_set set (λ a.
      least_sort known ((x, a) ∷ names) t >>= λ body.
      binder_sort b a body >>= unshadowed x names)

  pub least_sorts : List PlainDef → Names → PlainTerms → Result (List PlainSort) Fault
  least_sorts known names no_term = Ok []
  least_sorts known names (term t ts) = least_sort known names t >>= λ s. least_sorts known names ts >>= λ ss. Ok (s ∷ ss)

-- the least sort of a term of at most 4096 nodes that is at most 128 deep
abbrev pub sort_of : List PlainDef → Names → PlainTerm → Sorted
sort_of defs names t =
    cond (nat_le (node_count t) 4096) (cond (nat_le (depth t) 128) (least_sort (latest_first defs) names t) (Err TermDeep)) (Err Size)
