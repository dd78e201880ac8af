-- The value of a term.
use Rattle.std.specs.Prelude.{ℕ, false, nat_eq, cond, List, [], ◌∷◌, map, filter, length}
use Rattle.std.specs.List.{list_all, list_any}
use Rattle.kid_value.specs.PlainValue as value
use Rattle.kid_value.specs.PlainValue.{PlainValue, int, bool}
use Rattle.kid_value.specs.PlainSort.{PlainSort, has_sort}
use Rattle.kid_value.specs.ValueSet.{set_of}
use Rattle.kid_value.specs.Rows.Parts.{truth_of, members_of, total}
use Rattle.kid_value.specs.Rows.Kinds.{set_from}
use Rattle.kid_value.specs.Least.{least_value}
use Rattle.kid_term.specs.PlainTerm.{PlainHead, op, call, cast, PlainTerm, var, number, truth, tag, app, bind, PlainTerms, no_term, term}
use Rattle.kid_term.specs.Names.{same_name, Names, PlainDef}
use Rattle.kid_term.specs.LogicRows.{logic_value}
use Rattle.kid_term.specs.NumberRows.{number_value}
use Rattle.kid_term.specs.PairRows.{pair_value}
use Rattle.kid_term.specs.SetRows.{set_value}
use Rattle.kid_term.specs.SeqRows.{seq_value}
use Rattle.kid_term.specs.MapRows.{map_value}
use Rattle.kid_term.specs.WordRows.{word_value}
use Rattle.kid_term.specs.declared.operator.Op.{Op}
use Rattle.kid_term.specs.declared.operator.Op.TheVariants.{Logic, Number, Pair, Set, Seq, Map, Word}
use Rattle.kid_term.specs.declared.operator.Binder.{Binder}
use Rattle.kid_term.specs.declared.operator.Binder.TheVariants as binder

-- names with their values, the innermost first
abbrev pub Env : Type 0
Env = List (List ℕ × PlainValue)

-- what each definition gives at its arguments, the last definition first
abbrev pub Calls : Type 0
Calls = List (List ℕ × (List PlainValue → PlainValue))

abbrev pub value_at : List ℕ → Env → PlainValue
value_at x [] = bool false
value_at x (e ∷ env) = cond (same_name x e.0) e.1 (value_at x env)

abbrev pub call_at : List ℕ → Calls → List PlainValue → PlainValue
call_at f [] vs = bool false
call_at f (c ∷ calls) vs = cond (same_name f c.0) (c.1 vs) (call_at f calls vs)

abbrev pub op_value : Op → List PlainValue → PlainValue
op_value (Logic o) = logic_value o
op_value (Number o) = number_value o
op_value (Pair o) = pair_value o
op_value (Set o) = set_value o
op_value (Seq o) = seq_value o
op_value (Map o) = map_value o
op_value (Word o) = word_value o

-- the value where it has the sort, else the sort's least value
abbrev pub cast_value : PlainSort → List PlainValue → PlainValue
cast_value s (v ∷ []) = cond (has_sort s v) v (least_value s)
cast_value s vs = bool false

abbrev pub head_value : Calls → PlainHead → List PlainValue → PlainValue
head_value calls (op o) vs = op_value o vs
head_value calls (call f) vs = call_at f calls vs
head_value calls (cast s) vs = cast_value s vs

-- what a binder makes of its set's members and its body's value at each
abbrev pub binder_value : Binder → List PlainValue → (PlainValue → PlainValue) → PlainValue
binder_value binder.All vs f = bool (list_all (λ v. truth_of (f v)) vs)
binder_value binder.Some vs f = bool (list_any (λ v. truth_of (f v)) vs)
binder_value binder.SetOf vs f = set_from (filter (λ v. truth_of (f v)) vs)
binder_value binder.Image vs f = set_from (set_of (map f vs))
binder_value binder.SumOf vs f = int (total (map f vs))

abbrev mutual
  pub eval : Calls → Env → PlainTerm → PlainValue
  eval calls env (var x) = value_at x env
  eval calls env (number n) = int n
  eval calls env (truth b) = bool b
  eval calls env (tag n) = value.tag n
  eval calls env (app h ts) = head_value calls h (evals calls env ts)
  eval calls env (bind b x s t) = binder_value b (members_of (eval calls env s)) (λ v. eval calls ((x, v) ∷ env) t)

  pub evals : Calls → Env → PlainTerms → List PlainValue
  evals calls env no_term = []
  evals calls env (term t ts) = eval calls env t ∷ evals calls env ts

-- the parameters with the arguments' values
abbrev pub bound : Names → List PlainValue → Env
bound [] vs = []
bound (p ∷ ps) [] = []
bound (p ∷ ps) (v ∷ vs) = (p.0, v) ∷ bound ps vs

-- a definition's value at its arguments, and false where their count is wrong
abbrev pub def_value : Calls → PlainDef → List PlainValue → PlainValue
def_value calls d vs = cond (nat_eq (length vs) (length d.parameters)) (eval calls (bound d.parameters vs) d.body) (bool false)

-- each definition over those that stand before it
abbrev pub calls_over : Calls → List PlainDef → Calls
calls_over calls [] = calls
calls_over calls (d ∷ ds) = calls_over ((d.name, def_value calls d) ∷ calls) ds

abbrev pub calls_of : List PlainDef → Calls
calls_of ds = calls_over [] ds
