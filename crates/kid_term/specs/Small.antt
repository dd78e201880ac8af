-- Whether every integer in the evaluation of a term stays within plus or minus 2^62, each sum on the way among them.
use Rattle.std.specs.Prelude.{◌≡◌, ℕ, Bool, true, ◌&&◌, pos, nat_eq, cond, List, [], ◌∷◌, map, length}
use Rattle.std.specs.List.{list_all}
use Rattle.kid_value.specs.PlainValue.{PlainValue, int, set, seq, items}
use Rattle.kid_value.specs.SortLimits.{in_limits}
use Rattle.kid_value.specs.Rows.Parts.{members_of}
use Rattle.kid_value.specs.Rows.Sums.{sums_small}
use Rattle.kid_term.specs.PlainTerm.{PlainHead, op, call, cast, PlainTerm, var, number, truth, tag, app, bind, PlainTerms, no_term, term}
use Rattle.kid_term.specs.Names.{same_name, PlainDef}
use Rattle.kid_term.specs.Eval.{Env, Calls, value_at, head_value, eval, evals, bound, def_value, calls_of}
use Rattle.kid_term.specs.declared.operator.Op.{Op}
use Rattle.kid_term.specs.declared.operator.Op.TheVariants.{Set, Seq, Word}
use Rattle.kid_term.specs.declared.operator.SetOp.TheVariants.{Sum}
use Rattle.kid_term.specs.declared.operator.SeqOp.TheVariants.{Total}
use Rattle.kid_term.specs.declared.operator.Binder.{Binder}
use Rattle.kid_term.specs.declared.operator.Binder.TheVariants as binder

abbrev pub is_small : PlainValue → Bool
is_small (int n) = in_limits n
is_small v = true

-- the sum of a set's members and that of a sequence's items, with each sum on the way
abbrev pub members_small : List PlainValue → Bool
members_small (set vs ∷ []) = sums_small (pos 0) (items vs)
members_small vs = true

abbrev pub items_small : List PlainValue → Bool
items_small (seq vs ∷ []) = sums_small (pos 0) (items vs)
items_small vs = true

-- whether a number stays small, or the number of a sequence's items
abbrev pub is_small_or_short : PlainValue → Bool
is_small_or_short (int n) = in_limits n
is_small_or_short (seq vs) = in_limits (pos (length (items vs)))
is_small_or_short v = true

abbrev pub op_small : Op → List PlainValue → Bool
op_small (Set Sum) vs = members_small vs
op_small (Seq Total) vs = items_small vs
op_small (Word o) vs = list_all is_small_or_short vs
op_small o vs = true

-- whether each definition's evaluation at its arguments stays small, the last definition first
abbrev pub Checks : Type 0
Checks = List (List ℕ × (List PlainValue → Bool))

abbrev pub check_at : List ℕ → Checks → List PlainValue → Bool
check_at f [] vs = true
check_at f (c ∷ checks) vs = cond (same_name f c.0) (c.1 vs) (check_at f checks vs)

abbrev pub head_small : Checks → PlainHead → List PlainValue → Bool
head_small checks (call f) vs = check_at f checks vs
head_small checks (op o) vs = op_small o vs
head_small checks (cast s) vs = true

abbrev pub binder_small : Binder → List PlainValue → (PlainValue → PlainValue) → Bool
binder_small binder.SumOf vs f = sums_small (pos 0) (map f vs)
binder_small b vs f = true

abbrev mutual
  pub stays_small : Calls → Checks → Env → PlainTerm → Bool
  stays_small calls checks env (var x) = is_small (value_at x env)
  stays_small calls checks env (number n) = is_small (int n)
  stays_small calls checks env (truth b) = true
  stays_small calls checks env (tag n) = true
  stays_small calls checks env (app h ts) =
      all_stay_small calls checks env ts && head_small checks h (evals calls env ts) && is_small (head_value calls h (evals calls env ts))
  stays_small calls checks env (bind b x s t) =
      stays_small calls checks env s
      && list_all (λ v. stays_small calls checks ((x, v) ∷ env) t) (members_of (eval calls env s))
      && binder_small b (members_of (eval calls env s)) (λ v. eval calls ((x, v) ∷ env) t)

  pub all_stay_small : Calls → Checks → Env → PlainTerms → Bool
  all_stay_small calls checks env no_term = true
  all_stay_small calls checks env (term t ts) = stays_small calls checks env t && all_stay_small calls checks env ts

-- whether a definition's evaluation at its arguments stays small
abbrev pub def_small : Calls → Checks → PlainDef → List PlainValue → Bool
def_small calls checks d vs = cond (nat_eq (length vs) (length d.parameters)) (stays_small calls checks (bound d.parameters vs) d.body) true

abbrev pub checks_over : Calls → Checks → List PlainDef → Checks
checks_over calls checks [] = checks
checks_over calls checks (d ∷ ds) = checks_over ((d.name, def_value calls d) ∷ calls) ((d.name, def_small calls checks d) ∷ checks) ds

abbrev pub checks_of : List PlainDef → Checks
checks_of ds = checks_over [] [] ds

-- every integer in the evaluation of the term stays within the limits
abbrev pub StaysSmall : List PlainDef → Env → PlainTerm → Type 0
StaysSmall defs env t = stays_small (calls_of defs) (checks_of defs) env t ≡ true
