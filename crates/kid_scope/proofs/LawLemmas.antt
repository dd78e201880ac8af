-- What a law of a theory says is true of the terms that are put in.
use Rattle.std.proofs.Common.{◌≡◌, ℕ, Bool, true, false, List, [], ◌∷◌, ◌++◌, Ok, Err, refl, sym, ap, ◌∙◌, cond, subst, map, length, inl, inr, arith}
use Rattle.std.specs.Prelude.{◌||◌}
use Rattle.kid_value.specs.PlainValue.{PlainValue}
use Rattle.kid_value.specs.PlainSort.{PlainSort}
use Rattle.kid_value.specs.SortOrder.{is_subsort}
use Rattle.kid_value.specs.Rows.Parts.{truth_of}
use Rattle.kid_term.specs.PlainTerm.{PlainTerm, term_row}
use Rattle.kid_term.specs.Names.{same_name, Names, is_named, PlainDef}
use Rattle.kid_term.specs.Sorted.{Sorted}
use Rattle.kid_term.specs.Sorting.{sort_of}
use Rattle.kid_term.specs.Simultaneous.{substituted, captures_any}
use Rattle.kid_term.specs.Eval.{Env, Calls, value_at, eval, evals, bound, calls_of}
use Rattle.kid_term.specs.Fitting.{AreOfSorts, AreAllowed, AreSound, Fits}
use Rattle.kid_term.specs.PlainLaw.{PlainConclusion, equal, holds, PlainLaw}
use Rattle.kid_term.specs.Truths.{AllTrue}
use Rattle.kid_term.specs.Good.{IsConcluded, LawHolds, AllHold}
use Rattle.kid_term.proofs.EvalLemmas.{eval-agree}
use Rattle.kid_term.proofs.LogicSound.{IsOfSort-subsort}
use Rattle.kid_term.proofs.SimultaneousLemmas.{eval-all}
use Rattle.kid_term.proofs.SortedValue.{sorted-kept}
use Rattle.kid_scope.specs.Cases.{IsClosed, AllClosed, said_by, LawClosed, LawsClosed}
use Rattle.kid_scope.specs.LawInstances.{Contains, AllFree, ConcludedAt, sorts_for, LawsOfTheoriesHold}
use Rattle.kid_scope.specs.Rewriting.{lies_within, all_within}
use Rattle.kid_scope.specs.Unfolding.{paired}
use Rattle.kid_scope.proofs.Unfolded.{paired-values, evals-length, as_many}

-- ---- the law stands there

all_hold-append : (calls : Calls) (x : Env) (ls ms : List PlainLaw) → AllHold calls x ls → AllHold calls x ms → AllHold calls x (ls ++ ms)
all_hold-append calls x [] ms h k = k
all_hold-append calls x (l ∷ ls) ms h k = (h.0, all_hold-append calls x ls ms h.1 k)

one_holds : (calls : Calls) (x : Env) (law : PlainLaw) (ls : List PlainLaw) → Contains law ls → AllHold calls x ls → LawHolds calls x law
one_holds calls x law [] c h = absurd c
one_holds calls x law (l ∷ ls) c h = elim c [
  | inl e ↦ subst (LawHolds calls x) e h.0
  | inr r ↦ one_holds calls x law ls r h.1
]

one_closed : (inputs : Names) (law : PlainLaw) (ls : List PlainLaw) → Contains law ls → LawsClosed inputs ls → LawClosed inputs law
one_closed inputs law [] c h = absurd c
one_closed inputs law (l ∷ ls) c h = elim c [
  | inl e ↦ subst (LawClosed inputs) e h.0
  | inr r ↦ one_closed inputs law ls r h.1
]

-- ---- the terms have values of the variables' sorts

within-ok : (s : PlainSort) (r : Sorted) → lies_within s r ≡ true → (a : PlainSort) × (r ≡ Ok a) × (is_subsort a s ≡ true)
within-ok s (Ok a) p = (a, refl, p)
within-ok s (Err f) p = cc

both-ok : (c d : Bool) → cond c d false ≡ true → (c ≡ true) × (d ≡ true)
both-ok true d p = (refl, p)
both-ok false d p = cc

values_fit : (defs : List PlainDef) (names : Names) (env : Env) → AreSound defs → AreAllowed names → Fits names env → (vs : Names) (ts : List PlainTerm) → length ts ≡ length vs
    → all_within defs names (sorts_for vs ts) ≡ true → AreOfSorts (map (λ v. v.1) vs) (evals (calls_of defs) env (term_row ts))
values_fit defs names env sound allowed fits [] [] l p = tt
values_fit defs names env sound allowed fits [] (t ∷ ts) l p = absurd (omega (arith, l))
values_fit defs names env sound allowed fits (v ∷ vs) [] l p = absurd (omega (arith, l))
values_fit defs names env sound allowed fits (v ∷ vs) (t ∷ ts) l p =
    let r = both-ok (lies_within v.1 (sort_of defs names t)) (all_within defs names (sorts_for vs ts)) p in
    let w = within-ok v.1 (sort_of defs names t) r.0 in
    (IsOfSort-subsort w.0 v.1 (eval (calls_of defs) env t) w.2 (sorted-kept defs names env t w.0 sound allowed fits w.1).of_sort, values_fit defs names env sound allowed fits vs ts (omega (arith, l)) r.1)

-- ---- what is put in has the value of what the law says at these values

-- names that are bound have one value in front of any environments, and the others theirs
front-agrees : (vs : Names) (ws : List PlainValue) (env env' : Env) (inputs : Names) (y : List ℕ) → length ws ≡ length vs → ((z : List ℕ) → is_named z inputs ≡ true → value_at z env ≡ value_at z env')
    → is_named y (vs ++ inputs) ≡ true → value_at y (bound vs ws ++ env) ≡ value_at y (bound vs ws ++ env')
front-agrees [] ws env env' inputs y l agree m = agree y m
front-agrees (v ∷ vs) [] env env' inputs y l agree m = absurd (omega (arith, l))
front-agrees (v ∷ vs) (w ∷ ws) env env' inputs y l agree m = by (same_name y v.0) m (front-agrees vs ws env env' inputs y (omega (arith, l)) agree)
  where
    by : (c : Bool) → (c || is_named y (vs ++ inputs)) ≡ true → (is_named y (vs ++ inputs) ≡ true → value_at y (bound vs ws ++ env) ≡ value_at y (bound vs ws ++ env'))
        → cond c w (value_at y (bound vs ws ++ env)) ≡ cond c w (value_at y (bound vs ws ++ env'))
    by true q rest = refl
    by false q rest = rest q

module _ (calls : Calls) (env env' : Env) (vs inputs : Names) (ts : List PlainTerm) (l : length (evals calls env (term_row ts)) ≡ length vs)
    (agree : (z : List ℕ) → is_named z inputs ≡ true → value_at z env ≡ value_at z env') where
  abbrev at_values : Env
  at_values = bound vs (evals calls env (term_row ts)) ++ env'

  put-value : (t : PlainTerm) → captures_any (paired vs ts) t ≡ false → IsClosed (vs ++ inputs) t → eval calls env (substituted (paired vs ts) t) ≡ eval calls at_values t
  put-value t free closed =
      eval-all calls env (paired vs ts) t free
      ∙ ap (λ z. eval calls (z ++ env) t) (paired-values calls env vs ts)
      ∙ eval-agree calls t (bound vs (evals calls env (term_row ts)) ++ env) at_values (λ y m. front-agrees vs (evals calls env (term_row ts)) env env' inputs y l agree (closed y m))

  put-true : (cs : List PlainTerm) → AllFree (paired vs ts) cs → AllClosed (vs ++ inputs) cs → AllTrue calls env (map (substituted (paired vs ts)) cs) → AllTrue calls at_values cs
  put-true [] free closed a = tt
  put-true (c ∷ cs) free closed a = (ap truth_of (sym (put-value c free.0 closed.0)) ∙ a.0, put-true cs free.1 closed.1 a.1)

  put-concluded : (c : PlainConclusion) → AllFree (paired vs ts) (said_by c) → AllClosed (vs ++ inputs) (said_by c) → IsConcluded calls at_values c → ConcludedAt calls env (paired vs ts) c
  put-concluded (equal x y) free closed h = put-value x free.0 closed.0 ∙ h ∙ sym (put-value y free.1.0 closed.1.0)
  put-concluded (holds x) free closed h = ap truth_of (put-value x free.0 closed.0) ∙ h

pub laws_hold : LawsOfTheoriesHold
laws_hold t sc env law ts sound scope met n w a =
    let defs = t.signature.definitions in
    let calls = calls_of defs in
    let x = met.case.inputs in
    let l = as_many (length ts) (length law.variables) n.counted in
    let m : length (evals calls env (term_row ts)) ≡ length law.variables = evals-length calls env ts ∙ l in
    let h : LawHolds calls x law = one_holds calls x law (t.laws ++ t.axioms) n.stands (all_hold-append calls x t.laws t.axioms (sound.laws x met.case.good) met.case.good.axioms) in
    let closed = one_closed t.signature.inputs law (t.laws ++ t.axioms) n.stands sound.closed in
    put-concluded calls env x law.variables t.signature.inputs ts m met.case.agrees law.conclusion n.conclusion_free closed.1
    (h (evals calls env (term_row ts)) (values_fit defs sc.names env sound.definitions scope.allowed met.case.fits law.variables ts l w)
    (put-true calls env x law.variables t.signature.inputs ts m met.case.agrees law.conditions n.conditions_free closed.0 a))
