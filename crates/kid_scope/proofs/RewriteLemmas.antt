-- A rewritten term keeps its value.
use Rattle.std.proofs.Common.{◌≡◌, ℕ, suc, Bool, true, false, List, [], ◌∷◌, Option, Some, None, Result, Ok, Err, refl, ap, ◌∙◌, subst, cond}
use Rattle.kid_value.specs.PlainSort.{PlainSort}
use Rattle.kid_term.specs.PlainTerm.{PlainTerm}
use Rattle.kid_term.specs.Names.{latest_first}
use Rattle.kid_term.specs.Places.{put_at}
use Rattle.kid_term.specs.Replacing.{subterm}
use Rattle.kid_term.specs.Sorted.{Sorted}
use Rattle.kid_term.specs.Sorting.{sort_of}
use Rattle.kid_term.specs.Chain.{◌>>=◌}
use Rattle.kid_term.specs.Eval.{Env, eval, calls_of}
use Rattle.kid_term.specs.Small.{checks_of}
use Rattle.kid_term.specs.declared.why.Why.{Why}
use Rattle.kid_term.specs.declared.why.Why.TheVariants.{Condition}
use Rattle.kid_term.proofs.Exchange.{exchange-kept}
use Rattle.kid_term.proofs.SortedValue.{calls_fit, sort_of_ok}
use Rattle.kid_term.specs.Truths.{AllTrue}
use Rattle.kid_term.specs.PlainTheory.{PlainTheory}
use Rattle.kid_scope.specs.Cases.{IsSoundTheory}
use Rattle.kid_scope.specs.Scope.{PlainScope, scope_at}
use Rattle.kid_scope.specs.Holds.{holds}
use Rattle.kid_scope.specs.Rewriting.{PlainInstance, Rule, all_within, unless, placed, unmet, unsorted, misfitting, licensed, settled, made, rewritten}
use Rattle.kid_scope.specs.Laws.{RewritingsKeepValues}
use Rattle.kid_scope.proofs.HoldLemmas.{holds_true}
use Rattle.kid_scope.proofs.Places.{put_sorted, part_sorted}
use Rattle.kid_scope.proofs.ScopeLemmas.{Stands, same_at}

abbrev ok_instance : PlainInstance → Result PlainInstance Why
ok_instance n = Ok n

abbrev ok_sort : PlainSort → Sorted
ok_sort s = Ok s

pub staged : {A B : Type 0} (r : Result A Why) (f : A → Result B Why) (y : B) → (r >>= f) ≡ Ok y → (x : A) × (r ≡ Ok x) × (f x ≡ Ok y)
staged (Ok x) f y p = (x, refl, p)
staged (Err e) f y p = cc

pub unless_ok : {A : Type 0} (o : Option Why) (x y : A) → unless o x ≡ Ok y → (o ≡ None) × (x ≡ y)
unless_ok None x y p = (refl, cc)
unless_ok (Some w) x y p = cc

pub placed_ok : (o : Option PlainTerm) (t : PlainTerm) → placed o ≡ Ok t → o ≡ Some t
placed_ok None t p = cc
placed_ok (Some u) t p = cc

pub sorted_ok : (r : Sorted) → unsorted r ≡ None → (s : PlainSort) × (r ≡ Ok s)
sorted_ok (Ok s) p = (s, refl)
sorted_ok (Err f) p = cc

pub fitting_ok : (b : Bool) → misfitting b ≡ None → b ≡ true
fitting_ok true p = refl
fitting_ok false p = cc

-- where no condition is unmet, each holds
pub all_hold : (met : PlainTerm → Bool) (k : ℕ) (c : PlainTerm) (cs : List PlainTerm) → unmet met k (c ∷ cs) ≡ None → (met c ≡ true) × (unmet met (suc k) cs ≡ None)
all_hold met k c cs p = by (met c) refl p
  where
    by : (b : Bool) → met c ≡ b → cond b (unmet met (suc k) cs) (Some (Condition k)) ≡ None → (met c ≡ true) × (unmet met (suc k) cs ≡ None)
    by true e q = (e, q)
    by false e q = cc

-- and is true
pub all_true : (t : PlainTheory) (sc : PlainScope) (env : Env) → IsSoundTheory t → Stands t sc env → (k : ℕ) (cs : List PlainTerm) → unmet (holds t.signature.definitions sc) k cs ≡ None
    → AllTrue (calls_of t.signature.definitions) env cs
all_true t sc env sound st k [] p = tt
all_true t sc env sound st k (c ∷ cs) p =
    let r = all_hold (holds t.signature.definitions sc) k c cs p in
    (holds_true t.signature.definitions sc c env sound.definitions st.scope.allowed st.met.case.fits st.met.facts st.met.assumed r.0, all_true t sc env sound st (suc k) cs r.1)

pub rewritten_keeps : RewritingsKeepValues
rewritten_keeps rule keeps t sc whole path new s env sound scope met p q =
    let defs = t.signature.definitions in
    let inner = scope_at (latest_first defs) whole path sc in
    let v = staged (made rule t sc whole path) (λ n. settled defs inner sc.names n (put_at whole path n.term)) new q in
    let r = staged (placed (subterm whole path)) (λ old. rule t inner old >>= λ n. licensed defs inner n) v.0 v.1 in
    let w = staged (rule t inner r.0) (λ n. licensed defs inner n) v.0 r.2 in
    let l = unless_ok (unmet (holds defs inner) 1 w.0.conditions) w.0 v.0 w.2 in
    let z = staged (unless (unsorted (sort_of defs sc.names (put_at whole path v.0.term))) (put_at whole path v.0.term)) (λ sorted. unless (misfitting (all_within defs inner.names v.0.within)) sorted) new v.2 in
    let a = unless_ok (unsorted (sort_of defs sc.names (put_at whole path v.0.term))) (put_at whole path v.0.term) z.0 z.1 in
    let b = unless_ok (misfitting (all_within defs inner.names v.0.within)) z.0 new z.2 in
    let there = placed_ok (subterm whole path) r.0 r.1 in
    let whole_sorted = sorted_ok (sort_of defs sc.names (put_at whole path v.0.term)) a.0 in
    let old_sort = part_sorted defs whole path r.0 sc s there p in
    let new_sort = put_sorted defs whole path v.0.term r.0 sc whole_sorted.0 there whole_sorted.1 in
    let fit = fitting_ok (all_within defs inner.names v.0.within) b.0 in
    let found : rule t inner r.0 ≡ Ok v.0 = w.1 ∙ ap ok_instance l.1 in
    let none : unmet (holds defs inner) 1 v.0.conditions ≡ None = subst (λ n. unmet (holds defs inner) 1 n.conditions ≡ None) l.1 l.0 in
    subst (λ y. eval (calls_of defs) env y ≡ eval (calls_of defs) env whole) (a.1 ∙ b.1)
    (exchange-kept defs sc.names env whole v.0.term path s whole_sorted.0 sound.definitions scope.allowed met.case.fits p whole_sorted.1
    (same_at t (checks_of defs) (calls_fit defs sound.definitions) whole path r.0 v.0.term sc env s (sort_of_ok defs sc.names whole s p).2 there (record { scope = scope; met = met })
    (λ env' st. keeps t inner r.0 v.0 old_sort.0 new_sort.0 env' sound st.scope st.met found old_sort.1 new_sort.1 fit (all_true t inner env' sound st 1 v.0.conditions none))))

-- and has a sort
pub rewritten-sorted : (rule : Rule) (t : PlainTheory) (sc : PlainScope) (whole : PlainTerm) (path : List ℕ) (new : PlainTerm) → rewritten rule t sc whole path ≡ Ok new
    → (s : PlainSort) × (sort_of t.signature.definitions sc.names new ≡ Ok s)
rewritten-sorted rule t sc whole path new p =
    let defs = t.signature.definitions in
    let inner = scope_at (latest_first defs) whole path sc in
    let v = staged (made rule t sc whole path) (λ n. settled defs inner sc.names n (put_at whole path n.term)) new p in
    let result = put_at whole path v.0.term in
    let z = staged (unless (unsorted (sort_of defs sc.names result)) result) (λ sorted. unless (misfitting (all_within defs inner.names v.0.within)) sorted) new v.2 in
    let a = unless_ok (unsorted (sort_of defs sc.names result)) result z.0 z.1 in
    let b = unless_ok (misfitting (all_within defs inner.names v.0.within)) z.0 new z.2 in
    let k = sorted_ok (sort_of defs sc.names result) a.0 in
    (k.0, subst (λ u. sort_of defs sc.names u ≡ ok_sort k.0) (a.1 ∙ b.1) k.1)
