-- What has the value of a place wherever the place's scope is met has it wherever it counts.
use Rattle.std.proofs.Common.{◌≡◌, ℕ, zero, suc, Bool, true, false, List, [], ◌∷◌, ◌++◌, Some, Ok, Err, refl, sym, ap, ◌∙◌, cond, subst, inl, inr}
use Rattle.std.specs.Prelude.{not, ◌||◌}
use Rattle.kid_value.specs.PlainValue as value
use Rattle.kid_value.specs.PlainValue.{PlainValue, int, bool, pair, set, seq, map_of}
use Rattle.kid_value.specs.PlainSort.{PlainSort, never, bools, ints, pairs, sets, seqs, maps, enums, has_sort}
use Rattle.kid_value.specs.ValueSet.{is_member, value_eq}
use Rattle.kid_value.specs.Rows.Logic as row
use Rattle.kid_value.specs.Rows.Parts.{truth_of, members_of}
use Rattle.kid_value.proofs.ValueSetLaws.{value_eq-true}
use Rattle.kid_term.specs.PlainTerm.{PlainHead, op, PlainTerm, var, number, truth, tag, app, bind, PlainTerms, no_term, term}
use Rattle.kid_term.specs.declared.operator.Binder.{Binder}
use Rattle.kid_term.specs.declared.operator.Op.TheVariants.{Logic}
use Rattle.kid_term.specs.declared.operator.LogicOp.TheVariants.{And, Implies, If}
use Rattle.kid_term.specs.declared.operator.SetOp.TheVariants as set_word
use Rattle.kid_term.specs.Names.{same_name, Names, is_named, PlainDef, latest_first}
use Rattle.kid_term.specs.LogicSorts.{logic_sort}
use Rattle.kid_term.specs.SetRows.{set_value}
use Rattle.kid_term.specs.Eval.{Env, Calls, value_at, eval, evals, calls_of}
use Rattle.kid_term.specs.Small.{Checks}
use Rattle.kid_term.specs.Sorted.{Sorted, Shadow, with_set, ◌>>=◌}
use Rattle.kid_term.specs.Written.{Numbers, written}
use Rattle.kid_term.specs.Sorting.{least_sort, least_sorts, binder_sort, unshadowed, head_sort}
use Rattle.kid_term.specs.Substitution.{mentions}
use Rattle.kid_term.specs.Fitting.{IsOfSort, AreOfSorts}
use Rattle.kid_term.specs.Contexts.{Guard, SameAt, SameAmong}
use Rattle.kid_term.specs.Replacing.{subterm, subterm_among}
use Rattle.kid_term.proofs.EvalLemmas.{eval-agree, same_name-itself}
use Rattle.kid_term.proofs.Inversions.{bind_ok, with_set_ok, ok}
use Rattle.kid_term.proofs.Members.{Each, members_sound}
use Rattle.kid_term.proofs.SortedValue.{CallsFit, Fits-more, AreAllowed-more, element_allowed, evaluates, binder_ok, all_evaluate}
use Rattle.kid_term.specs.PlainTheory.{PlainTheory}
use Rattle.kid_term.specs.Truths.{AllTrue}
use Rattle.kid_scope.specs.Cases.{IsClosed, AllClosed, IsScope, Meets}
use Rattle.kid_scope.specs.Scope.{PlainScope, member, assumptions, with_assumed, element_sort, under_binder, scope_at, scope_among}
use Rattle.kid_scope.proofs.Truths.{or_cases, or_second, or_false, AllTrue-append, AllClosed-append, AllClosed-more}
use Rattle.kid_term.proofs.Scopes.{mentions-named, names-differ}

-- ---- what an operator lets be assumed is true

-- the first argument of a sorted `if` is a truth value
first_bool : (ss : List PlainSort) (v : PlainValue) (vs : List PlainValue) (s : PlainSort) → logic_sort If ss ≡ Ok s → AreOfSorts ss (v ∷ vs) → has_sort bools v ≡ true
first_bool [] v vs s p h = cc
first_bool (a ∷ []) v vs s p h = cc
first_bool (a ∷ b ∷ []) v vs s p h = cc
first_bool (bools ∷ b ∷ c ∷ []) v vs s p h = h.0.has
first_bool (never ∷ b ∷ c ∷ []) v vs s p h = cc
first_bool (ints l u ∷ b ∷ c ∷ []) v vs s p h = cc
first_bool (pairs l u ∷ b ∷ c ∷ []) v vs s p h = cc
first_bool (sets l ∷ b ∷ c ∷ []) v vs s p h = cc
first_bool (seqs l n ∷ b ∷ c ∷ []) v vs s p h = cc
first_bool (maps l u ∷ b ∷ c ∷ []) v vs s p h = cc
first_bool (enums ns ∷ b ∷ c ∷ []) v vs s p h = cc
first_bool (a ∷ b ∷ c ∷ d ∷ ss) v vs s p h = cc

not_true : (v : PlainValue) → has_sort bools v ≡ true → truth_of v ≡ false → truth_of (row.not v) ≡ true
not_true (bool b) h e = ap not e
not_true (int n) h e = cc
not_true (pair x y) h e = cc
not_true (set vs) h e = cc
not_true (seq vs) h e = cc
not_true (map_of m) h e = cc
not_true (value.tag n) h e = cc

guard_true : (known : List PlainDef) (calls : Calls) (env : Env) (h : PlainHead) (i : ℕ) (ts : PlainTerms) (ns : Numbers) (ss : List PlainSort) (s : PlainSort) → head_sort known h ns ss ≡ Ok s
    → AreOfSorts ss (evals calls env ts) → Guard h i (evals calls env ts) → AllTrue calls env (assumptions h i ts)
guard_true known calls env (op (Logic And)) (suc zero) no_term ns ss s p a w = tt
guard_true known calls env (op (Logic And)) (suc zero) (term t ts) ns ss s p a w = (w, tt)
guard_true known calls env (op (Logic Implies)) (suc zero) no_term ns ss s p a w = tt
guard_true known calls env (op (Logic Implies)) (suc zero) (term t ts) ns ss s p a w = (w, tt)
guard_true known calls env (op (Logic If)) (suc zero) no_term ns ss s p a w = tt
guard_true known calls env (op (Logic If)) (suc zero) (term t ts) ns ss s p a w = (w, tt)
guard_true known calls env (op (Logic If)) (suc (suc zero)) no_term ns ss s p a w = tt
guard_true known calls env (op (Logic If)) (suc (suc zero)) (term t ts) ns ss s p a w =
    (not_true (eval calls env t) (first_bool ss (eval calls env t) (evals calls env ts) s p a) w, tt)
guard_true known calls env h i ts ns ss s p a w = tt

-- ---- and names what is in scope alone

first_closed : (known : List PlainDef) (t : PlainTerm) (ts : PlainTerms) (names : Names) (ss : List PlainSort) → least_sorts known names (term t ts) ≡ Ok ss → IsClosed names t
first_closed known t ts names ss p =
    let r = bind_ok (least_sort known names t) (λ s. least_sorts known names ts >>= λ us. Ok (s ∷ us)) ss p in mentions-named t known names r.0 r.1

guard_closed : (known : List PlainDef) (h : PlainHead) (i : ℕ) (ts : PlainTerms) (names : Names) (ss : List PlainSort) → least_sorts known names ts ≡ Ok ss → AllClosed names (assumptions h i ts)
guard_closed known (op (Logic And)) (suc zero) no_term names ss p = tt
guard_closed known (op (Logic And)) (suc zero) (term t ts) names ss p = (first_closed known t ts names ss p, tt)
guard_closed known (op (Logic Implies)) (suc zero) no_term names ss p = tt
guard_closed known (op (Logic Implies)) (suc zero) (term t ts) names ss p = (first_closed known t ts names ss p, tt)
guard_closed known (op (Logic If)) (suc zero) no_term names ss p = tt
guard_closed known (op (Logic If)) (suc zero) (term t ts) names ss p = (first_closed known t ts names ss p, tt)
guard_closed known (op (Logic If)) (suc (suc zero)) no_term names ss p = tt
guard_closed known (op (Logic If)) (suc (suc zero)) (term t ts) names ss p = (λ y m. first_closed known t ts names ss p y (or_false (mentions y t) m), tt)
guard_closed known h i ts names ss p = tt

-- ---- under a binder

Each-member : (P : PlainValue → Type 0) (v : PlainValue) (vs : List PlainValue) → Each P vs → is_member v vs ≡ true → P v
Each-member P v [] h m = cc
Each-member P v (w ∷ vs) h m = elim (or_cases (value_eq v w) (is_member v vs) m) [
  | inl e ↦ subst P (sym (value_eq-true v w e)) h.0
  | inr n ↦ Each-member P v vs h.1 n
]

abbrev sorted : PlainSort → Sorted
sorted s = Ok s

unshadowed_fresh : (x : List ℕ) (names : Names) (a s : PlainSort) → unshadowed x names a ≡ Ok s → is_named x names ≡ false
unshadowed_fresh x names a s p = by (is_named x names) refl p
  where
    by : (c : Bool) → is_named x names ≡ c → cond c (Err Shadow) (sorted a) ≡ sorted s → is_named x names ≡ false
    by true e q = cc
    by false e q = e

-- the name of a sorted binder is not in scope above it
pub binder_fresh : (known : List PlainDef) (names : Names) (b : Binder) (x : List ℕ) (u t : PlainTerm) (s : PlainSort) → least_sort known names (bind b x u t) ≡ Ok s → is_named x names ≡ false
binder_fresh known names b x u t s p =
    let r = bind_ok (least_sort known names u) (λ set. with_set set (λ e. least_sort known ((x, e) ∷ names) t >>= λ body. binder_sort b e body >>= unshadowed x names)) s p in
    let q = with_set_ok r.0 (λ e. least_sort known ((x, e) ∷ names) t >>= λ body. binder_sort b e body >>= unshadowed x names) s r.2 in
    let w = bind_ok (least_sort known ((x, q.0) ∷ names) t) (λ body. binder_sort b q.0 body >>= unshadowed x names) s q.2 in
    let y = bind_ok (binder_sort b q.0 w.0) (unshadowed x names) s w.2 in
    unshadowed_fresh x names y.0 s y.2

-- a name that is new leaves the others their values
other_value : (names : Names) (env : Env) (x y : List ℕ) (v : PlainValue) → is_named x names ≡ false → is_named y names ≡ true → value_at y ((x, v) ∷ env) ≡ value_at y env
other_value names env x y v fresh m = rw (names-differ y x names m fresh) refl

closed_value : (calls : Calls) (names : Names) (env : Env) (x : List ℕ) (v : PlainValue) (t : PlainTerm) → is_named x names ≡ false → IsClosed names t → eval calls ((x, v) ∷ env) t ≡ eval calls env t
closed_value calls names env x v t fresh c = eval-agree calls t ((x, v) ∷ env) env (λ y m. other_value names env x y v fresh (c y m))

still_true : (calls : Calls) (names : Names) (env : Env) (x : List ℕ) (v : PlainValue) (ts : List PlainTerm) → is_named x names ≡ false → AllClosed names ts → AllTrue calls env ts → AllTrue calls ((x, v) ∷ env) ts
still_true calls names env x v [] fresh c a = tt
still_true calls names env x v (t ∷ ts) fresh c a = (ap truth_of (closed_value calls names env x v t fresh c.0) ∙ a.0, still_true calls names env x v ts fresh c.1 a.1)

member_closed : (names : Names) (x : List ℕ) (a : PlainSort) (u : PlainTerm) → IsClosed names u → IsClosed ((x, a) ∷ names) (member (var x) u)
member_closed names x a u c y m = by (same_name y x) m
  where
    by : (e : Bool) → (e || (mentions y u || false)) ≡ true → (e || is_named y names) ≡ true
    by true q = refl
    by false q = c y (or_false (mentions y u) q)

in_true : (v w : PlainValue) → is_member v (members_of w) ≡ true → truth_of (set_value set_word.In (v ∷ w ∷ [])) ≡ true
in_true v (set vs) h = h
in_true v (int n) h = cc
in_true v (bool b) h = cc
in_true v (pair x y) h = cc
in_true v (seq vs) h = cc
in_true v (map_of m) h = cc
in_true v (value.tag n) h = cc

-- ---- on the way down

pub record Stands (t : PlainTheory) (sc : PlainScope) (env : Env) : Type 0 where
  pub scope : IsScope t sc
  pub met : Meets t sc env

module _ (t : PlainTheory) (checks : Checks) (fit : CallsFit (latest_first t.signature.definitions) (calls_of t.signature.definitions) checks) where
  abbrev known : List PlainDef
  known = latest_first t.signature.definitions

  abbrev calls : Calls
  calls = calls_of t.signature.definitions

  -- the children of a sorted application
  among_stands : (h : PlainHead) (i : ℕ) (ts : PlainTerms) (sc : PlainScope) (env : Env) (ss : List PlainSort) (s : PlainSort) → least_sorts known sc.names ts ≡ Ok ss → head_sort known h (written ts) ss ≡ Ok s
      → Guard h i (evals calls env ts) → Stands t sc env → Stands t (with_assumed sc (assumptions h i ts)) env
  among_stands h i ts sc env ss s p q w a = record {
    scope = record {
      covers = a.scope.covers;
      allowed = a.scope.allowed;
      facts_closed = a.scope.facts_closed;
      assumed_closed = AllClosed-append sc.names sc.assumed (assumptions h i ts) a.scope.assumed_closed (guard_closed known h i ts sc.names ss p);
    };
    met = record {
      case = a.met.case;
      facts = a.met.facts;
      assumed = AllTrue-append calls env sc.assumed (assumptions h i ts) a.met.assumed
          (guard_true known calls env h i ts (written ts) ss s q (all_evaluate known calls checks fit ts sc.names env ss p a.scope.allowed a.met.case.fits).of_sorts w);
    };
  }

  -- a name for each member of a sorted set
  body_stands : (x : List ℕ) (a : PlainSort) (u : PlainTerm) (v : PlainValue) (sc : PlainScope) (env : Env) → is_named x sc.names ≡ false → least_sort known sc.names u ≡ Ok (sets a)
      → is_member v (members_of (eval calls env u)) ≡ true → Stands t sc env
      → Stands t (record { names = (x, a) ∷ sc.names; facts = sc.facts; assumed = sc.assumed ++ member (var x) u ∷ [] }) ((x, v) ∷ env)
  body_stands x a u v sc env fresh p m st =
      let k = evaluates known calls checks fit u sc.names env (sets a) p st.scope.allowed st.met.case.fits in
      let hv : IsOfSort a v = Each-member (IsOfSort a) v (members_of (eval calls env u)) (members_sound a (eval calls env u) k.sound.of_sort).each m in
      let closed : IsClosed sc.names u = mentions-named u known sc.names (sets a) p in
      let same : eval calls ((x, v) ∷ env) u ≡ eval calls env u = closed_value calls sc.names env x v u fresh closed in
      let own : value_at x ((x, v) ∷ env) ≡ v = rw (same_name-itself x) refl in
      let there : is_member (value_at x ((x, v) ∷ env)) (members_of (eval calls ((x, v) ∷ env) u)) ≡ true = (λ i. is_member (own i) (members_of (same i))) ∙ m in
      record {
        scope = record {
          covers = λ y n. or_second (same_name y x) (is_named y sc.names) (st.scope.covers y n);
          allowed = AreAllowed-more x a sc.names (element_allowed a k.sound.sort_allowed) st.scope.allowed;
          facts_closed = AllClosed-more sc.names (x, a) sc.facts st.scope.facts_closed;
          assumed_closed = AllClosed-append ((x, a) ∷ sc.names) sc.assumed (member (var x) u ∷ []) (AllClosed-more sc.names (x, a) sc.assumed st.scope.assumed_closed)
              (member_closed sc.names x a u closed, tt);
        };
        met = record {
          case = record {
            inputs = st.met.case.inputs;
            good = st.met.case.good;
            agrees = λ y n. other_value sc.names env x y v fresh (st.scope.covers y n) ∙ st.met.case.agrees y n;
            fits = Fits-more x a v sc.names env hv st.met.case.fits;
          };
          facts = still_true calls sc.names env x v sc.facts fresh st.scope.facts_closed st.met.facts;
          assumed = AllTrue-append calls ((x, v) ∷ env) sc.assumed (member (var x) u ∷ []) (still_true calls sc.names env x v sc.assumed fresh st.scope.assumed_closed st.met.assumed)
              (in_true (value_at x ((x, v) ∷ env)) (eval calls ((x, v) ∷ env) u) there, tt);
        };
      }

  mutual
    pub same_at : (u : PlainTerm) (path : List ℕ) (old new : PlainTerm) (sc : PlainScope) (env : Env) (s : PlainSort) → least_sort known sc.names u ≡ Ok s → subterm u path ≡ Some old → Stands t sc env
        → ((inner : Env) → Stands t (scope_at known u path sc) inner → eval calls inner new ≡ eval calls inner old) → SameAt calls u path new env
    same_at u [] old new sc env s p q a h = let e : u ≡ old = cc in subst (λ z. eval calls env new ≡ eval calls env z) (sym e) (h env a)
    same_at (var x) (i ∷ path) old new sc env s p q a h = tt
    same_at (number n) (i ∷ path) old new sc env s p q a h = tt
    same_at (truth b) (i ∷ path) old new sc env s p q a h = tt
    same_at (tag n) (i ∷ path) old new sc env s p q a h = tt
    same_at (app g ts) (i ∷ path) old new sc env s p q a h =
        let r = bind_ok (least_sorts known sc.names ts) (head_sort known g (written ts)) s p in
        λ w. same_among ts i path old new (with_assumed sc (assumptions g i ts)) env r.0 r.1 q (among_stands g i ts sc env r.0 s r.1 r.2 w a) h
    same_at (bind b x u v) (zero ∷ path) old new sc env s p q a h =
        let r = binder_ok known sc.names b x u v s p in same_at u path old new sc env (sets r.element) r.of_set q a h
    same_at (bind b x u v) (suc zero ∷ path) old new sc env s p q a h =
        let r = binder_ok known sc.names b x u v s p in
        let e : r.element ≡ element_sort (least_sort known sc.names u) = sym (ap element_sort r.of_set) in
        λ w m.
        same_at v path old new (under_binder sc x (least_sort known sc.names u) u) ((x, w) ∷ env) r.body (subst (λ z. least_sort known ((x, z) ∷ sc.names) v ≡ ok r.body) e r.of_body) q
        (subst (λ z. Stands t (record { names = (x, z) ∷ sc.names; facts = sc.facts; assumed = sc.assumed ++ member (var x) u ∷ [] }) ((x, w) ∷ env)) e
        (body_stands x r.element u w sc env (binder_fresh known sc.names b x u v s p) r.of_set m a)) h
    same_at (bind b x u v) (suc (suc i) ∷ path) old new sc env s p q a h = tt

    pub same_among : (ts : PlainTerms) (i : ℕ) (path : List ℕ) (old new : PlainTerm) (sc : PlainScope) (env : Env) (ss : List PlainSort) → least_sorts known sc.names ts ≡ Ok ss
        → subterm_among ts i path ≡ Some old → Stands t sc env → ((inner : Env) → Stands t (scope_among known ts i path sc) inner → eval calls inner new ≡ eval calls inner old)
        → SameAmong calls ts i path new env
    same_among no_term i path old new sc env ss p q a h = tt
    same_among (term u ts) zero path old new sc env ss p q a h =
        let r = bind_ok (least_sort known sc.names u) (λ s. least_sorts known sc.names ts >>= λ us. Ok (s ∷ us)) ss p in same_at u path old new sc env r.0 r.1 q a h
    same_among (term u ts) (suc i) path old new sc env ss p q a h =
        let r = bind_ok (least_sort known sc.names u) (λ s. least_sorts known sc.names ts >>= λ us. Ok (s ∷ us)) ss p in
        let w = bind_ok (least_sorts known sc.names ts) (λ us. Ok (r.0 ∷ us)) ss r.2 in
        same_among ts i path old new sc env w.0 w.1 q a h
