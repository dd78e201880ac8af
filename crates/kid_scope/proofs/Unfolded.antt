-- A call has the value of its definition's body, with the arguments in the parameters' places.
use Rattle.std.proofs.Common.{◌≡◌, ℕ, suc, Bool, true, false, List, [], ◌∷◌, ◌++◌, Option, Some, Ok, refl, sym, ap, ◌∙◌, cond, subst, length, inl, inr, arith}
use Rattle.std.specs.Prelude.{◌||◌, nat_eq}
use Rattle.std.proofs.lemmas.Bool.Decides.{nat_tests}
use Rattle.kid_value.specs.PlainValue.{PlainValue, bool}
use Rattle.kid_value.specs.PlainSort.{PlainSort, sets}
use Rattle.kid_value.specs.Rows.Parts.{members_of}
use Rattle.kid_term.specs.PlainTerm.{PlainHead, op, call, cast, PlainTerm, var, number, truth, tag, app, bind, PlainTerms, no_term, term, terms, term_row}
use Rattle.kid_term.specs.Names.{same_name, Names, is_named, PlainDef, latest_over}
use Rattle.kid_term.specs.Sorted.{◌>>=◌}
use Rattle.kid_term.specs.Written.{written}
use Rattle.kid_term.specs.Sorting.{call_sort, head_sort, least_sort, least_sorts}
use Rattle.kid_term.specs.Eval.{Env, Calls, value_at, call_at, head_value, binder_value, eval, evals, bound, def_value, calls_over, calls_of}
use Rattle.kid_term.specs.Substitution.{mentions}
use Rattle.kid_term.specs.Simultaneous.{substituted, captures_any, values_of}
use Rattle.kid_term.specs.Fitting.{AreSoundOver, AreSound}
use Rattle.kid_term.proofs.EvalLemmas.{eval-agree, same_name-itself, same_name-true}
use Rattle.kid_term.proofs.Inversions.{bind_ok}
use Rattle.kid_term.proofs.SimultaneousLemmas.{eval-all}
use Rattle.kid_term.proofs.SortedValue.{binder_ok}
use Rattle.kid_term.specs.Definition.{first_named, definition_of}
use Rattle.kid_scope.specs.Definitions.{is_defined, AreNewOver, AreDistinct}
use Rattle.kid_scope.specs.Unfolding.{paired}
use Rattle.kid_scope.proofs.Truths.{or_cases, or_second}
use Rattle.kid_term.proofs.Scopes.{mentions-named}

-- ---- which definitions a term calls

abbrev pub head_calls : List ℕ → PlainHead → Bool
head_calls f (op o) = false
head_calls f (call g) = same_name f g
head_calls f (cast s) = false

abbrev mutual
  pub is_called : List ℕ → PlainTerm → Bool
  is_called f (var x) = false
  is_called f (number n) = false
  is_called f (truth b) = false
  is_called f (tag n) = false
  is_called f (app h ts) = head_calls f h || is_called_among f ts
  is_called f (bind b x s t) = is_called f s || is_called f t

  pub is_called_among : List ℕ → PlainTerms → Bool
  is_called_among f no_term = false
  is_called_among f (term t ts) = is_called f t || is_called_among f ts

or_first : (b c : Bool) → b ≡ true → (b || c) ≡ true
or_first b c p = rw p refl

-- a term has the same value over calls that agree on what it calls
module _ (calls calls' : Calls) where
  head-agree : (h : PlainHead) (vs : List PlainValue) → ((f : List ℕ) → head_calls f h ≡ true → (vs : List PlainValue) → call_at f calls vs ≡ call_at f calls' vs) → head_value calls h vs ≡ head_value calls' h vs
  head-agree (op o) vs agree = refl
  head-agree (call f) vs agree = agree f (same_name-itself f) vs
  head-agree (cast s) vs agree = refl

  mutual
    calls-agree : (t : PlainTerm) (env : Env) → ((f : List ℕ) → is_called f t ≡ true → (vs : List PlainValue) → call_at f calls vs ≡ call_at f calls' vs) → eval calls env t ≡ eval calls' env t
    calls-agree (var x) env agree = refl
    calls-agree (number n) env agree = refl
    calls-agree (truth b) env agree = refl
    calls-agree (tag n) env agree = refl
    calls-agree (app h ts) env agree =
        ap (head_value calls h) (all_calls-agree ts env (λ f m. agree f (or_second (head_calls f h) (is_called_among f ts) m)))
        ∙ head-agree h (evals calls' env ts) (λ f m. agree f (or_first (head_calls f h) (is_called_among f ts) m))
    calls-agree (bind b x s t) env agree =
        let e = calls-agree s env (λ f m. agree f (or_first (is_called f s) (is_called f t) m)) in
        let g : (v : PlainValue) → eval calls ((x, v) ∷ env) t ≡ eval calls' ((x, v) ∷ env) t = λ v. calls-agree t ((x, v) ∷ env) (λ f m. agree f (or_second (is_called f s) (is_called f t) m)) in
        λ i. binder_value b (members_of (e i)) (λ v. g v i)

    all_calls-agree : (ts : PlainTerms) (env : Env) → ((f : List ℕ) → is_called_among f ts ≡ true → (vs : List PlainValue) → call_at f calls vs ≡ call_at f calls' vs) → evals calls env ts ≡ evals calls' env ts
    all_calls-agree no_term env agree = refl
    all_calls-agree (term t ts) env agree =
        let e = calls-agree t env (λ f m. agree f (or_first (is_called f t) (is_called_among f ts) m)) in
        let g = all_calls-agree ts env (λ f m. agree f (or_second (is_called f t) (is_called_among f ts) m)) in
        λ i. e i ∷ g i

-- ---- a sorted term calls what is known alone

call-known : (f : List ℕ) (known : List PlainDef) (ss : List PlainSort) (s : PlainSort) → call_sort f known ss ≡ Ok s → is_defined f known ≡ true
call-known f [] ss s p = cc
call-known f (d ∷ ds) ss s p = by (same_name f d.name) refl (λ e. call-known f ds ss s (rw e at p))
  where
    by : (c : Bool) → same_name f d.name ≡ c → (same_name f d.name ≡ false → is_defined f ds ≡ true) → (same_name f d.name || is_defined f ds) ≡ true
    by true e rest = rw e refl
    by false e rest = or_second (same_name f d.name) (is_defined f ds) (rest e)

module _ (known : List PlainDef) where
  head-known : (h : PlainHead) (ts : PlainTerms) (ss : List PlainSort) (s : PlainSort) → head_sort known h (written ts) ss ≡ Ok s → (f : List ℕ) → head_calls f h ≡ true → is_defined f known ≡ true
  head-known (op o) ts ss s p f m = cc
  head-known (call g) ts ss s p f m = subst (λ z. is_defined z known ≡ true) (sym (same_name-true f g m)) (call-known g known ss s p)
  head-known (cast a) ts ss s p f m = cc

  mutual
    calls-known : (t : PlainTerm) (names : Names) (s : PlainSort) → least_sort known names t ≡ Ok s → (f : List ℕ) → is_called f t ≡ true → is_defined f known ≡ true
    calls-known (var x) names s p f m = cc
    calls-known (number n) names s p f m = cc
    calls-known (truth b) names s p f m = cc
    calls-known (tag n) names s p f m = cc
    calls-known (app h ts) names s p f m =
        let r = bind_ok (least_sorts known names ts) (head_sort known h (written ts)) s p in
        elim (or_cases (head_calls f h) (is_called_among f ts) m) [
          | inl e ↦ head-known h ts r.0 s r.2 f e
          | inr e ↦ all_calls-known ts names r.0 r.1 f e
        ]
    calls-known (bind b x u t) names s p f m =
        let r = binder_ok known names b x u t s p in
        elim (or_cases (is_called f u) (is_called f t) m) [
          | inl e ↦ calls-known u names (sets r.element) r.of_set f e
          | inr e ↦ calls-known t ((x, r.element) ∷ names) r.body r.of_body f e
        ]

    all_calls-known : (ts : PlainTerms) (names : Names) (ss : List PlainSort) → least_sorts known names ts ≡ Ok ss → (f : List ℕ) → is_called_among f ts ≡ true → is_defined f known ≡ true
    all_calls-known no_term names ss p f m = cc
    all_calls-known (term t ts) names ss p f m =
        let r = bind_ok (least_sort known names t) (λ s. least_sorts known names ts >>= λ us. Ok (s ∷ us)) ss p in
        let q = bind_ok (least_sorts known names ts) (λ us. Ok (r.0 ∷ us)) ss r.2 in
        elim (or_cases (is_called f t) (is_called_among f ts) m) [
          | inl e ↦ calls-known t names r.0 r.1 f e
          | inr e ↦ all_calls-known ts names q.0 q.1 f e
        ]

-- ---- each definition's value is that of its body over all of them

-- a definition whose body names its parameters alone and calls what is known
record Reads (known : List PlainDef) (d : PlainDef) : Type 0 where
  closed : (y : List ℕ) → mentions y d.body ≡ true → is_named y d.parameters ≡ true
  calling : (f : List ℕ) → is_called f d.body ≡ true → is_defined f known ≡ true

record Opens (known : List PlainDef) (calls : Calls) : Type 0 where
  reads : (f : List ℕ) (d : PlainDef) → first_named f known ≡ Some d → Reads known d
  opens : (f : List ℕ) (d : PlainDef) → first_named f known ≡ Some d → (vs : List PlainValue) → call_at f calls vs ≡ def_value calls d vs

more-defined : (f : List ℕ) (d : PlainDef) (known : List PlainDef) → is_defined f known ≡ true → is_defined f (d ∷ known) ≡ true
more-defined f d known p = or_second (same_name f d.name) (is_defined f known) p

-- a name that is known differs from one that is not
known-differs : (f g : List ℕ) (known : List PlainDef) → is_defined f known ≡ true → is_defined g known ≡ false → same_name f g ≡ false
known-differs f g known p q = by (same_name f g) refl
  where
    by : (c : Bool) → same_name f g ≡ c → c ≡ false
    by true e = let there : is_defined g known ≡ true = subst (λ z. is_defined z known ≡ true) (same_name-true f g e) p in cc
    by false e = refl

module _ (known : List PlainDef) (calls : Calls) (d : PlainDef) (new : is_defined d.name known ≡ false) where
  abbrev more : Calls
  more = (d.name, def_value calls d) ∷ calls

  still-called : (f : List ℕ) → is_defined f known ≡ true → (vs : List PlainValue) → call_at f calls vs ≡ call_at f more vs
  still-called f p vs = rw (known-differs f d.name known p new) refl

  same-body : (e : PlainDef) → Reads known e → (vs : List PlainValue) → def_value calls e vs ≡ def_value more e vs
  same-body e r vs = ap (λ v. cond (nat_eq (length vs) (length e.parameters)) v (bool false)) (calls-agree calls more e.body (bound e.parameters vs) (λ f m. still-called f (r.calling f m)))

  reads-more : (e : PlainDef) → Reads known e → Reads (d ∷ known) e
  reads-more e r = record { closed = r.closed; calling = λ f m. more-defined f d known (r.calling f m) }

  abbrev found : PlainDef → Option PlainDef
  found e = Some e

  opens-more : Opens known calls → Reads known d → Opens (d ∷ known) more
  opens-more o r = record {
    reads = λ f e p. reading f e (same_name f d.name) p;
    opens = λ f e p vs. opening f e vs (same_name f d.name) refl p;
  }
    where
      reading : (f : List ℕ) (e : PlainDef) (c : Bool) → cond c (found d) (first_named f known) ≡ found e → Reads (d ∷ known) e
      reading f e true p = let q : d ≡ e = cc in subst (Reads (d ∷ known)) q (reads-more d r)
      reading f e false p = reads-more e (o.reads f e p)

      opening : (f : List ℕ) (e : PlainDef) (vs : List PlainValue) (c : Bool) → same_name f d.name ≡ c → cond (same_name f d.name) (found d) (first_named f known) ≡ found e
          → cond (same_name f d.name) (def_value calls d vs) (call_at f calls vs) ≡ def_value more e vs
      opening f e vs true w p = let q : d ≡ e = (let k : found d ≡ found e = rw w at p in cc) in rw w (same-body d r vs ∙ ap (λ z. def_value more z vs) q)
      opening f e vs false w p = let k : first_named f known ≡ found e = rw w at p in rw w (o.opens f e k vs ∙ same-body e (o.reads f e k) vs)

nothing-opens : Opens [] []
nothing-opens = record { reads = λ f d p. cc; opens = λ f d p vs. cc }

all-open : (ds known : List PlainDef) (calls : Calls) → Opens known calls → AreSoundOver known ds → AreNewOver known ds → Opens (latest_over known ds) (calls_over calls ds)
all-open [] known calls o sound new = o
all-open (d ∷ ds) known calls o sound new =
    let r : Reads known d = record {
      closed = mentions-named d.body known d.parameters sound.0.of_body sound.0.body_sorted;
      calling = calls-known known d.body d.parameters sound.0.of_body sound.0.body_sorted;
    } in
    all-open ds (d ∷ known) ((d.name, def_value calls d) ∷ calls) (opens-more known calls d new.0 o r) sound.1 new.1

-- ---- a call and its body

-- the parameters have the arguments' values
pub paired-values : (calls : Calls) (env : Env) (ps : Names) (ts : List PlainTerm) → values_of calls env (paired ps ts) ≡ bound ps (evals calls env (term_row ts))
paired-values calls env [] ts = refl
paired-values calls env (p ∷ ps) [] = refl
paired-values calls env (p ∷ ps) (t ∷ ts) = ap (λ z. (p.0, eval calls env t) ∷ z) (paired-values calls env ps ts)

-- what is bound stands in front of everything
bound-front : (ps : Names) (vs : List PlainValue) (env : Env) (y : List ℕ) → length vs ≡ length ps → is_named y ps ≡ true → value_at y (bound ps vs ++ env) ≡ value_at y (bound ps vs)
bound-front [] vs env y n m = cc
bound-front (p ∷ ps) [] env y n m = absurd (omega (arith, n))
bound-front (p ∷ ps) (v ∷ vs) env y n m = by (same_name y p.0) m (bound-front ps vs env y (omega (arith, n)))
  where
    by : (c : Bool) → (c || is_named y ps) ≡ true → (is_named y ps ≡ true → value_at y (bound ps vs ++ env) ≡ value_at y (bound ps vs))
        → cond c v (value_at y (bound ps vs ++ env)) ≡ cond c v (value_at y (bound ps vs))
    by true q rest = refl
    by false q rest = rest q

pub evals-length : (calls : Calls) (env : Env) (ts : List PlainTerm) → length (evals calls env (term_row ts)) ≡ length ts
evals-length calls env [] = refl
evals-length calls env (t ∷ ts) = ap suc (evals-length calls env ts)

pub row-terms : (ts : PlainTerms) → term_row (terms ts) ≡ ts
row-terms no_term = refl
row-terms (term t ts) = ap (term t) (row-terms ts)

pub as_many : (m n : ℕ) → nat_eq m n ≡ true → m ≡ n
as_many m n p = grind (arith, nat_tests)

pub opened-value : (defs : List PlainDef) (env : Env) (f : List ℕ) (d : PlainDef) (ts : List PlainTerm) → AreSound defs → AreDistinct defs → definition_of f defs ≡ Some d
    → nat_eq (length ts) (length d.parameters) ≡ true → captures_any (paired d.parameters ts) d.body ≡ false
    → eval (calls_of defs) env (substituted (paired d.parameters ts) d.body) ≡ eval (calls_of defs) env (app (call f) (term_row ts))
opened-value defs env f d ts sound distinct p n c =
    let o = all-open defs [] [] nothing-opens sound distinct in
    let vs = evals (calls_of defs) env (term_row ts) in
    let l : nat_eq (length vs) (length d.parameters) ≡ true = subst (λ z. nat_eq z (length d.parameters) ≡ true) (sym (evals-length (calls_of defs) env ts)) n in
    let e : call_at f (calls_of defs) vs ≡ eval (calls_of defs) (bound d.parameters vs) d.body = o.opens f d p vs ∙ ap (λ z. cond z (eval (calls_of defs) (bound d.parameters vs) d.body) (bool false)) l in
    eval-all (calls_of defs) env (paired d.parameters ts) d.body c
    ∙ ap (λ z. eval (calls_of defs) (z ++ env) d.body) (paired-values (calls_of defs) env d.parameters ts)
    ∙ eval-agree (calls_of defs) d.body (bound d.parameters vs ++ env) (bound d.parameters vs) (λ y m. bound-front d.parameters vs env y (as_many (length vs) (length d.parameters) l) ((o.reads f d p).closed y m))
    ∙ sym e
