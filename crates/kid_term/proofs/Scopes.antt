-- A sorted term mentions the names of its scope alone, so that it has one value wherever these have the same values.
use Rattle.std.proofs.Common.{◌≡◌, ℕ, Bool, true, false, List, [], ◌∷◌, Ok, refl, sym, subst, cond}
use Rattle.std.specs.Prelude.{not, ◌&&◌, ◌||◌}
use Rattle.kid_value.specs.PlainSort.{PlainSort, sets}
use Rattle.kid_term.specs.PlainTerm.{PlainTerm, var, number, truth, tag, app, bind, PlainTerms, no_term, term}
use Rattle.kid_term.specs.Names.{same_name, Names, is_named, PlainDef}
use Rattle.kid_term.specs.Sorted.{◌>>=◌}
use Rattle.kid_term.specs.Written.{written}
use Rattle.kid_term.specs.Sorting.{sort_at, head_sort, least_sort, least_sorts}
use Rattle.kid_term.specs.Eval.{Env, Calls, value_at, eval}
use Rattle.kid_term.specs.Substitution.{mentions, some_mentions}
use Rattle.kid_term.proofs.EvalLemmas.{same_name-true, eval-agree}
use Rattle.kid_term.proofs.Inversions.{bind_ok, ok}
use Rattle.kid_term.proofs.SortedValue.{binder_ok}

named-sorted : (x : List ℕ) (names : Names) (s : PlainSort) → sort_at x names ≡ Ok s → is_named x names ≡ true
named-sorted x [] s p = cc
named-sorted x (n ∷ names) s p = by (same_name x n.0) p (named-sorted x names s)
  where
    by : (c : Bool) → cond c (ok n.1) (sort_at x names) ≡ ok s → (sort_at x names ≡ ok s → is_named x names ≡ true) → (c || is_named x names) ≡ true
    by true q rest = refl
    by false q rest = rest q

either : (a b here : Bool) → (a || b) ≡ true → (a ≡ true → here ≡ true) → (b ≡ true → here ≡ true) → here ≡ true
either true b here p f g = f refl
either false b here p f g = g p

-- a name of a binder is mentioned in its set, or in its body and is another than the binder's own
under : (in_set own in_body here : Bool) → (in_set || (not own && in_body)) ≡ true → (in_set ≡ true → here ≡ true) → (in_body ≡ true → (own || here) ≡ true) → here ≡ true
under true own in_body here p f g = f refl
under false true in_body here p f g = cc
under false false in_body here p f g = g p

mutual
  pub mentions-named : (t : PlainTerm) (known : List PlainDef) (names : Names) (s : PlainSort) → least_sort known names t ≡ Ok s
      → (y : List ℕ) → mentions y t ≡ true → is_named y names ≡ true
  mentions-named (var x) known names s p y m = subst (λ z. is_named z names ≡ true) (sym (same_name-true y x m)) (named-sorted x names s p)
  mentions-named (number n) known names s p y m = cc
  mentions-named (truth b) known names s p y m = cc
  mentions-named (tag n) known names s p y m = cc
  mentions-named (app g ts) known names s p y m =
      let r = bind_ok (least_sorts known names ts) (head_sort known g (written ts)) s p in some_mentions-named ts known names r.0 r.1 y m
  mentions-named (bind b x u t) known names s p y m =
      let r = binder_ok known names b x u t s p in
      under (mentions y u) (same_name y x) (mentions y t) (is_named y names) m
      (mentions-named u known names (sets r.element) r.of_set y)
      (mentions-named t known ((x, r.element) ∷ names) r.body r.of_body y)

  pub some_mentions-named : (ts : PlainTerms) (known : List PlainDef) (names : Names) (ss : List PlainSort) → least_sorts known names ts ≡ Ok ss
      → (y : List ℕ) → some_mentions y ts ≡ true → is_named y names ≡ true
  some_mentions-named no_term known names ss p y m = cc
  some_mentions-named (term t ts) known names ss p y m =
      let r = bind_ok (least_sort known names t) (λ s. least_sorts known names ts >>= λ us. Ok (s ∷ us)) ss p in
      let q = bind_ok (least_sorts known names ts) (λ us. Ok (r.0 ∷ us)) ss r.2 in
      either (mentions y t) (some_mentions y ts) (is_named y names) m (mentions-named t known names r.0 r.1 y) (some_mentions-named ts known names q.0 q.1 y)

-- a sorted term has the same value in environments that agree on its scope
pub eval-in_scope : (calls : Calls) (known : List PlainDef) (names : Names) (t : PlainTerm) (s : PlainSort) (env env' : Env) → least_sort known names t ≡ Ok s
    → ((y : List ℕ) → is_named y names ≡ true → value_at y env ≡ value_at y env') → eval calls env t ≡ eval calls env' t
eval-in_scope calls known names t s env env' p agree = eval-agree calls t env env' (λ y m. agree y (mentions-named t known names s p y m))

-- a name of the scope is another than one that is not of it
pub names-differ : (y w : List ℕ) (names : Names) → is_named y names ≡ true → is_named w names ≡ false → same_name y w ≡ false
names-differ y w names inside outside = by (same_name y w) refl
  where
    by : (c : Bool) → same_name y w ≡ c → c ≡ false
    by true e = let there : is_named w names ≡ true = subst (λ z. is_named z names ≡ true) (same_name-true y w e) inside in cc
    by false e = refl
