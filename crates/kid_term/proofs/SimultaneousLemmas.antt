-- A term with terms in the places of names has the value that it has where the names have those terms' values.
use Rattle.std.proofs.Common.{◌≡◌, ℕ, Bool, true, false, Some, None, List, [], ◌∷◌, ◌++◌, refl, sym, ap, ◌∙◌, cond, subst, map}
use Rattle.std.specs.Prelude.{not, ◌&&◌, ◌||◌}
use Rattle.std.specs.List.{list_any}
use Rattle.kid_value.specs.PlainValue.{PlainValue}
use Rattle.kid_value.specs.Rows.Parts.{members_of}
use Rattle.kid_term.specs.PlainTerm.{PlainTerm, var, number, truth, tag, app, bind, PlainTerms, no_term, term, term_row}
use Rattle.kid_term.specs.TermView.{plain_term}
use Rattle.kid_term.specs.declared.Term.{Term}
use Rattle.kid_term.specs.Names.{same_name}
use Rattle.kid_term.specs.Eval.{Env, Calls, value_at, head_value, binder_value, eval, evals}
use Rattle.kid_term.specs.Substitution.{mentions, some_mentions, replaced, replaced_in, captures, some_capture}
use Rattle.kid_term.specs.Simultaneous.{Subst, term_at, or_itself, term_for, substituted, all_substituted, captures_any, values_of}
use Rattle.kid_term.proofs.EvalLemmas.{same_name-itself, same_name-true, same_name-comm, or_none, eval-agree}

or_left : (b c : Bool) → b ≡ true → (b || c) ≡ true
or_left b c p = rw p refl

or_right : (b c : Bool) → c ≡ true → (b || c) ≡ true
or_right true c p = refl
or_right false c p = p

neither : (b c : Bool) → b ≡ false → c ≡ false → (b || c) ≡ false
neither b c p q = rw (p, q) refl

not_first : (b c : Bool) → (b && c) ≡ false → c ≡ true → b ≡ false
not_first true c p q = cc
not_first false c p q = refl

-- a name in its own place is not captured
mutual
  pub captures-itself : (x : List ℕ) (t : PlainTerm) → captures x (var x) t ≡ false
  captures-itself x (var y) = refl
  captures-itself x (number n) = refl
  captures-itself x (truth b) = refl
  captures-itself x (tag n) = refl
  captures-itself x (app h ts) = some_capture-itself x ts
  captures-itself x (bind b y s t) = by (same_name x y) refl (captures-itself x s) (captures-itself x t)
    where
      by : (c : Bool) → same_name x y ≡ c → captures x (var x) s ≡ false → captures x (var x) t ≡ false
          → (captures x (var x) s || (not c && ((same_name y x && mentions x t) || captures x (var x) t))) ≡ false
      by true e p q = neither (captures x (var x) s) false p refl
      by false e p q =
          neither (captures x (var x) s) _ p (neither (same_name y x && mentions x t) (captures x (var x) t) (ap (λ b. b && mentions x t) (same_name-comm y x ∙ e)) q)

  some_capture-itself : (x : List ℕ) (ts : PlainTerms) → some_capture x (var x) ts ≡ false
  some_capture-itself x no_term = refl
  some_capture-itself x (term t ts) = neither (captures x (var x) t) (some_capture x (var x) ts) (captures-itself x t) (some_capture-itself x ts)

-- no name's term is captured in its places
abbrev Fits : Subst → PlainTerm → Type 0
Fits σ t = (x : List ℕ) → captures x (term_for x σ) t ≡ false

pub fits : (σ : Subst) (t : PlainTerm) → captures_any σ t ≡ false → Fits σ t
fits σ t p x = each σ p (λ n. ap (λ o. captures x (or_itself x o) t) n ∙ captures-itself x t)
  where
    each : (τ : Subst) → list_any (λ e. captures e.0 (term_for e.0 σ) t) τ ≡ false → (term_at x τ ≡ None → captures x (term_for x σ) t ≡ false) → captures x (term_for x σ) t ≡ false
    each [] q k = k refl
    each (e ∷ τ) q k =
        let r = or_none (captures e.0 (term_for e.0 σ) t) (list_any (λ e. captures e.0 (term_for e.0 σ) t) τ) q in
        by (same_name x e.0) refl r.0 (each τ r.1)
      where
        by : (c : Bool) → same_name x e.0 ≡ c → captures e.0 (term_for e.0 σ) t ≡ false → ((term_at x τ ≡ None → captures x (term_for x σ) t ≡ false) → captures x (term_for x σ) t ≡ false) → captures x (term_for x σ) t ≡ false
        by true f h later = ap (λ z. captures z (term_for z σ) t) (same_name-true x e.0 f) ∙ h
        by false f h later = later (λ n. k (rw f n))

module _ (σ : Subst) (y : List ℕ) (t : PlainTerm) where
  -- what captures says of the body of a binder of another name
  apart : (x : List ℕ) (b : Bool) → same_name x y ≡ false → (b || (not (same_name x y) && ((mentions y (term_for x σ) && mentions x t) || captures x (term_for x σ) t))) ≡ false
      → ((mentions y (term_for x σ) && mentions x t) ≡ false) × (captures x (term_for x σ) t ≡ false)
  apart x b e p = or_none (mentions y (term_for x σ) && mentions x t) (captures x (term_for x σ) t) (rw e at (or_none b _ p).1)

  fits-below : (x : List ℕ) (b : Bool) → (b || (not (same_name x y) && ((mentions y (term_for x σ) && mentions x t) || captures x (term_for x σ) t))) ≡ false
      → captures x (term_for x ((y, var y) ∷ σ)) t ≡ false
  fits-below x b p = by (same_name x y) refl
    where
      by : (c : Bool) → same_name x y ≡ c → captures x (or_itself x (cond c (Some (var y)) (term_at x σ))) t ≡ false
      by true e = ap (λ z. captures x (var z) t) (sym (same_name-true x y e)) ∙ captures-itself x t
      by false e = (apart x b e p).1

module _ (calls : Calls) where
  -- a name that a term does not mention may have any value
  unmentioned : (y : List ℕ) (v : PlainValue) (env : Env) (t : PlainTerm) → mentions y t ≡ false → eval calls ((y, v) ∷ env) t ≡ eval calls env t
  unmentioned y v env t n = eval-agree calls t ((y, v) ∷ env) env (λ x m. by x m (same_name x y) refl)
    where
      by : (x : List ℕ) → mentions x t ≡ true → (c : Bool) → same_name x y ≡ c → value_at x ((y, v) ∷ env) ≡ value_at x env
      by x m true e = let r : mentions y t ≡ true = subst (λ z. mentions z t ≡ true) (same_name-true x y e) m in cc
      by x m false e = rw e refl

  -- below a binder, env' still has the values of the terms
  below : (σ : Subst) (env env' : Env) (y x : List ℕ) (v : PlainValue) (t : PlainTerm) → (same_name x y ≡ false → mentions y (term_for x σ) ≡ false)
      → (same_name x y ≡ false → eval calls env (term_for x σ) ≡ value_at x env')
      → eval calls ((y, v) ∷ env) (term_for x ((y, var y) ∷ σ)) ≡ value_at x ((y, v) ∷ env')
  below σ env env' y x v t free h = by (same_name x y) refl
    where
      by : (c : Bool) → same_name x y ≡ c → eval calls ((y, v) ∷ env) (or_itself x (cond c (Some (var y)) (term_at x σ))) ≡ cond c v (value_at x env')
      by true e = ap (λ c. cond c v (value_at y env)) (same_name-itself y)
      by false e = unmentioned y v env (term_for x σ) (free e) ∙ h e

  mutual
    pub eval-put : (t : PlainTerm) (σ : Subst) (env env' : Env) → Fits σ t → ((x : List ℕ) → mentions x t ≡ true → eval calls env (term_for x σ) ≡ value_at x env')
        → eval calls env (substituted σ t) ≡ eval calls env' t
    eval-put (var x) σ env env' f h = h x (same_name-itself x)
    eval-put (number n) σ env env' f h = refl
    eval-put (truth b) σ env env' f h = refl
    eval-put (tag n) σ env env' f h = refl
    eval-put (app g ts) σ env env' f h = ap (head_value calls g) (evals-put ts σ env env' f h)
    eval-put (bind b y s t) σ env env' f h =
        let e = eval-put s σ env env' (λ x. (or_none (captures x (term_for x σ) s) _ (f x)).0) (λ x m. h x (or_left (mentions x s) _ m)) in
        let g : (v : PlainValue) → eval calls ((y, v) ∷ env) (substituted ((y, var y) ∷ σ) t) ≡ eval calls ((y, v) ∷ env') t
        = λ v. eval-put t ((y, var y) ∷ σ) ((y, v) ∷ env) ((y, v) ∷ env') (λ x. fits-below σ y t x (captures x (term_for x σ) s) (f x))
        (λ x m. below σ env env' y x v t (λ n. not_first (mentions y (term_for x σ)) (mentions x t) (apart σ y t x (captures x (term_for x σ) s) n (f x)).0 m) (λ n. h x (or_right (mentions x s) _ (rw (n, m) refl)))) in
        λ i. binder_value b (members_of (e i)) (λ v. g v i)

    evals-put : (ts : PlainTerms) (σ : Subst) (env env' : Env) → ((x : List ℕ) → some_capture x (term_for x σ) ts ≡ false) → ((x : List ℕ) → some_mentions x ts ≡ true → eval calls env (term_for x σ) ≡ value_at x env')
        → evals calls env (all_substituted σ ts) ≡ evals calls env' ts
    evals-put no_term σ env env' f h = refl
    evals-put (term t ts) σ env env' f h =
        let e = eval-put t σ env env' (λ x. (or_none (captures x (term_for x σ) t) _ (f x)).0) (λ x m. h x (or_left (mentions x t) _ m)) in
        let g = evals-put ts σ env env' (λ x. (or_none (captures x (term_for x σ) t) _ (f x)).1) (λ x m. h x (or_right (mentions x t) _ m)) in
        λ i. e i ∷ g i

-- each name has its term's value in front of the environment
value_at-values_of : (calls : Calls) (env : Env) (σ : Subst) (x : List ℕ) → eval calls env (term_for x σ) ≡ value_at x (values_of calls env σ ++ env)
value_at-values_of calls env [] x = refl
value_at-values_of calls env (e ∷ σ) x = by (same_name x e.0) (value_at-values_of calls env σ x)
  where
    by : (c : Bool) → eval calls env (term_for x σ) ≡ value_at x (values_of calls env σ ++ env)
        → eval calls env (or_itself x (cond c (Some e.1) (term_at x σ))) ≡ cond c (eval calls env e.1) (value_at x (values_of calls env σ ++ env))
    by true h = refl
    by false h = h

pub eval-all : (calls : Calls) (env : Env) (σ : Subst) (t : PlainTerm) → captures_any σ t ≡ false → eval calls env (substituted σ t) ≡ eval calls (values_of calls env σ ++ env) t
eval-all calls env σ t p = eval-put calls t σ env (values_of calls env σ ++ env) (fits σ t p) (λ x m. value_at-values_of calls env σ x)

-- where each name has itself, nothing changes
mutual
  nothing_put : (t : PlainTerm) (σ : Subst) → ((x : List ℕ) → term_for x σ ≡ var x) → substituted σ t ≡ t
  nothing_put (var x) σ h = h x
  nothing_put (number n) σ h = refl
  nothing_put (truth b) σ h = refl
  nothing_put (tag n) σ h = refl
  nothing_put (app g ts) σ h = ap (app g) (none_put ts σ h)
  nothing_put (bind b y s t) σ h =
      let e = nothing_put s σ h in
      let f = nothing_put t ((y, var y) ∷ σ) (λ x. by x (same_name x y) refl) in
      λ i. bind b y (e i) (f i)
    where
      by : (x : List ℕ) (c : Bool) → same_name x y ≡ c → or_itself x (cond c (Some (var y)) (term_at x σ)) ≡ var x
      by x true e = ap var (sym (same_name-true x y e))
      by x false e = h x

  none_put : (ts : PlainTerms) (σ : Subst) → ((x : List ℕ) → term_for x σ ≡ var x) → all_substituted σ ts ≡ ts
  none_put no_term σ h = refl
  none_put (term t ts) σ h = let e = nothing_put t σ h in let f = none_put ts σ h in λ i. term (e i) (f i)

-- one name with its term
module _ (x : List ℕ) (new : PlainTerm) where
  -- each other name has itself
  abbrev Only : Subst → Type 0
  Only σ = (z : List ℕ) → term_for z σ ≡ cond (same_name x z) new (var z)

  mutual
    one_put : (t : PlainTerm) (σ : Subst) → Only σ → substituted σ t ≡ replaced x new t
    one_put (var y) σ h = h y
    one_put (number n) σ h = refl
    one_put (truth b) σ h = refl
    one_put (tag n) σ h = refl
    one_put (app g ts) σ h = ap (app g) (one_put_in ts σ h)
    one_put (bind b y s t) σ h =
        let e = one_put s σ h in
        let f = in_body (same_name x y) refl (one_put t ((y, var y) ∷ σ)) in
        λ i. bind b y (e i) (f i)
      where
        in_body : (c : Bool) → same_name x y ≡ c → (Only ((y, var y) ∷ σ) → substituted ((y, var y) ∷ σ) t ≡ replaced x new t) → substituted ((y, var y) ∷ σ) t ≡ cond c t (replaced x new t)
        in_body true e later = nothing_put t ((y, var y) ∷ σ) (λ z. by z (same_name z y) refl)
          where
            by : (z : List ℕ) (d : Bool) → same_name z y ≡ d → or_itself z (cond d (Some (var y)) (term_at z σ)) ≡ var z
            by z true f = ap var (sym (same_name-true z y f))
            by z false f = h z ∙ ap (λ c. cond c new (var z)) (ap (λ w. same_name w z) (same_name-true x y e) ∙ same_name-comm y z ∙ f)
        in_body false e later = later (λ z. by z (same_name z y) refl)
          where
            by : (z : List ℕ) (d : Bool) → same_name z y ≡ d → or_itself z (cond d (Some (var y)) (term_at z σ)) ≡ cond (same_name x z) new (var z)
            by z true f =
                let g : y ≡ z = sym (same_name-true z y f) in
                ap var g ∙ sym (ap (λ c. cond c new (var z)) (ap (same_name x) (sym g) ∙ e))
            by z false f = h z

    one_put_in : (ts : PlainTerms) (σ : Subst) → Only σ → all_substituted σ ts ≡ replaced_in x new ts
    one_put_in no_term σ h = refl
    one_put_in (term t ts) σ h = let e = one_put t σ h in let f = one_put_in ts σ h in λ i. term (e i) (f i)

  pub substituted-one : (t : PlainTerm) → substituted ((x, new) ∷ []) t ≡ replaced x new t
  substituted-one t = one_put t ((x, new) ∷ []) (λ z. only z (same_name z x) (same_name x z) (same_name-comm z x))
    where
      only : (z : List ℕ) (c d : Bool) → c ≡ d → or_itself z (cond c (Some new) None) ≡ cond d new (var z)
      only z true true e = refl
      only z false false e = refl
      only z c d e = cc

  pub captures_any-one : (t : PlainTerm) → captures_any ((x, new) ∷ []) t ≡ captures x new t
  captures_any-one t = rw (same_name-itself x) (or_false (captures x new t))
    where
      or_false : (b : Bool) → (b || false) ≡ b
      or_false true = refl
      or_false false = refl

  -- where env' has new's value at x, and what env has at each other name
  pub eval-replaced : (calls : Calls) (t : PlainTerm) (env env' : Env) → captures x new t ≡ false
      → ((y : List ℕ) → mentions y t ≡ true → same_name x y ≡ false → value_at y env ≡ value_at y env')
      → (mentions x t ≡ true → value_at x env' ≡ eval calls env new)
      → eval calls env (replaced x new t) ≡ eval calls env' t
  eval-replaced calls t env env' p h k =
      sym (ap (eval calls env) (substituted-one t))
      ∙ eval-put calls t ((x, new) ∷ []) env env' (fits ((x, new) ∷ []) t (captures_any-one t ∙ p)) (λ z m. at z m (same_name z x) refl)
    where
      at : (z : List ℕ) → mentions z t ≡ true → (c : Bool) → same_name z x ≡ c → eval calls env (or_itself z (cond c (Some new) None)) ≡ value_at z env'
      at z m true e = let f : z ≡ x = same_name-true z x e in sym (k (subst (λ w. mentions w t ≡ true) f m)) ∙ ap (λ w. value_at w env') (sym f)
      at z m false e = h z m (same_name-comm x z ∙ e)

-- the new term in a name's place has the value that the old one has where the name has the new term's value
pub eval-substituted : (calls : Calls) (env : Env) (x : List ℕ) (new t : PlainTerm) → captures x new t ≡ false → eval calls env (replaced x new t) ≡ eval calls ((x, eval calls env new) ∷ env) t
eval-substituted calls env x new t p =
    eval-replaced x new calls t env ((x, eval calls env new) ∷ env) p
    (λ y m q. let e : same_name y x ≡ false = same_name-comm y x ∙ q in rw e refl) (λ m. rw (same_name-itself x) refl)

-- the terms of a list with the terms put in
pub all_substituted-row : (σ : Subst) (ts : List Term) → term_row (map (λ t. substituted σ (plain_term t)) ts) ≡ all_substituted σ (term_row (map plain_term ts))
all_substituted-row σ [] = refl
all_substituted-row σ (t ∷ ts) = ap (term (substituted σ (plain_term t))) (all_substituted-row σ ts)
