-- A term without free names has one value.
use Rattle.std.proofs.Common.{◌≡◌, ℕ, Bool, true, false, List, [], ◌∷◌, refl, sym, ap, ◌∙◌}
use Rattle.std.specs.Prelude.{not, ◌&&◌, ◌||◌}
use Rattle.kid_value.specs.NameSet.{is_among}
use Rattle.kid_term.specs.PlainTerm.{PlainTerm, var, number, truth, tag, app, bind, PlainTerms, no_term, term}
use Rattle.kid_term.specs.Names.{same_name}
use Rattle.kid_term.specs.Eval.{Env, Calls, eval}
use Rattle.kid_term.specs.Substitution.{mentions, some_mentions}
use Rattle.kid_term.specs.Closed.{is_over, all_over, is_closed}
use Rattle.kid_term.proofs.EvalLemmas.{same_name-itself, same_name-true, eval-agree}

both : (b c : Bool) → b ≡ true → c ≡ true → (b && c) ≡ true
both b c p q = rw (p, q) refl

parts : (b c : Bool) → (b && c) ≡ true → (b ≡ true) × (c ≡ true)
parts true c p = (refl, p)
parts false c p = cc

or_left : (b c : Bool) → b ≡ true → (b || c) ≡ true
or_left b c p = rw p refl

or_right : (b c : Bool) → c ≡ true → (b || c) ≡ true
or_right true c p = refl
or_right false c p = p

-- the free names of a term over names are among them
module _ (x : List ℕ) where
  mutual
    over : (t : PlainTerm) (ys : List (List ℕ)) → is_over ys t ≡ true → mentions x t ≡ true → is_among x ys ≡ true
    over (var y) ys p m = ap (λ z. is_among z ys) (same_name-true x y m) ∙ p
    over (number n) ys p m = cc
    over (truth b) ys p m = cc
    over (tag n) ys p m = cc
    over (app h ts) ys p m = over_all ts ys p m
    over (bind b y s t) ys p m =
        let r = parts (is_over ys s) (is_over (y ∷ ys) t) p in
        by (mentions x s) (same_name x y) m (λ q. over s ys r.0 q) (λ q. over t (y ∷ ys) r.1 q) refl refl
      where
        by : (c d : Bool) → (c || (not d && mentions x t)) ≡ true → (mentions x s ≡ true → is_among x ys ≡ true) → (mentions x t ≡ true → (same_name x y || is_among x ys) ≡ true)
            → mentions x s ≡ c → same_name x y ≡ d → is_among x ys ≡ true
        by true d q f g e h = f e
        by false true q f g e h = cc
        by false false q f g e h = rw h at (g q)

    over_all : (ts : PlainTerms) (ys : List (List ℕ)) → all_over ys ts ≡ true → some_mentions x ts ≡ true → is_among x ys ≡ true
    over_all no_term ys p m = cc
    over_all (term t ts) ys p m =
        let r = parts (is_over ys t) (all_over ys ts) p in
        by (mentions x t) refl m (over t ys r.0) (over_all ts ys r.1)
      where
        by : (c : Bool) → mentions x t ≡ c → (c || some_mentions x ts) ≡ true → (mentions x t ≡ true → is_among x ys ≡ true) → (some_mentions x ts ≡ true → is_among x ys ≡ true) → is_among x ys ≡ true
        by true e q f g = f e
        by false e q f g = g q

-- a term is over names among which all its free names are
mutual
  all_among : (t : PlainTerm) (ys : List (List ℕ)) → ((x : List ℕ) → mentions x t ≡ true → is_among x ys ≡ true) → is_over ys t ≡ true
  all_among (var y) ys h = h y (same_name-itself y)
  all_among (number n) ys h = refl
  all_among (truth b) ys h = refl
  all_among (tag n) ys h = refl
  all_among (app g ts) ys h = all_among_in ts ys h
  all_among (bind b y s t) ys h =
      both (is_over ys s) (is_over (y ∷ ys) t) (all_among s ys (λ x m. h x (or_left (mentions x s) _ m)))
      (all_among t (y ∷ ys) (λ x m. by x m (same_name x y) refl))
    where
      by : (x : List ℕ) → mentions x t ≡ true → (c : Bool) → same_name x y ≡ c → (c || is_among x ys) ≡ true
      by x m true e = refl
      by x m false e = h x (or_right (mentions x s) _ (rw (e, m) refl))

  all_among_in : (ts : PlainTerms) (ys : List (List ℕ)) → ((x : List ℕ) → some_mentions x ts ≡ true → is_among x ys ≡ true) → all_over ys ts ≡ true
  all_among_in no_term ys h = refl
  all_among_in (term t ts) ys h =
      both (is_over ys t) (all_over ys ts) (all_among t ys (λ x m. h x (or_left (mentions x t) _ m))) (all_among_in ts ys (λ x m. h x (or_right (mentions x t) _ m)))

not_true : (b : Bool) → (b ≡ true → false ≡ true) → b ≡ false
not_true true f = sym (f refl)
not_true false f = refl

pub closed-unmentioned : (t : PlainTerm) → is_closed t ≡ true → (x : List ℕ) → mentions x t ≡ false
closed-unmentioned t p x = not_true (mentions x t) (over x t [] p)

pub unmentioned-closed : (t : PlainTerm) → ((x : List ℕ) → mentions x t ≡ false) → is_closed t ≡ true
unmentioned-closed t h = all_among t [] (λ x m. sym (h x) ∙ m)

pub eval-closed : (calls : Calls) (env env' : Env) (t : PlainTerm) → is_closed t ≡ true → eval calls env t ≡ eval calls env' t
eval-closed calls env env' t p = eval-agree calls t env env' (λ x m. let n = closed-unmentioned t p x in cc)
