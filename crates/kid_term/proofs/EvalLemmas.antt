-- The value of a term depends on the values of its free names alone.
use Rattle.std.proofs.Common.{◌≡◌, ℕ, Bool, true, false, List, [], ◌∷◌, refl, ap, arith}
use Rattle.std.specs.Prelude.{not, ◌&&◌, ◌||◌, nat_eq}
use Rattle.std.proofs.lemmas.Bool.Decides.{nat_tests}
use Rattle.kid_value.specs.PlainValue.{PlainValue}
use Rattle.kid_value.specs.Rows.Parts.{members_of}
use Rattle.kid_value.proofs.NameLemmas.{bytes_itself, same_bytes}
use Rattle.kid_term.specs.PlainTerm.{PlainTerm, var, number, truth, tag, app, bind, PlainTerms, no_term, term}
use Rattle.kid_term.specs.Names.{same_name}
use Rattle.kid_term.specs.Eval.{Env, Calls, value_at, head_value, binder_value, eval, evals}
use Rattle.kid_term.specs.Substitution.{mentions, some_mentions}

pub same_name-itself : (x : List ℕ) → same_name x x ≡ true
same_name-itself x = bytes_itself x

pub or_none : (b c : Bool) → (b || c) ≡ false → (b ≡ false) × (c ≡ false)
or_none true c p = cc
or_none false c p = (refl, p)

or_left : (b c : Bool) → b ≡ true → (b || c) ≡ true
or_left b c p = rw p refl

or_right : (b c : Bool) → c ≡ true → (b || c) ≡ true
or_right true c p = refl
or_right false c p = p

pub same_name-true : (x y : List ℕ) → same_name x y ≡ true → x ≡ y
same_name-true x y p = same_bytes x y p

pub same_name-comm : (x y : List ℕ) → same_name x y ≡ same_name y x
same_name-comm [] [] = refl
same_name-comm [] (n ∷ y) = refl
same_name-comm (m ∷ x) [] = refl
same_name-comm (m ∷ x) (n ∷ y) = λ i. nat_eq-comm m n i && same_name-comm x y i
  where
    nat_eq-comm : (m n : ℕ) → nat_eq m n ≡ nat_eq n m
    nat_eq-comm m n = grind (arith, nat_tests)

-- where environments agree on the free names of a binder, they agree on those of its body, beside the binder's name
under : (x : List ℕ) (s t : PlainTerm) (env env' : Env) (v : PlainValue) (y : List ℕ) → mentions y t ≡ true
    → ((mentions y s || (not (same_name y x) && mentions y t)) ≡ true → value_at y env ≡ value_at y env')
    → (c : Bool) → same_name y x ≡ c → value_at y ((x, v) ∷ env) ≡ value_at y ((x, v) ∷ env')
under x s t env env' v y m h true e = rw e refl
under x s t env env' v y m h false e = rw e (h (or_right (mentions y s) _ (rw e m)))

module _ (calls : Calls) where
  mutual
    pub eval-agree : (t : PlainTerm) (env env' : Env) → ((y : List ℕ) → mentions y t ≡ true → value_at y env ≡ value_at y env') → eval calls env t ≡ eval calls env' t
    eval-agree (var x) env env' h = h x (same_name-itself x)
    eval-agree (number n) env env' h = refl
    eval-agree (truth b) env env' h = refl
    eval-agree (tag n) env env' h = refl
    eval-agree (app g ts) env env' h = ap (head_value calls g) (evals-agree ts env env' h)
    eval-agree (bind b x s t) env env' h =
        let e = eval-agree s env env' (λ y m. h y (or_left (mentions y s) (not (same_name y x) && mentions y t) m)) in
        let f : (v : PlainValue) → eval calls ((x, v) ∷ env) t ≡ eval calls ((x, v) ∷ env') t
        = λ v. eval-agree t ((x, v) ∷ env) ((x, v) ∷ env') (λ y m. under x s t env env' v y m (h y) (same_name y x) refl) in
        λ i. binder_value b (members_of (e i)) (λ v. f v i)

    pub evals-agree : (ts : PlainTerms) (env env' : Env) → ((y : List ℕ) → some_mentions y ts ≡ true → value_at y env ≡ value_at y env') → evals calls env ts ≡ evals calls env' ts
    evals-agree no_term env env' h = refl
    evals-agree (term t ts) env env' h =
        let e = eval-agree t env env' (λ y m. h y (or_left (mentions y t) (some_mentions y ts) m)) in
        let f = evals-agree ts env env' (λ y m. h y (or_right (mentions y t) (some_mentions y ts) m)) in
        λ i. e i ∷ f i
