-- Where a term's evaluation stays small, so does that of its parts.
use Rattle.std.proofs.Common.{◌≡◌, ◌≢◌, ℕ, ◌<◌, zero, suc, true, false, List, [], ◌∷◌, map, length, drop, get_or, refl, sym, ap, ◌∙◌, arith}
use Rattle.std.specs.Prelude.{◌&&◌}
use Rattle.std.specs.List.{list_all}
use Rattle.kid_value.specs.PlainValue.{bool}
use Rattle.kid_value.specs.PlainSort.{PlainSort}
use Rattle.kid_value.specs.Rows.Parts.{members_of}
use Rattle.kid_value.proofs.SortLemmas.{and_parts}
use Rattle.kid_term.specs.PlainTerm.{op, PlainTerm, app, bind, PlainTerms, term_row}
use Rattle.kid_term.specs.TermView.{plain_term}
use Rattle.kid_term.specs.Eval.{Env, Calls, op_value, cast_value, eval, evals}
use Rattle.kid_term.specs.Small.{Checks, is_small, op_small, binder_small, stays_small, all_stay_small}
use Rattle.kid_term.specs.Cost.{Costs, cost, cost_all}
use Rattle.kid_term.specs.declared.operator.Op.{Op}
use Rattle.kid_term.specs.declared.operator.Binder.{Binder}
use Rattle.kid_term.specs.declared.Term.{Term}

module _ (calls : Calls) (checks : Checks) (env : Env) where
  pub record SmallBind (b : Binder) (x : List ℕ) (s t : PlainTerm) : Type 0 where
    pub set : stays_small calls checks env s ≡ true
    pub each : list_all (λ v. stays_small calls checks ((x, v) ∷ env) t) (members_of (eval calls env s)) ≡ true
    pub sums : binder_small b (members_of (eval calls env s)) (λ v. eval calls ((x, v) ∷ env) t) ≡ true

  pub small_bind : (b : Binder) (x : List ℕ) (s t : PlainTerm) → stays_small calls checks env (bind b x s t) ≡ true → SmallBind b x s t
  small_bind b x s t p =
      let q = and_parts _ (binder_small b (members_of (eval calls env s)) (λ v. eval calls ((x, v) ∷ env) t)) p in
      let r = and_parts (stays_small calls checks env s) (list_all (λ v. stays_small calls checks ((x, v) ∷ env) t) (members_of (eval calls env s))) q.0 in
      record { set = r.0; each = r.1; sums = q.1 }

  -- what an operator gives
  pub small_op : (o : Op) (ts : PlainTerms) → stays_small calls checks env (app (op o) ts) ≡ true → is_small (op_value o (evals calls env ts)) ≡ true
  small_op o ts p = (and_parts (all_stay_small calls checks env ts && op_small o (evals calls env ts)) (is_small (op_value o (evals calls env ts))) p).1

  -- the terms of an application
  small_terms : (o : Op) (ts us : List Term) → ts ≡ us → stays_small calls checks env (app (op o) (term_row (map plain_term ts))) ≡ true
      → (all_stay_small calls checks env (term_row (map plain_term us)) ≡ true)
      × (op_small o (evals calls env (term_row (map plain_term us))) ≡ true)
      × (is_small (op_value o (evals calls env (term_row (map plain_term us)))) ≡ true)
  small_terms o ts us e p =
      let row = term_row (map plain_term us) in
      let h : stays_small calls checks env (app (op o) row) ≡ true = ap (λ z. stays_small calls checks env (app (op o) (term_row (map plain_term z)))) (sym e) ∙ p in
      let q = and_parts (all_stay_small calls checks env row && op_small o (evals calls env row)) (is_small (op_value o (evals calls env row))) h in
      let r = and_parts (all_stay_small calls checks env row) (op_small o (evals calls env row)) q.0 in
      (r.0, r.1, q.1)

  pub record SmallOne (o : Op) (a : Term) : Type 0 where
    pub part : stays_small calls checks env (plain_term a) ≡ true
    pub sums : op_small o (eval calls env (plain_term a) ∷ []) ≡ true
    pub small : is_small (op_value o (eval calls env (plain_term a) ∷ [])) ≡ true

  pub small_one : (o : Op) (ts : List Term) (a : Term) → ts ≡ a ∷ [] → stays_small calls checks env (app (op o) (term_row (map plain_term ts))) ≡ true → SmallOne o a
  small_one o ts a e p =
      let h = small_terms o ts (a ∷ []) e p in
      record { part = (and_parts (stays_small calls checks env (plain_term a)) true h.0).0; sums = h.1; small = h.2 }

  pub record SmallTwo (o : Op) (a b : Term) : Type 0 where
    pub first : stays_small calls checks env (plain_term a) ≡ true
    pub second : stays_small calls checks env (plain_term b) ≡ true
    pub sums : op_small o (eval calls env (plain_term a) ∷ eval calls env (plain_term b) ∷ []) ≡ true
    pub small : is_small (op_value o (eval calls env (plain_term a) ∷ eval calls env (plain_term b) ∷ [])) ≡ true

  pub small_two : (o : Op) (ts : List Term) (a b : Term) → ts ≡ a ∷ b ∷ [] → stays_small calls checks env (app (op o) (term_row (map plain_term ts))) ≡ true → SmallTwo o a b
  small_two o ts a b e p =
      let h = small_terms o ts (a ∷ b ∷ []) e p in
      let q = and_parts (stays_small calls checks env (plain_term a)) (stays_small calls checks env (plain_term b) && true) h.0 in
      record { first = q.0; second = (and_parts (stays_small calls checks env (plain_term b)) true q.1).0; sums = h.1; small = h.2 }

  pub record SmallThree (t a b : Term) : Type 0 where
    pub test : stays_small calls checks env (plain_term t) ≡ true
    pub first : stays_small calls checks env (plain_term a) ≡ true
    pub second : stays_small calls checks env (plain_term b) ≡ true

  pub small_three : (o : Op) (ts : List Term) (t a b : Term) → ts ≡ t ∷ a ∷ b ∷ [] → stays_small calls checks env (app (op o) (term_row (map plain_term ts))) ≡ true → SmallThree t a b
  small_three o ts t a b e p =
      let h = small_terms o ts (t ∷ a ∷ b ∷ []) e p in
      let q = and_parts (stays_small calls checks env (plain_term t)) (stays_small calls checks env (plain_term a) && (stays_small calls checks env (plain_term b) && true)) h.0 in
      let r = and_parts (stays_small calls checks env (plain_term a)) (stays_small calls checks env (plain_term b) && true) q.1 in
      record { test = q.0; first = r.0; second = (and_parts (stays_small calls checks env (plain_term b)) true r.1).0 }

  -- the first of the terms that are left
  pub small_at : (ts : List Term) (i : ℕ) (t : Term) → i < length ts → t ≡ get_or ts i t → all_stay_small calls checks env (term_row (map plain_term (drop i ts))) ≡ true
      → stays_small calls checks env (plain_term t) ≡ true
  small_at [] i t p q h = absurd (omega arith)
  small_at (u ∷ ts) zero t p q h = let e = and_parts (stays_small calls checks env (plain_term u)) _ h in ap (λ z. stays_small calls checks env (plain_term z)) q ∙ e.0
  small_at (u ∷ ts) (suc i) t p q h = small_at ts i t (omega arith) q h

-- what is cast is one term
pub cast_many : (calls : Calls) (env : Env) (s : PlainSort) (ts : List Term) → length ts ≢ 1 → cast_value s (evals calls env (term_row (map plain_term ts))) ≡ bool false
cast_many calls env s [] h = refl
cast_many calls env s (a ∷ []) h = absurd (h refl)
cast_many calls env s (a ∷ b ∷ ts) h = refl

-- a term costs less than all
pub cost-lt-all : (costs : Costs) (ts : List Term) (i : ℕ) (t : Term) → i < length ts → t ≡ get_or ts i t → cost costs (plain_term t) < cost_all costs (term_row (map plain_term ts))
cost-lt-all costs [] i t p q = absurd (omega arith)
cost-lt-all costs (u ∷ ts) zero t p q = let e : cost costs (plain_term t) ≡ cost costs (plain_term u) = ap (λ x. cost costs (plain_term x)) q in omega arith
cost-lt-all costs (u ∷ ts) (suc i) t p q = let h : cost costs (plain_term t) < cost_all costs (term_row (map plain_term ts)) = cost-lt-all costs ts i t (omega arith) q in omega arith
