-- The values of names and terms under more names, and kids that go over a pool.
use Rattle.std.proofs.Common.{◌≡◌, ℕ, Bool, true, false, cond, List, [], ◌∷◌, map, refl, sym, ap, ◌∙◌}
use Rattle.std.specs.List.{flat_map}
use Rattle.std.specs.Prelude.{◌&&◌, not}
use Rattle.kid_value.specs.PlainValue.{PlainValue}
use Rattle.kid_value.specs.ValueSet.{value_eq, is_member}
use Rattle.kid_term.specs.PlainTerm.{PlainTerm}
use Rattle.kid_term.specs.Names.{same_name}
use Rattle.kid_term.specs.Substitution.{mentions}
use Rattle.kid_term.specs.Eval.{Env, Calls, value_at, eval}
use Rattle.kid_term.proofs.EvalLemmas.{same_name-itself, same_name-true, eval-agree}
use Rattle.kid_search.specs.Space.{Descriptor}
use Rattle.kid_search.specs.Pieces.{lacks, are_apart}
use Rattle.kid_value.proofs.SortLemmas.{and_parts}
use Rattle.kid_search.proofs.BoolLemmas.{or_right, false_not}
use Rattle.kid_search.proofs.SetMeaning.{is_member-here}

-- the value of a name that stands first, and of one that stands later
pub found : (x : List ℕ) (v : PlainValue) (env : Env) → value_at x ((x, v) ∷ env) ≡ v
found x v env = ap (λ c. cond c v (value_at x env)) (same_name-itself x)

pub passed : (x y : List ℕ) (v : PlainValue) (env : Env) → same_name x y ≡ false → value_at x ((y, v) ∷ env) ≡ value_at x env
passed x y v env e = ap (λ c. cond c v (value_at x env)) e

-- a term that does not mention a name has the same value under it
pub unmentioned : (calls : Calls) (x : List ℕ) (v : PlainValue) (env : Env) (t : PlainTerm) → mentions x t ≡ false → eval calls ((x, v) ∷ env) t ≡ eval calls env t
unmentioned calls x v env t e = eval-agree calls t ((x, v) ∷ env) env (λ y m. by y m (same_name y x) refl)
  where
    by : (y : List ℕ) → mentions y t ≡ true → (c : Bool) → same_name y x ≡ c → cond c v (value_at y env) ≡ value_at y env
    by y m true f = let g : mentions x t ≡ true = ap (λ n. mentions n t) (sym (same_name-true y x f)) ∙ m in cc
    by y m false f = refl

-- one kid for each member of a pool
pub over_pool : {E : Type 0} (h : PlainValue → E) (f : E → Descriptor) (g : PlainValue → Descriptor) (xs : List PlainValue) → ((x : PlainValue) → is_member x xs ≡ true → f (h x) ≡ g x) → flat_map (λ e. f e ∷ []) (map h xs) ≡ map g xs
over_pool h f g [] k = refl
over_pool h f g (x ∷ xs) k = let e = k x (is_member-here x xs) in let r = over_pool h f g xs (λ y m. k y (or_right (value_eq y x) (is_member y xs) m)) in λ i. e i ∷ r i

-- values of another number than two sorts do not fit
pub no_fit : (f p q : Bool) → f ≡ false → (f && p) ≡ (f && q)
no_fit true p q e = cc
no_fit false p q e = refl

pub no_end : (x y : Bool) → (x && (y && false)) ≡ false
no_end true true = refl
no_end true false = refl
no_end false y = refl

-- the names of two components and of the output differ
pub record AreApart (u w z : List ℕ) : Type 0 where
  pub components : same_name w u ≡ false
  pub first : same_name u z ≡ false
  pub second : same_name w z ≡ false

pub apart : (u w z : List ℕ) → are_apart (z ∷ u ∷ w ∷ []) ≡ true → AreApart u w z
apart u w z e =
    let p = and_parts (not (same_name u z) && (not (same_name w z) && true)) ((not (same_name w u) && true) && true) e in
    let q = and_parts (not (same_name u z)) (not (same_name w z) && true) p.0 in
    let r = and_parts (not (same_name w u) && true) true p.1 in
    record {
      components = false_not (same_name w u) (and_parts (not (same_name w u)) true r.0).0;
      first = false_not (same_name u z) q.0;
      second = false_not (same_name w z) (and_parts (not (same_name w z)) true q.1).0;
    }

-- a term that lacks the output has its value at the input
pub lacks_one : (calls : Calls) (z : List ℕ) (v : PlainValue) (env : Env) (t : PlainTerm) → lacks t (z ∷ []) ≡ true → eval calls ((z, v) ∷ env) t ≡ eval calls env t
lacks_one calls z v env t e = unmentioned calls z v env t (false_not (mentions z t) (and_parts (not (mentions z t)) true e).0)

-- those of two components, of a branch and of the output differ
pub record AreSeparate (v w b z : List ℕ) : Type 0 where
  pub second_first : same_name w v ≡ false
  pub first_branch : same_name v b ≡ false
  pub second_branch : same_name w b ≡ false
  pub first_output : same_name v z ≡ false
  pub second_output : same_name w z ≡ false

pub separate : (v w b z : List ℕ) → are_apart (z ∷ b ∷ v ∷ w ∷ []) ≡ true → AreSeparate v w b z
separate v w b z e =
    let p = and_parts (not (same_name b z) && (not (same_name v z) && (not (same_name w z) && true))) (are_apart (b ∷ v ∷ w ∷ [])) e in
    let output = and_parts (not (same_name b z)) (not (same_name v z) && (not (same_name w z) && true)) p.0 in
    let after = and_parts (not (same_name v z)) (not (same_name w z) && true) output.1 in
    let q = and_parts (not (same_name v b) && (not (same_name w b) && true)) (are_apart (v ∷ w ∷ [])) p.1 in
    let branch = and_parts (not (same_name v b)) (not (same_name w b) && true) q.0 in
    let r = and_parts (not (same_name w v) && true) (are_apart (w ∷ [])) q.1 in
    record {
      second_first = false_not (same_name w v) (and_parts (not (same_name w v)) true r.0).0;
      first_branch = false_not (same_name v b) branch.0;
      second_branch = false_not (same_name w b) (and_parts (not (same_name w b)) true branch.1).0;
      first_output = false_not (same_name v z) after.0;
      second_output = false_not (same_name w z) (and_parts (not (same_name w z)) true after.1).0;
    }
