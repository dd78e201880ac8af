-- Both sides of each rule have one value, where the values at hand are of the kinds that are asked for.
use Rattle.std.proofs.Common.{◌≡◌, ℕ, ℤ, Bool, true, false, List, ◌∷◌, refl, sym, ap, ◌∙◌, subst, map}
use Rattle.std.specs.Prelude.{◌+ℤ◌, not, ◌&&◌, ◌||◌, filter}
use Rattle.std.specs.List.{list_all, list_any}
use Rattle.kid_value.specs.PlainValue.{PlainValue, int, bool, set, items}
use Rattle.kid_value.specs.ValueSet as sets
use Rattle.kid_value.specs.ValueSet.{value_eq, is_member, is_subset, put, set_of}
use Rattle.kid_value.specs.Rows.Parts.{truth_of, number_of, members_of, total}
use Rattle.kid_value.specs.Rows.Logic as logic
use Rattle.kid_value.specs.Rows.Number as num
use Rattle.kid_value.specs.Rows.Set as row
use Rattle.kid_value.proofs.MemberLemmas.{list_all-member}
use Rattle.kid_value.proofs.RowLemmas.{items_row}
use Rattle.kid_value.proofs.ValueSetLaws.{is_member-filter}
use Rattle.kid_term.specs.PlainTerm.{PlainTerm, var, truth, bind}
use Rattle.kid_term.specs.Names.{same_name}
use Rattle.kid_term.specs.Eval.{Env, Calls, value_at, eval}
use Rattle.kid_term.specs.Substitution.{mentions, replaced, captures}
use Rattle.kid_term.specs.declared.operator.Op.TheVariants.{Set}
use Rattle.kid_term.specs.declared.operator.SetOp.TheVariants as set_op
use Rattle.kid_term.specs.declared.operator.Binder.TheVariants as binder
use Rattle.kid_term.proofs.EvalLemmas.{same_name-itself, same_name-true, same_name-comm, eval-agree}
use Rattle.kid_term.proofs.SimultaneousLemmas.{eval-replaced, eval-substituted}
use Rattle.kid_binders.specs.Shapes.{one, two, negated, conjunction, disjunction, implication, equation, sum_of, member, subset, union, all, some, image, sumof}
use Rattle.kid_binders.specs.Meaning.{is_bool, is_int, is_set}
use Rattle.kid_binders.proofs.MemberLemmas.{list_all-union, list_any-union, total-map-put, list_all-same, list_all-subset, absorbed, list_all-both, list_any-not, list_all-true, list_all-swap, list_all-filter, is_member-image}

-- what rows give of values of their kinds
union_members : (v w : PlainValue) → is_set v ≡ true → is_set w ≡ true → members_of (row.union v w) ≡ sets.union (members_of v) (members_of w)
union_members (set vs) (set ws) h k = items_row (sets.union (items vs) (items ws))
union_members v w h k = cc

pub with_members : (x v : PlainValue) → is_set v ≡ true → members_of (row.with x v) ≡ put x (members_of v)
with_members x (set vs) h = items_row (put x (items vs))
with_members x v h = cc

subset_members : (v w : PlainValue) → truth_of (row.subset v w) ≡ true → is_subset (members_of v) (members_of w) ≡ true
subset_members (set vs) (set ws) h = h
subset_members v w h = cc

member_is : (x v : PlainValue) → row.member x v ≡ bool (is_member x (members_of v))
member_is x (set vs) = refl
member_is x v = refl

truth_and : (v w : PlainValue) → truth_of (logic.and v w) ≡ (truth_of v && truth_of w)
truth_and (bool true) (bool q) = refl
truth_and (bool false) (bool q) = refl
truth_and (bool true) w = refl
truth_and (bool false) w = refl
truth_and v w = refl

and_left : (b : Bool) (w : PlainValue) → logic.and (bool b) w ≡ bool (b && truth_of w)
and_left true (bool q) = refl
and_left false (bool q) = refl
and_left true w = refl
and_left false w = refl

and_right : (v : PlainValue) (c : Bool) → logic.and v (bool c) ≡ bool (truth_of v && c)
and_right (bool b) c = refl
and_right v c = refl

truth_not : (v : PlainValue) → is_bool v ≡ true → truth_of (logic.not v) ≡ not (truth_of v)
truth_not (bool b) h = refl
truth_not v h = cc

truth_implies : (v w : PlainValue) → is_bool v ≡ true → is_bool w ≡ true → truth_of (logic.implies v w) ≡ (not (truth_of v) || truth_of w)
truth_implies (bool b) (bool c) h k = refl
truth_implies v w h k = cc

only_all : (v : PlainValue) → is_bool v ≡ true → v ≡ bool (truth_of v && true)
only_all (bool true) h = refl
only_all (bool false) h = refl
only_all v h = cc

only_any : (v : PlainValue) → is_bool v ≡ true → v ≡ bool (truth_of v || false)
only_any (bool true) h = refl
only_any (bool false) h = refl
only_any v h = cc

add_right : (a : ℤ) (w : PlainValue) → is_int w ≡ true → num.add (int a) w ≡ int (a +ℤ number_of w)
add_right a (int n) h = refl
add_right a w h = cc

not_true : (b : Bool) → truth_of (logic.not (bool b)) ≡ true → b ≡ false
not_true true h = cc
not_true false h = refl

module _ (calls : Calls) where
  -- a name that does not stand free may have any value
  pub weaker : (env : Env) (x : List ℕ) (v : PlainValue) (t : PlainTerm) → mentions x t ≡ false → eval calls ((x, v) ∷ env) t ≡ eval calls env t
  weaker env x v t h = eval-agree calls t ((x, v) ∷ env) env (λ y m. by y m (same_name y x) refl)
    where
      by : (y : List ℕ) → mentions y t ≡ true → (c : Bool) → same_name y x ≡ c → value_at y ((x, v) ∷ env) ≡ value_at y env
      by y m true e = let r : mentions x t ≡ true = subst (λ z. mentions z t ≡ true) (same_name-true y x e) m in cc
      by y m false e = rw e refl

  -- two names may change places
  turned : (env : Env) (x y : List ℕ) (v w : PlainValue) (t : PlainTerm) → same_name x y ≡ false → eval calls ((y, w) ∷ (x, v) ∷ env) t ≡ eval calls ((x, v) ∷ (y, w) ∷ env) t
  turned env x y v w t h = eval-agree calls t ((y, w) ∷ (x, v) ∷ env) ((x, v) ∷ (y, w) ∷ env) (λ z m. by z (same_name z y) (same_name z x) refl refl)
    where
      by : (z : List ℕ) (c d : Bool) → same_name z y ≡ c → same_name z x ≡ d → value_at z ((y, w) ∷ (x, v) ∷ env) ≡ value_at z ((x, v) ∷ (y, w) ∷ env)
      by z true true e f = let r : same_name x y ≡ true = subst (λ u. same_name u y ≡ true) (same_name-true z x f) e in cc
      by z true false e f = rw (e, f) refl
      by z false true e f = rw (e, f) refl
      by z false false e f = rw (e, f) refl

module _ (calls : Calls) (env : Env) where
  pub b4_value : (x : List ℕ) (t p : PlainTerm) → captures x t p ≡ false → is_bool (eval calls ((x, eval calls env t) ∷ env) p) ≡ true
      → eval calls env (replaced x t p) ≡ eval calls env (all x (one (Set set_op.Set) t) p)
  b4_value x t p c h = eval-substituted calls env x t p c ∙ only_all (eval calls ((x, eval calls env t) ∷ env) p) h

  pub b5_value : (x : List ℕ) (t p : PlainTerm) → captures x t p ≡ false → is_bool (eval calls ((x, eval calls env t) ∷ env) p) ≡ true
      → eval calls env (replaced x t p) ≡ eval calls env (some x (one (Set set_op.Set) t) p)
  b5_value x t p c h = eval-substituted calls env x t p c ∙ only_any (eval calls ((x, eval calls env t) ∷ env) p) h

  pub b6_value : (x : List ℕ) (s t p : PlainTerm) → is_set (eval calls env s) ≡ true → is_set (eval calls env t) ≡ true
      → eval calls env (conjunction (all x s p) (all x t p)) ≡ eval calls env (all x (union s t) p)
  b6_value x s t p h k =
      let f : PlainValue → Bool = λ v. truth_of (eval calls ((x, v) ∷ env) p) in
      sym (ap (λ vs. bool (list_all f vs)) (union_members (eval calls env s) (eval calls env t) h k) ∙ ap bool (list_all-union f (members_of (eval calls env s)) (members_of (eval calls env t))))

  pub b7_value : (x : List ℕ) (s t p : PlainTerm) → is_set (eval calls env s) ≡ true → is_set (eval calls env t) ≡ true
      → eval calls env (disjunction (some x s p) (some x t p)) ≡ eval calls env (some x (union s t) p)
  b7_value x s t p h k =
      let f : PlainValue → Bool = λ v. truth_of (eval calls ((x, v) ∷ env) p) in
      sym (ap (λ vs. bool (list_any f vs)) (union_members (eval calls env s) (eval calls env t) h k) ∙ ap bool (list_any-union f (members_of (eval calls env s)) (members_of (eval calls env t))))

  pub b8_value : (x : List ℕ) (s p q : PlainTerm) → eval calls env (conjunction (all x s p) (all x s q)) ≡ eval calls env (all x s (conjunction p q))
  b8_value x s p q =
      let f : PlainValue → PlainValue = λ v. eval calls ((x, v) ∷ env) p in
      let g : PlainValue → PlainValue = λ v. eval calls ((x, v) ∷ env) q in
      let vs = members_of (eval calls env s) in
      sym ((λ i. bool (list_all (λ v. truth_and (f v) (g v) i) vs)) ∙ ap bool (list_all-both (λ v. truth_of (f v)) (λ v. truth_of (g v)) vs))

  pub b9_value : (x : List ℕ) (s p : PlainTerm) → ((v : PlainValue) → is_member v (members_of (eval calls env s)) ≡ true → is_bool (eval calls ((x, v) ∷ env) p) ≡ true)
      → eval calls env (negated (all x s (negated p))) ≡ eval calls env (some x s p)
  b9_value x s p h =
      let f : PlainValue → PlainValue = λ v. eval calls ((x, v) ∷ env) p in
      let vs = members_of (eval calls env s) in
      ap (λ b. bool (not b)) (list_all-same (λ v. truth_of (logic.not (f v))) (λ v. not (truth_of (f v))) vs (λ v m. truth_not (f v) (h v m))) ∙ ap bool (list_any-not (λ v. truth_of (f v)) vs)

  pub b10_value : (x y : List ℕ) (s t p : PlainTerm) → mentions x t ≡ false → mentions y s ≡ false → same_name x y ≡ false
      → eval calls env (all y t (all x s p)) ≡ eval calls env (all x s (all y t p))
  b10_value x y s t p h k n =
      (λ i. bool (list_all (λ w. list_all (λ v. truth_of (eval calls ((x, v) ∷ (y, w) ∷ env) p)) (members_of (weaker calls env y w s k i))) (members_of (eval calls env t))))
      ∙ ap bool (sym (list_all-swap (λ v w. truth_of (eval calls ((x, v) ∷ (y, w) ∷ env) p)) (members_of (eval calls env s)) (members_of (eval calls env t))))
      ∙ sym (λ i. bool (list_all (λ v. list_all (λ w. truth_of (turned calls env x y v w p n i)) (members_of (weaker calls env x v t h i))) (members_of (eval calls env s))))

  pub b11_value : (x : List ℕ) (s : PlainTerm) → bool true ≡ eval calls env (all x s (truth true))
  b11_value x s = ap bool (sym (list_all-true (members_of (eval calls env s))))

  pub b12_value : (x : List ℕ) (t s p : PlainTerm) → truth_of (eval calls env (subset t s)) ≡ true → eval calls env (conjunction (all x t p) (all x s p)) ≡ eval calls env (all x s p)
  b12_value x t s p h =
      let f : PlainValue → Bool = λ v. truth_of (eval calls ((x, v) ∷ env) p) in
      let ts = members_of (eval calls env t) in let vs = members_of (eval calls env s) in
      ap bool (absorbed (list_all f ts) (list_all f vs) (λ k. list_all-subset f ts vs (subset_members (eval calls env t) (eval calls env s) h) k))

  pub b13_value : (x : List ℕ) (y s p : PlainTerm) → captures x y p ≡ false → eval calls env (conjunction (member y s) (replaced x y p)) ≡ eval calls env (member y (bind binder.SetOf x s p))
  b13_value x y s p c =
      let f : PlainValue → Bool = λ v. truth_of (eval calls ((x, v) ∷ env) p) in
      let w = eval calls env y in let vs = members_of (eval calls env s) in
      (λ i. logic.and (member_is w (eval calls env s) i) (eval-substituted calls env x y p c i))
      ∙ and_left (is_member w vs) (eval calls ((x, w) ∷ env) p)
      ∙ ap bool (sym (ap (is_member w) (items_row (filter f vs)) ∙ is_member-filter f w vs))

  -- the body of the inner binder, under the outer one's name
  inner : (x y : List ℕ) (q : PlainTerm) (v : PlainValue) → captures y (var x) q ≡ false → (mentions x q && not (same_name x y)) ≡ false
      → eval calls ((x, v) ∷ env) (replaced y (var x) q) ≡ eval calls ((y, v) ∷ env) q
  inner x y q v c h =
      eval-replaced y (var x) calls q ((x, v) ∷ env) ((y, v) ∷ env) c (λ z m n. by z m n (same_name z x) refl) (λ m. rw (same_name-itself x, same_name-itself y) refl)
    where
      by : (z : List ℕ) → mentions z q ≡ true → same_name y z ≡ false → (d : Bool) → same_name z x ≡ d → value_at z ((x, v) ∷ env) ≡ value_at z ((y, v) ∷ env)
      by z m n true e =
          let k : z ≡ x = same_name-true z x e in
          let f : mentions x q ≡ true = subst (λ u. mentions u q ≡ true) k m in
          let g : same_name x y ≡ false = subst (λ u. same_name u y ≡ false) k (same_name-comm z y ∙ n) in
          let r : (true && not false) ≡ false = (λ i. sym f i && not (sym g i)) ∙ h in cc
      by z m n false e = let g : same_name z y ≡ false = same_name-comm z y ∙ n in rw (e, g) refl

  pub b14_value : (x y : List ℕ) (s q p : PlainTerm) → captures y (var x) q ≡ false → (mentions x q && not (same_name x y)) ≡ false
      → ((v : PlainValue) → is_member v (members_of (eval calls env s)) ≡ true → is_bool (eval calls ((y, v) ∷ env) q) ≡ true)
      → ((v : PlainValue) → is_member v (members_of (eval calls env s)) ≡ true → is_bool (eval calls ((x, v) ∷ env) p) ≡ true)
      → eval calls env (all x s (implication (replaced y (var x) q) p)) ≡ eval calls env (all x (bind binder.SetOf y s q) p)
  b14_value x y s q p c h hq hp =
      let f : PlainValue → PlainValue = λ v. eval calls ((x, v) ∷ env) p in
      let g : PlainValue → PlainValue = λ v. eval calls ((y, v) ∷ env) q in
      let vs = members_of (eval calls env s) in
      (λ i. bool (list_all (λ v. truth_of (logic.implies (inner x y q v c h i) (f v))) vs))
      ∙ ap bool (list_all-same (λ v. truth_of (logic.implies (g v) (f v))) (λ v. not (truth_of (g v)) || truth_of (f v)) vs (λ v m. truth_implies (g v) (f v) (hq v m) (hp v m)))
      ∙ ap bool (sym (list_all-filter (λ v. truth_of (f v)) (λ v. truth_of (g v)) vs))
      ∙ ap (λ ws. bool (list_all (λ v. truth_of (f v)) ws)) (sym (items_row (filter (λ v. truth_of (g v)) vs)))

  pub b16_value : (x : List ℕ) (t s a : PlainTerm) → captures x t a ≡ false → is_set (eval calls env s) ≡ true → is_int (eval calls ((x, eval calls env t) ∷ env) a) ≡ true
      → truth_of (eval calls env (negated (member t s))) ≡ true
      → eval calls env (sum_of (sumof x s a) (replaced x t a)) ≡ eval calls env (sumof x (two (Set set_op.With) t s) a)
  b16_value x t s a c h k m =
      let f : PlainValue → PlainValue = λ v. eval calls ((x, v) ∷ env) a in
      let w = eval calls env t in let vs = members_of (eval calls env s) in
      let out : is_member w vs ≡ false = not_true (is_member w vs) (ap (λ z. truth_of (logic.not z)) (sym (member_is w (eval calls env s))) ∙ m) in
      ap (λ z. num.add (int (total (map f vs))) z) (eval-substituted calls env x t a c)
      ∙ add_right (total (map f vs)) (f w) k
      ∙ ap int (sym (total-map-put f w vs out))
      ∙ ap (λ ws. int (total (map f ws))) (sym (with_members w (eval calls env s) h))

  pub b17_value : (x : List ℕ) (y s e : PlainTerm) → mentions x y ≡ false → eval calls env (some x s (equation y e)) ≡ eval calls env (member y (image x s e))
  b17_value x y s e h =
      let f : PlainValue → PlainValue = λ v. eval calls ((x, v) ∷ env) e in
      let vs = members_of (eval calls env s) in
      (λ i. bool (list_any (λ v. value_eq (weaker calls env x v y h i) (f v)) vs))
      ∙ ap bool (sym (ap (is_member (eval calls env y)) (items_row (set_of (map f vs))) ∙ is_member-image f (eval calls env y) vs))

  pub b18_value : (x : List ℕ) (t s p : PlainTerm) → captures x t p ≡ false → truth_of (eval calls env (member t s)) ≡ true
      → eval calls env (conjunction (replaced x t p) (all x s p)) ≡ eval calls env (all x s p)
  b18_value x t s p c m =
      let f : PlainValue → Bool = λ v. truth_of (eval calls ((x, v) ∷ env) p) in
      let w = eval calls env t in let vs = members_of (eval calls env s) in
      let there : is_member w vs ≡ true = ap truth_of (sym (member_is w (eval calls env s))) ∙ m in
      ap (λ z. logic.and z (bool (list_all f vs))) (eval-substituted calls env x t p c)
      ∙ and_right (eval calls ((x, w) ∷ env) p) (list_all f vs)
      ∙ ap bool (absorbed (f w) (list_all f vs) (λ k. list_all-member f w vs k there))
