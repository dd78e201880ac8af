-- The rules that are true where the old term has a sort: b4 to b7, b9, b10, b14 and b16. Back, b10 needs a sort of the new term too.
use Rattle.std.proofs.Common.{◌≡◌, ℕ, true, false, List, [], ◌∷◌, Ok, refl, sym, ap, ◌∙◌, subst}
use Rattle.std.specs.Prelude.{not, ◌&&◌, ◌||◌}
use Rattle.kid_value.specs.PlainValue.{PlainValue}
use Rattle.kid_value.specs.PlainSort.{PlainSort, bools, sets}
use Rattle.kid_value.specs.SortOrder.{join}
use Rattle.kid_value.specs.SortCount.{count_of}
use Rattle.kid_value.specs.ValueSet.{is_member}
use Rattle.kid_value.specs.Rows.Parts.{members_of}
use Rattle.kid_value.proofs.MemberLemmas.{is_member-first}
use Rattle.kid_value.proofs.SortLemmas.{and_parts}
use Rattle.kid_value.proofs.ValueSetLaws.{value_eq-itself, is_member-put}
use Rattle.kid_term.specs.PlainTerm.{PlainTerm, var, bind}
use Rattle.kid_term.specs.Names.{same_name, Names, is_named, PlainDef}
use Rattle.kid_term.specs.Eval.{Env, Calls, eval}
use Rattle.kid_term.specs.Small.{Checks}
use Rattle.kid_term.specs.Sorted.{allowed, with_set, with_join}
use Rattle.kid_term.specs.Sorting.{least_sort}
use Rattle.kid_term.specs.Fitting.{IsOfSort, AreAllowed, Fits}
use Rattle.kid_term.specs.Substitution.{mentions, replaced, captures}
use Rattle.kid_term.specs.declared.operator.Binder.{Binder}
use Rattle.kid_term.specs.declared.operator.Op.TheVariants as operator
use Rattle.kid_term.specs.declared.operator.LogicOp.TheVariants as logic
use Rattle.kid_term.specs.declared.operator.SetOp.TheVariants as set_op
use Rattle.kid_term.specs.declared.operator.Binder.TheVariants.{All, Some as AnyOf, SetOf, SumOf}
use Rattle.kid_term.proofs.EvalLemmas.{same_name-true, same_name-comm, or_none}
use Rattle.kid_term.proofs.Inversions.{ok, with_bool_ok, with_set_ok}
use Rattle.kid_term.proofs.SortedValue.{CallsFit, BinderSorts, binder_ok}
use Rattle.kid_binders.specs.Shapes.{one, two, negated, conjunction, disjunction, implication, sum_of, member, union, all, some, sumof, as_single, as_not, as_and, as_or, as_union, as_with}
use Rattle.kid_binders.specs.Meaning.{is_bool, is_set}
use Rattle.kid_binders.specs.Outcome.{PlainBound, made, made_if, with_put}
use Rattle.kid_binders.specs.Same.{same_term}
use Rattle.kid_binders.specs.Instances.{b4, b5, b16}
use Rattle.kid_binders.specs.Parted.{b6, both_all, b6_back, b7, both_some, b7_back}
use Rattle.kid_binders.specs.Bodies.{b9, none_not, b9_back, swapped, b10, swapped_back, b10_back}
use Rattle.kid_binders.specs.Gathered.{all_setof, b14}
use Rattle.kid_binders.proofs.SameLemmas.{same_term-true}
use Rattle.kid_binders.proofs.ShapeLemmas.{of_one_ok, of_two_ok, if_ok, unless_ok, made_ok, as_single_is, as_not_is, as_and_is, as_or_is, as_union_is, as_with_is}
use Rattle.kid_binders.proofs.SortedParts.{bool_kind, summed_kind, one_part, two_parts, new_name, not_in_scope, set_value, body_value}
use Rattle.kid_binders.proofs.Equations.{with_members, b4_value, b5_value, b6_value, b7_value, b9_value, b10_value, b14_value, b16_value}
use Rattle.kid_binders.proofs.FreeTruths.{Keeps, kept, kept_if}

module _ (known : List PlainDef) (calls : Calls) (checks : Checks) (fit : CallsFit known calls checks) (names : Names) (env : Env) (permitted : AreAllowed names) (fits : Fits names env) where
  abbrev pub IsSorted : PlainTerm → Type 0
  IsSorted t = (s : PlainSort) × (least_sort known names t ≡ Ok s)

  -- the body of a sorted binder over truth values
  bool_body : (b : Binder) (x : List ℕ) (u p : PlainTerm) (s : PlainSort) (r : BinderSorts known names b x u p s) → r.body ≡ bools
      → (v : PlainValue) → is_member v (members_of (eval calls env u)) ≡ true → is_bool (eval calls ((x, v) ∷ env) p) ≡ true
  bool_body b x u p s r e v m =
      bool_kind (eval calls ((x, v) ∷ env) p) (subst (λ z. IsOfSort z (eval calls ((x, v) ∷ env) p)) e (body_value known calls checks fit names env permitted fits b x u p s r v m))

  all_body : (x : List ℕ) (u p : PlainTerm) → IsSorted (all x u p) → (v : PlainValue) → is_member v (members_of (eval calls env u)) ≡ true → is_bool (eval calls ((x, v) ∷ env) p) ≡ true
  all_body x u p h = let r = binder_ok known names All x u p h.0 h.1 in bool_body All x u p h.0 r (with_bool_ok r.body (ok bools) h.0 r.made).0

  some_body : (x : List ℕ) (u p : PlainTerm) → IsSorted (some x u p) → (v : PlainValue) → is_member v (members_of (eval calls env u)) ≡ true → is_bool (eval calls ((x, v) ∷ env) p) ≡ true
  some_body x u p h = let r = binder_ok known names AnyOf x u p h.0 h.1 in bool_body AnyOf x u p h.0 r (with_bool_ok r.body (ok bools) h.0 r.made).0

  -- the set of a sorted binder
  binder_set : (b : Binder) (x : List ℕ) (u p : PlainTerm) → IsSorted (bind b x u p) → is_set (eval calls env u) ≡ true
  binder_set b x u p h = let r = binder_ok known names b x u p h.0 h.1 in set_value known calls checks fit names env permitted fits u r.element r.of_set

  -- both parts of a sorted union, and the set of a sorted with
  union_sets : (s t : PlainTerm) → IsSorted (union s t) → (is_set (eval calls env s) ≡ true) × (is_set (eval calls env t) ≡ true)
  union_sets s t h =
      let r = two_parts known names (operator.Set set_op.Union) s t h.0 h.1 in
      let q = with_set_ok r.0 (λ a. with_set r.1 (λ b. with_join (join a b) (λ e. allowed (sets e)))) h.0 r.4 in
      let w = with_set_ok r.1 (λ b. with_join (join q.0 b) (λ e. allowed (sets e))) h.0 q.2 in
      (set_value known calls checks fit names env permitted fits s q.0 (r.2 ∙ ap ok q.1), set_value known calls checks fit names env permitted fits t w.0 (r.3 ∙ ap ok w.1))

  with_set_of : (t s : PlainTerm) → IsSorted (two (operator.Set set_op.With) t s) → is_set (eval calls env s) ≡ true
  with_set_of t s h =
      let r = two_parts known names (operator.Set set_op.With) t s h.0 h.1 in
      let q = with_set_ok r.1 (λ a. with_join (join r.0 a) (λ e. allowed (sets e))) h.0 r.4 in
      set_value known calls checks fit names env permitted fits s q.0 (r.3 ∙ ap ok q.1)

  of_set : (b : Binder) (x : List ℕ) (u p : PlainTerm) → IsSorted (bind b x u p) → IsSorted u
  of_set b x u p h = let r = binder_ok known names b x u p h.0 h.1 in (sets r.element, r.of_set)

  pub b4_true : (t : PlainTerm) (b : PlainBound) → b4 t ≡ Ok b → IsSorted t → Keeps calls env t b
  b4_true (bind All x s p) b e h =
      let k = of_one_ok (as_single s) (λ t. with_put x t p made) b e in
      let m = unless_ok (captures x k.0 p) (made (replaced x k.0 p)) b k.2 in
      let f = as_single_is s k.0 k.1 in
      let g = all_body x (one (operator.Set set_op.Set) k.0) p (subst (λ z. IsSorted (all x z p)) f h) (eval calls env k.0) (is_member-first (eval calls env k.0) []) in
      kept calls env (replaced x k.0 p) (bind All x s p) b m.1 (b4_value calls env x k.0 p m.0 g ∙ ap (λ z. eval calls env (all x z p)) (sym f))
  b4_true t b e h = cc

  pub b5_true : (t : PlainTerm) (b : PlainBound) → b5 t ≡ Ok b → IsSorted t → Keeps calls env t b
  b5_true (bind AnyOf x s p) b e h =
      let k = of_one_ok (as_single s) (λ t. with_put x t p made) b e in
      let m = unless_ok (captures x k.0 p) (made (replaced x k.0 p)) b k.2 in
      let f = as_single_is s k.0 k.1 in
      let g = some_body x (one (operator.Set set_op.Set) k.0) p (subst (λ z. IsSorted (some x z p)) f h) (eval calls env k.0) (is_member-first (eval calls env k.0) []) in
      kept calls env (replaced x k.0 p) (bind AnyOf x s p) b m.1 (b5_value calls env x k.0 p m.0 g ∙ ap (λ z. eval calls env (some x z p)) (sym f))
  b5_true t b e h = cc

  pub b6_true : (t : PlainTerm) (b : PlainBound) → b6 t ≡ Ok b → IsSorted t → Keeps calls env t b
  b6_true (bind All x u p) b e h =
      let k = of_two_ok (as_union u) (λ s t. made (conjunction (all x s p) (all x t p))) b e in
      let f = as_union_is u k.0 k.1 k.2 in
      let g = union_sets k.0 k.1 (subst IsSorted f (of_set All x u p h)) in
      kept calls env (conjunction (all x k.0 p) (all x k.1 p)) (bind All x u p) b k.3 (b6_value calls env x k.0 k.1 p g.0 g.1 ∙ ap (λ z. eval calls env (all x z p)) (sym f))
  b6_true t b e h = cc

  both_all_true : (l r : PlainTerm) (b : PlainBound) → both_all l r ≡ Ok b → IsSorted (conjunction l r) → Keeps calls env (conjunction l r) b
  both_all_true (bind All x s p) (bind All y t q) b e h =
      let k = if_ok (same_name x y && same_term p q) (made (all x (union s t) p)) b e in
      let m = and_parts (same_name x y) (same_term p q) k.0 in
      let f = same_name-true x y m.0 in let g = same_term-true p q m.1 in
      let w = two_parts known names (operator.Logic logic.And) (all x s p) (all y t q) h.0 h.1 in
      kept calls env (all x (union s t) p) (conjunction (all x s p) (all y t q)) b k.1
      (sym (b6_value calls env x s t p (binder_set All x s p (w.0, w.2)) (binder_set All y t q (w.1, w.3))) ∙ (λ i. eval calls env (conjunction (all x s p) (all (f i) t (g i)))))
  both_all_true l r b e h = cc

  pub b6_back_true : (t : PlainTerm) (b : PlainBound) → b6_back t ≡ Ok b → IsSorted t → Keeps calls env t b
  b6_back_true t b e h =
      let k = of_two_ok (as_and t) both_all b e in let f = as_and_is t k.0 k.1 k.2 in
      subst (λ z. Keeps calls env z b) (sym f) (both_all_true k.0 k.1 b k.3 (subst IsSorted f h))

  pub b7_true : (t : PlainTerm) (b : PlainBound) → b7 t ≡ Ok b → IsSorted t → Keeps calls env t b
  b7_true (bind AnyOf x u p) b e h =
      let k = of_two_ok (as_union u) (λ s t. made (disjunction (some x s p) (some x t p))) b e in
      let f = as_union_is u k.0 k.1 k.2 in
      let g = union_sets k.0 k.1 (subst IsSorted f (of_set AnyOf x u p h)) in
      kept calls env (disjunction (some x k.0 p) (some x k.1 p)) (bind AnyOf x u p) b k.3 (b7_value calls env x k.0 k.1 p g.0 g.1 ∙ ap (λ z. eval calls env (some x z p)) (sym f))
  b7_true t b e h = cc

  both_some_true : (l r : PlainTerm) (b : PlainBound) → both_some l r ≡ Ok b → IsSorted (disjunction l r) → Keeps calls env (disjunction l r) b
  both_some_true (bind AnyOf x s p) (bind AnyOf y t q) b e h =
      let k = if_ok (same_name x y && same_term p q) (made (some x (union s t) p)) b e in
      let m = and_parts (same_name x y) (same_term p q) k.0 in
      let f = same_name-true x y m.0 in let g = same_term-true p q m.1 in
      let w = two_parts known names (operator.Logic logic.Or) (some x s p) (some y t q) h.0 h.1 in
      kept calls env (some x (union s t) p) (disjunction (some x s p) (some y t q)) b k.1
      (sym (b7_value calls env x s t p (binder_set AnyOf x s p (w.0, w.2)) (binder_set AnyOf y t q (w.1, w.3))) ∙ (λ i. eval calls env (disjunction (some x s p) (some (f i) t (g i)))))
  both_some_true l r b e h = cc

  pub b7_back_true : (t : PlainTerm) (b : PlainBound) → b7_back t ≡ Ok b → IsSorted t → Keeps calls env t b
  b7_back_true t b e h =
      let k = of_two_ok (as_or t) both_some b e in let f = as_or_is t k.0 k.1 k.2 in
      subst (λ z. Keeps calls env z b) (sym f) (both_some_true k.0 k.1 b k.3 (subst IsSorted f h))

  pub b9_true : (t : PlainTerm) (b : PlainBound) → b9 t ≡ Ok b → IsSorted t → Keeps calls env t b
  b9_true (bind AnyOf x s p) b e h = kept calls env (negated (all x s (negated p))) (bind AnyOf x s p) b e (b9_value calls env x s p (some_body x s p h))
  b9_true t b e h = cc

  -- the body of a sorted all of negations
  not_body : (x : List ℕ) (s p : PlainTerm) → IsSorted (all x s (negated p)) → (v : PlainValue) → is_member v (members_of (eval calls env s)) ≡ true → is_bool (eval calls ((x, v) ∷ env) p) ≡ true
  not_body x s p h =
      let r = binder_ok known names All x s (negated p) h.0 h.1 in
      let q = one_part known ((x, r.element) ∷ names) (operator.Logic logic.Not) p r.body r.of_body in
      let e = (with_bool_ok q.0 (ok bools) r.body q.2).0 in
      let c : BinderSorts known names All x s p bools = record { element = r.element; body = bools; of_set = r.of_set; of_body = q.1 ∙ ap ok e; made = refl } in
      bool_body All x s p bools c refl

  none_not_true : (t : PlainTerm) (b : PlainBound) → none_not t ≡ Ok b → IsSorted t → Keeps calls env (negated t) b
  none_not_true (bind All x s r) b e h =
      let k = of_one_ok (as_not r) (λ p. made (some x s p)) b e in let f = as_not_is r k.0 k.1 in
      kept calls env (some x s k.0) (negated (bind All x s r)) b k.2
      (sym (b9_value calls env x s k.0 (not_body x s k.0 (subst (λ z. IsSorted (all x s z)) f h))) ∙ ap (λ z. eval calls env (negated (all x s z))) (sym f))
  none_not_true t b e h = cc

  pub b9_back_true : (t : PlainTerm) (b : PlainBound) → b9_back t ≡ Ok b → IsSorted t → Keeps calls env t b
  b9_back_true t b e h =
      let k = of_one_ok (as_not t) none_not b e in let f = as_not_is t k.0 k.1 in
      let g : IsSorted (negated k.0) = subst IsSorted f h in
      let q = one_part known names (operator.Logic logic.Not) k.0 g.0 g.1 in
      subst (λ z. Keeps calls env z b) (sym f) (none_not_true k.0 b k.2 (q.0, q.1))

  -- in a sorted pair of binders the names differ, and the outer one does not stand in the outer set
  apart : (x y : List ℕ) (s t p : PlainTerm) → IsSorted (all x s (all y t p)) → (same_name y x ≡ false) × (is_named x names ≡ false) × (is_named y names ≡ false) × IsSorted s
  apart x y s t p h =
      let r = binder_ok known names All x s (all y t p) h.0 h.1 in
      let n = or_none (same_name y x) (is_named y names) (new_name known ((x, r.element) ∷ names) All y t p r.body r.of_body) in
      (n.0, new_name known names All x s (all y t p) h.0 h.1, n.1, (sets r.element, r.of_set))

  swapped_true : (x : List ℕ) (s q : PlainTerm) (b : PlainBound) → swapped x s q ≡ Ok b → IsSorted (all x s q) → Keeps calls env (all x s q) b
  swapped_true x s (bind All y t p) b e h =
      let k = unless_ok (mentions x t) (made (all y t (all x s p))) b e in
      let a = apart x y s t p h in
      kept calls env (all y t (all x s p)) (all x s (all y t p)) b k.1
      (b10_value calls env x y s t p k.0 (not_in_scope known y s names a.3.0 a.3.1 a.2) (same_name-comm x y ∙ a.0))
  swapped_true x s q b e h = cc

  pub b10_true : (t : PlainTerm) (b : PlainBound) → b10 t ≡ Ok b → IsSorted t → Keeps calls env t b
  b10_true (bind All x s q) b e h = swapped_true x s q b e h
  b10_true t b e h = cc

  swapped_back_true : (y : List ℕ) (t q : PlainTerm) (b : PlainBound) → swapped_back y t q ≡ Ok b → IsSorted (all y t q) → IsSorted b.term → Keeps calls env (all y t q) b
  swapped_back_true y t (bind All x s p) b e h h' =
      let k = unless_ok (mentions x t) (made (all x s (all y t p))) b e in
      let a = apart x y s t p (subst IsSorted (sym (made_ok (all x s (all y t p)) b k.1)) h') in
      kept calls env (all x s (all y t p)) (all y t (all x s p)) b k.1
      (sym (b10_value calls env x y s t p k.0 (not_in_scope known y s names a.3.0 a.3.1 a.2) (same_name-comm x y ∙ a.0)))
  swapped_back_true y t q b e h h' = cc

  pub b10_back_true : (t : PlainTerm) (b : PlainBound) → b10_back t ≡ Ok b → IsSorted t → IsSorted b.term → Keeps calls env t b
  b10_back_true (bind All y t q) b e h h' = swapped_back_true y t q b e h h'
  b10_back_true t b e h h' = cc

  all_setof_true : (x : List ℕ) (t p : PlainTerm) (b : PlainBound) → all_setof x t p ≡ Ok b → IsSorted (all x t p) → Keeps calls env (all x t p) b
  all_setof_true x (bind SetOf y s q) p b e h =
      let k = unless_ok (mentions x q && not (same_name x y)) (with_put y (var x) q (λ r. made (all x s (implication r p)))) b e in
      let m = unless_ok (captures y (var x) q) (made (all x s (implication (replaced y (var x) q) p))) b k.1 in
      let r = binder_ok known names All x (bind SetOf y s q) p h.0 h.1 in
      let w = binder_ok known names SetOf y s q (sets r.element) r.of_set in
      let f = with_bool_ok w.body (ok (sets w.element)) (sets r.element) w.made in
      let g : w.element ≡ r.element = same w.element r.element f.1 in
      let c : BinderSorts known names All x s p bools
      = record { element = r.element; body = bools; of_set = w.of_set ∙ ap (λ z. ok (sets z)) g; of_body = r.of_body ∙ ap ok (with_bool_ok r.body (ok bools) h.0 r.made).0; made = refl } in
      kept calls env (all x s (implication (replaced y (var x) q) p)) (all x (bind SetOf y s q) p) b m.1
      (b14_value calls env x y s q p m.0 k.0 (bool_body SetOf y s q (sets r.element) w f.0) (bool_body All x s p bools c refl))
    where
      same : (a c : PlainSort) → ok (sets a) ≡ ok (sets c) → a ≡ c
      same a c e = cc
  all_setof_true x t p b e h = cc

  pub b14_true : (t : PlainTerm) (b : PlainBound) → b14 t ≡ Ok b → IsSorted t → Keeps calls env t b
  b14_true (bind All x t p) b e h = all_setof_true x t p b e h
  b14_true t b e h = cc

  pub b16_true : (t : PlainTerm) (b : PlainBound) → b16 t ≡ Ok b → IsSorted t → Keeps calls env t b
  b16_true (bind SumOf x u a) b e h =
      let k = of_two_ok (as_with u) (λ t s. with_put x t a (λ c. made_if (negated (member t s)) (sum_of (sumof x s a) c))) b e in
      let m = unless_ok (captures x k.0 a) (made_if (negated (member k.0 k.1)) (sum_of (sumof x k.1 a) (replaced x k.0 a))) b k.3 in
      let f = as_with_is u k.0 k.1 k.2 in
      let v = eval calls env k.0 in
      let g : IsSorted (sumof x (two (operator.Set set_op.With) k.0 k.1) a) = subst (λ z. IsSorted (sumof x z a)) f h in
      let r = binder_ok known names SumOf x (two (operator.Set set_op.With) k.0 k.1) a g.0 g.1 in
      let w = with_set_of k.0 k.1 (sets r.element, r.of_set) in
      let there : is_member v (members_of (eval calls env (two (operator.Set set_op.With) k.0 k.1))) ≡ true
      = ap (is_member v) (with_members v (eval calls env k.1) w) ∙ is_member-put v v (members_of (eval calls env k.1)) ∙ ap (λ c. c || is_member v (members_of (eval calls env k.1))) (value_eq-itself v) in
      let n = summed_kind (count_of r.element) r.body g.0 (eval calls ((x, v) ∷ env) a) r.made (body_value known calls checks fit names env permitted fits SumOf x (two (operator.Set set_op.With) k.0 k.1) a g.0 r v there) in
      kept_if calls env (negated (member k.0 k.1)) (sum_of (sumof x k.1 a) (replaced x k.0 a)) (bind SumOf x u a) b m.1
      (λ c. b16_value calls env x k.0 k.1 a m.0 w n c ∙ ap (λ z. eval calls env (sumof x z a)) (sym f))
  b16_true t b e h = cc
