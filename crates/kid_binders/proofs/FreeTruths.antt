-- The rules that are true of terms without sorts too: b1 to b3, b8, b11 to b13, b15, b17 and b18.
use Rattle.std.proofs.Common.{◌≡◌, true, false, Ok, Err, Result, refl, sym, ap, ◌∙◌, subst}
use Rattle.std.specs.Prelude.{pos, ◌&&◌, cond}
use Rattle.kid_value.specs.Rows.Parts.{truth_of}
use Rattle.kid_value.proofs.SortLemmas.{and_parts}
use Rattle.kid_term.specs.PlainTerm.{PlainTerm, var, number, truth, bind}
use Rattle.kid_term.specs.Names.{same_name}
use Rattle.kid_term.specs.Eval.{Env, Calls, eval}
use Rattle.kid_term.specs.Substitution.{mentions, replaced, captures}
use Rattle.kid_term.specs.Renaming.{renamed}
use Rattle.kid_term.specs.Truths.{AllTrue}
use Rattle.kid_term.specs.declared.rename.RenameFault.{RenameFault}
use Rattle.kid_term.specs.declared.rename.RenameFault.TheVariants as fault
use Rattle.kid_term.specs.declared.operator.Binder.TheVariants.{All, Some as AnyOf, SetOf, Image, SumOf}
use Rattle.kid_term.proofs.EvalLemmas.{same_name-true}
use Rattle.kid_term.proofs.RenameLemmas.{eval-of_renamed}
use Rattle.kid_binders.specs.Shapes.{conjunction, equation, member, subset, all, some, image, is_true, is_empty, as_and, as_equation, as_member}
use Rattle.kid_binders.specs.Outcome.{PlainBound, capture, made, made_if}
use Rattle.kid_binders.specs.Same.{same_term}
use Rattle.kid_binders.specs.Naming.{of_renamed, b1}
use Rattle.kid_binders.specs.Settled.{b2, b3, b11, b15}
use Rattle.kid_binders.specs.Instances.{b18}
use Rattle.kid_binders.specs.Parted.{b12, part_and_whole, b12_back}
use Rattle.kid_binders.specs.Bodies.{b8, over_one, b8_back}
use Rattle.kid_binders.specs.Gathered.{in_setof, b13, in_image, b17, b17_back}
use Rattle.kid_binders.proofs.SameLemmas.{same_term-true}
use Rattle.kid_binders.proofs.ShapeLemmas.{of_two_ok, if_ok, unless_ok, made_ok, made_if_ok, is_true_is, is_empty_is, as_and_is, as_equation_is, as_member_is}
use Rattle.kid_binders.proofs.Equations.{b8_value, b11_value, b12_value, b13_value, b17_value, b18_value}

module _ (calls : Calls) (env : Env) where
  -- the new term has the value of the old one, where the conditions are true
  abbrev pub Keeps : PlainTerm → PlainBound → Type 0
  Keeps t b = AllTrue calls env b.conditions → eval calls env b.term ≡ eval calls env t

  -- from the term that was made
  pub kept : (new t : PlainTerm) (b : PlainBound) → made new ≡ Ok b → eval calls env new ≡ eval calls env t → Keeps t b
  kept new t b e h k = ap (eval calls env) (sym (made_ok new b e)) ∙ h

  pub kept_if : (c new t : PlainTerm) (b : PlainBound) → made_if c new ≡ Ok b → (truth_of (eval calls env c) ≡ true → eval calls env new ≡ eval calls env t) → Keeps t b
  kept_if c new t b e h k = let r = made_if_ok c new b e in ap (eval calls env) (sym r.0) ∙ h (subst (AllTrue calls env) (sym r.1) k).0

  pub b1_true : (a t : PlainTerm) (b : PlainBound) → b1 a t ≡ Ok b → Keeps t b
  b1_true (var y) t b e = by (renamed y t) refl e
    where
      by : (r : Result PlainTerm RenameFault) → renamed y t ≡ r → of_renamed r ≡ Ok b → Keeps t b
      by (Ok u) f e = kept u t b e (eval-of_renamed y t u f calls env)
      by (Err fault.Capture) f e = cc
      by (Err x) f e = cc
  b1_true a t b e = cc

  pub b2_true : (t : PlainTerm) (b : PlainBound) → b2 t ≡ Ok b → Keeps t b
  b2_true (bind All x s p) b e =
      let r = if_ok (is_empty s) (made (truth true)) b e in
      kept (truth true) (bind All x s p) b r.1 (ap (λ z. eval calls env (bind All x z p)) (sym (is_empty_is s r.0)))
  b2_true t b e = cc

  pub b3_true : (t : PlainTerm) (b : PlainBound) → b3 t ≡ Ok b → Keeps t b
  b3_true (bind AnyOf x s p) b e =
      let r = if_ok (is_empty s) (made (truth false)) b e in
      kept (truth false) (bind AnyOf x s p) b r.1 (ap (λ z. eval calls env (bind AnyOf x z p)) (sym (is_empty_is s r.0)))
  b3_true t b e = cc

  pub b15_true : (t : PlainTerm) (b : PlainBound) → b15 t ≡ Ok b → Keeps t b
  b15_true (bind SumOf x s p) b e =
      let r = if_ok (is_empty s) (made (number (pos 0))) b e in
      kept (number (pos 0)) (bind SumOf x s p) b r.1 (ap (λ z. eval calls env (bind SumOf x z p)) (sym (is_empty_is s r.0)))
  b15_true t b e = cc

  pub b8_true : (t : PlainTerm) (b : PlainBound) → b8 t ≡ Ok b → Keeps t b
  b8_true (bind All x s r) b e =
      let k = of_two_ok (as_and r) (λ p q. made (conjunction (all x s p) (all x s q))) b e in
      kept (conjunction (all x s k.0) (all x s k.1)) (bind All x s r) b k.3 (b8_value calls env x s k.0 k.1 ∙ ap (λ z. eval calls env (all x s z)) (sym (as_and_is r k.0 k.1 k.2)))
  b8_true t b e = cc

  over_one_true : (l r : PlainTerm) (b : PlainBound) → over_one l r ≡ Ok b → Keeps (conjunction l r) b
  over_one_true (bind All x s p) (bind All y t q) b e =
      let k = if_ok (same_name x y && same_term s t) (made (all x s (conjunction p q))) b e in
      let m = and_parts (same_name x y) (same_term s t) k.0 in
      let f = same_name-true x y m.0 in let g = same_term-true s t m.1 in
      kept (all x s (conjunction p q)) (conjunction (all x s p) (all y t q)) b k.1
      (sym (b8_value calls env x s p q) ∙ (λ i. eval calls env (conjunction (all x s p) (all (f i) (g i) q))))
  over_one_true l r b e = cc

  pub b8_back_true : (t : PlainTerm) (b : PlainBound) → b8_back t ≡ Ok b → Keeps t b
  b8_back_true t b e = let k = of_two_ok (as_and t) over_one b e in subst (λ z. Keeps z b) (sym (as_and_is t k.0 k.1 k.2)) (over_one_true k.0 k.1 b k.3)

  pub b11_true : (t : PlainTerm) (b : PlainBound) → b11 t ≡ Ok b → Keeps t b
  b11_true (bind All x s p) b e =
      let r = if_ok (is_true p) (made (truth true)) b e in
      kept (truth true) (bind All x s p) b r.1 (b11_value calls env x s ∙ ap (λ z. eval calls env (all x s z)) (sym (is_true_is p r.0)))
  b11_true t b e = cc

  pub b12_true : (a t : PlainTerm) (b : PlainBound) → b12 a t ≡ Ok b → Keeps t b
  b12_true a (bind All x s p) b e = kept_if (subset a s) (conjunction (all x a p) (all x s p)) (bind All x s p) b e (b12_value calls env x a s p)
  b12_true a t b e = cc

  part_true : (l r : PlainTerm) (b : PlainBound) → part_and_whole l r ≡ Ok b → Keeps (conjunction l r) b
  part_true (bind All x t p) (bind All y s q) b e =
      let k = if_ok (same_name x y && same_term p q) (made_if (subset t s) (all y s q)) b e in
      let m = and_parts (same_name x y) (same_term p q) k.0 in
      let f = same_name-true x y m.0 in let g = same_term-true p q m.1 in
      kept_if (subset t s) (all y s q) (conjunction (all x t p) (all y s q)) b k.1
      (λ h. sym (b12_value calls env y t s q h) ∙ sym (λ i. eval calls env (conjunction (all (f i) t (g i)) (all y s q))))
  part_true l r b e = cc

  pub b12_back_true : (t : PlainTerm) (b : PlainBound) → b12_back t ≡ Ok b → Keeps t b
  b12_back_true t b e = let k = of_two_ok (as_and t) part_and_whole b e in subst (λ z. Keeps z b) (sym (as_and_is t k.0 k.1 k.2)) (part_true k.0 k.1 b k.3)

  in_setof_true : (y t : PlainTerm) (b : PlainBound) → in_setof y t ≡ Ok b → Keeps (member y t) b
  in_setof_true y (bind SetOf x s p) b e =
      let k = unless_ok (captures x y p) (made (conjunction (member y s) (replaced x y p))) b e in
      kept (conjunction (member y s) (replaced x y p)) (member y (bind SetOf x s p)) b k.1 (b13_value calls env x y s p k.0)
  in_setof_true y t b e = cc

  pub b13_true : (t : PlainTerm) (b : PlainBound) → b13 t ≡ Ok b → Keeps t b
  b13_true t b e = let k = of_two_ok (as_member t) in_setof b e in subst (λ z. Keeps z b) (sym (as_member_is t k.0 k.1 k.2)) (in_setof_true k.0 k.1 b k.3)

  in_image_true : (y t : PlainTerm) (b : PlainBound) → in_image y t ≡ Ok b → Keeps (member y t) b
  in_image_true y (bind Image x s u) b e =
      let k = unless_ok (mentions x y) (made (some x s (equation y u))) b e in
      kept (some x s (equation y u)) (member y (bind Image x s u)) b k.1 (b17_value calls env x y s u k.0)
  in_image_true y t b e = cc

  pub b17_true : (t : PlainTerm) (b : PlainBound) → b17 t ≡ Ok b → Keeps t b
  b17_true t b e = let k = of_two_ok (as_member t) in_image b e in subst (λ z. Keeps z b) (sym (as_member_is t k.0 k.1 k.2)) (in_image_true k.0 k.1 b k.3)

  pub b17_back_true : (t : PlainTerm) (b : PlainBound) → b17_back t ≡ Ok b → Keeps t b
  b17_back_true (bind AnyOf x s q) b e =
      let k = of_two_ok (as_equation q) (λ y u. cond (mentions x y) capture (made (member y (image x s u)))) b e in
      let m = unless_ok (mentions x k.0) (made (member k.0 (image x s k.1))) b k.3 in
      kept (member k.0 (image x s k.1)) (bind AnyOf x s q) b m.1 (sym (b17_value calls env x k.0 s k.1 m.0) ∙ ap (λ z. eval calls env (some x s z)) (sym (as_equation_is q k.0 k.1 k.2)))
  b17_back_true t b e = cc

  pub b18_true : (a t : PlainTerm) (b : PlainBound) → b18 a t ≡ Ok b → Keeps t b
  b18_true a (bind All x s p) b e =
      let k = unless_ok (captures x a p) (made_if (member a s) (conjunction (replaced x a p) (all x s p))) b e in
      kept_if (member a s) (conjunction (replaced x a p) (all x s p)) (bind All x s p) b k.1 (b18_value calls env x a s p k.0)
  b18_true a t b e = cc
