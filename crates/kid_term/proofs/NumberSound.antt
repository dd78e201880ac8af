-- The values of the operators on integers have their sorts.
use Rattle.std.proofs.Common.{◌≡◌, ℤ, ◌+ℤ◌, Bool, true, false, List, [], ◌∷◌, Ok, refl, sym, ap, ◌∙◌, cond, subst, arith}
use Rattle.std.specs.Prelude.{pos, neg_ℤ, ◌-ℤ◌, ◌*ℤ◌, ◌-◌, ◌≤ℤ◌, ◌&&◌, int_le, int_lt}
use Rattle.std.specs.Int.{int_min, int_max, int_div_euclid}
use Rattle.std.proofs.Math.IntN.{+ℤ_idl}
use Rattle.std.proofs.lemmas.Int.{ints as int_rules, clamps}
use Rattle.kid_value.specs.PlainValue.{PlainValue, int}
use Rattle.kid_value.specs.PlainSort.{PlainSort, bools, ints, has_sort}
use Rattle.kid_term.specs.declared.operator.NumberOp.{NumberOp}
use Rattle.kid_term.specs.declared.operator.NumberOp.TheVariants.{Le, Lt, Add, Sub, Neg, Mul, Div, Mod, Min, Max}
use Rattle.kid_term.specs.NumberRows.{number_value}
use Rattle.kid_value.specs.Rows.Number.{quotient, remainder}
use Rattle.kid_term.specs.Sorted.{allowed, with_ints}
use Rattle.kid_term.specs.NumberSorts.{number_sort, product_sort, quotient_sort, rest_sort, least_of_four, greatest_of_four, greatest_size}
use Rattle.kid_term.specs.Fitting.{IsOfSort, AreOfSorts}
use Rattle.kid_term.proofs.Inversions.{ok, allowed_ok, with_one_ok, with_ints_ok, one_value, int_of, two_ints_ok}
use Rattle.kid_term.proofs.LogicSound.{Sound, truth_sound}
use Rattle.kid_term.proofs.Products.{above_corners, below_corners}
use Rattle.kid_term.proofs.Quotients.{quotient_floors, quotient_size, rest_within}

pub within : (lo hi n : ℤ) → lo ≤ℤ n → n ≤ℤ hi → (int_le lo n && int_le n hi) ≡ true
within lo hi n p q = grind (arith, int_rules)

-- an integer between bounds that are allowed
pub interval_sound : (lo hi n : ℤ) (s : PlainSort) → lo ≤ℤ n → n ≤ℤ hi → allowed (ints lo hi) ≡ Ok s → Sound s (int n)
interval_sound lo hi n s p q e =
    let r = allowed_ok (ints lo hi) s e in
    record { of_sort = subst (λ z. IsOfSort z (int n)) r.0 (record { has = within lo hi n p q; canonical = tt }); sort_allowed = r.1 }

at_values : (o : NumberOp) (vs ws : List PlainValue) (s : PlainSort) → vs ≡ ws → Sound s (number_value o ws) → Sound s (number_value o vs)
at_values o vs ws s e h = subst (λ z. Sound s (number_value o z)) (sym e) h

least_below : (a b c d : ℤ) → (least_of_four a b c d ≤ℤ a) × (least_of_four a b c d ≤ℤ b) × (least_of_four a b c d ≤ℤ c) × (least_of_four a b c d ≤ℤ d)
least_below a b c d = (omega (arith, int_rules, clamps), omega (arith, int_rules, clamps), omega (arith, int_rules, clamps), omega (arith, int_rules, clamps))

greatest_above : (a b c d : ℤ) → (a ≤ℤ greatest_of_four a b c d) × (b ≤ℤ greatest_of_four a b c d) × (c ≤ℤ greatest_of_four a b c d) × (d ≤ℤ greatest_of_four a b c d)
greatest_above a b c d = (omega (arith, int_rules, clamps), omega (arith, int_rules, clamps), omega (arith, int_rules, clamps), omega (arith, int_rules, clamps))

product_sound : (a b c d m n : ℤ) (s : PlainSort) → a ≤ℤ m → m ≤ℤ b → c ≤ℤ n → n ≤ℤ d → allowed (product_sort a b c d) ≡ Ok s → Sound s (int (m *ℤ n))
product_sound a b c d m n s p q r t e =
    let lo = least_below (a *ℤ c) (a *ℤ d) (b *ℤ c) (b *ℤ d) in
    let hi = greatest_above (a *ℤ c) (a *ℤ d) (b *ℤ c) (b *ℤ d) in
    interval_sound _ _ (m *ℤ n) s
    (above_corners a b c d m n (least_of_four (a *ℤ c) (a *ℤ d) (b *ℤ c) (b *ℤ d)) p q r t lo.0 lo.1 lo.2 lo.3)
    (below_corners a b c d m n (greatest_of_four (a *ℤ c) (a *ℤ d) (b *ℤ c) (b *ℤ d)) p q r t hi.0 hi.1 hi.2 hi.3) e

quotient_sound : (a b c d m n : ℤ) (s : PlainSort) → a ≤ℤ m → m ≤ℤ b → c ≤ℤ n → n ≤ℤ d → allowed (quotient_sort a b c d) ≡ Ok s → Sound s (int (quotient m n))
quotient_sound a b c d m n s p q r t e = by (int_le (pos 1) c) refl e
  where
    one : (c : ℤ) → int_le (pos 1) c ≡ true → pos 1 ≤ℤ c
    one c h = grind (arith, int_rules)

    by : (f : Bool) → int_le (pos 1) c ≡ f
        → allowed (cond f (ints (int_min (int_div_euclid a c) (int_div_euclid a d)) (int_max (int_div_euclid b c) (int_div_euclid b d))) (ints (pos 0 -ℤ pos (greatest_size a b)) (pos (greatest_size a b)))) ≡ Ok s
        → Sound s (int (quotient m n))
    by true h g = let x = quotient_floors a b c d m n (one c h) p q r t in interval_sound _ _ (quotient m n) s x.0 x.1 g
    by false h g = let x = quotient_size a b m n p q in interval_sound _ _ (quotient m n) s x.0 x.1 g

neg_sound : (ss : List PlainSort) (vs : List PlainValue) (s : PlainSort) → number_sort Neg ss ≡ Ok s → AreOfSorts ss vs → Sound s (number_value Neg vs)
neg_sound ss vs s p h =
    let r = with_one_ok ss (λ s. with_ints s (λ a b. allowed (ints (pos 0 -ℤ b) (pos 0 -ℤ a)))) s p in
    let x = with_ints_ok r.0 (λ a b. allowed (ints (pos 0 -ℤ b) (pos 0 -ℤ a))) s r.2 in
    let w = one_value r.0 vs (subst (λ z. AreOfSorts z vs) r.1 h) in
    let i = int_of x.0 x.1 w.0 (ap (λ z. has_sort z w.0) (sym x.2) ∙ w.2.has) in
    at_values Neg vs (int i.0 ∷ []) s (w.1 ∙ (λ o. i.1 o ∷ []))
    (subst (λ z. Sound s (int z)) (+ℤ_idl (neg_ℤ i.0)) (interval_sound _ _ (pos 0 -ℤ i.0) s (opposite x.0 x.1 i.0 i.2 i.3).0 (opposite x.0 x.1 i.0 i.2 i.3).1 x.3))
  where
    opposite : (a b n : ℤ) → a ≤ℤ n → n ≤ℤ b → ((pos 0 -ℤ b) ≤ℤ (pos 0 -ℤ n)) × ((pos 0 -ℤ n) ≤ℤ (pos 0 -ℤ a))
    opposite a b n p q = (omega (arith, int_rules), omega (arith, int_rules))

module _ (a b c d m n : ℤ) (s : PlainSort) (p : a ≤ℤ m) (q : m ≤ℤ b) (r : c ≤ℤ n) (t : n ≤ℤ d) where
  sum_sound : allowed (ints (a +ℤ c) (b +ℤ d)) ≡ Ok s → Sound s (int (m +ℤ n))
  sum_sound e = interval_sound (a +ℤ c) (b +ℤ d) (m +ℤ n) s (omega (arith, int_rules)) (omega (arith, int_rules)) e

  difference_sound : allowed (ints (a -ℤ d) (b -ℤ c)) ≡ Ok s → Sound s (int (m -ℤ n))
  difference_sound e = interval_sound (a -ℤ d) (b -ℤ c) (m -ℤ n) s (omega (arith, int_rules)) (omega (arith, int_rules)) e

  rest_sound : allowed (rest_sort c d) ≡ Ok s → Sound s (int (remainder m n))
  rest_sound e = let x = rest_within c d m n r t in interval_sound (pos 0) (pos (greatest_size c d - 1)) (remainder m n) s x.0 x.1 e

  min_sound : allowed (ints (int_min a c) (int_min b d)) ≡ Ok s → Sound s (int (int_min m n))
  min_sound e = interval_sound (int_min a c) (int_min b d) (int_min m n) s (omega (arith, int_rules, clamps)) (omega (arith, int_rules, clamps)) e

  max_sound : allowed (ints (int_max a c) (int_max b d)) ≡ Ok s → Sound s (int (int_max m n))
  max_sound e = interval_sound (int_max a c) (int_max b d) (int_max m n) s (omega (arith, int_rules, clamps)) (omega (arith, int_rules, clamps)) e

pub number_sound : (o : NumberOp) (ss : List PlainSort) (vs : List PlainValue) (s : PlainSort) → number_sort o ss ≡ Ok s → AreOfSorts ss vs → Sound s (number_value o vs)
number_sound Le ss vs s p h =
    let r = two_ints_ok ss vs (λ a b c d. ok bools) s p h in at_values Le vs (int r.m ∷ int r.n ∷ []) s r.are (truth_sound (int_le r.m r.n) s r.gives)
number_sound Lt ss vs s p h =
    let r = two_ints_ok ss vs (λ a b c d. ok bools) s p h in at_values Lt vs (int r.m ∷ int r.n ∷ []) s r.are (truth_sound (int_lt r.m r.n) s r.gives)
number_sound Add ss vs s p h =
    let r = two_ints_ok ss vs (λ a b c d. allowed (ints (a +ℤ c) (b +ℤ d))) s p h in
    at_values Add vs (int r.m ∷ int r.n ∷ []) s r.are (sum_sound r.a r.b r.c r.d r.m r.n s r.low r.high r.low' r.high' r.gives)
number_sound Sub ss vs s p h =
    let r = two_ints_ok ss vs (λ a b c d. allowed (ints (a -ℤ d) (b -ℤ c))) s p h in
    at_values Sub vs (int r.m ∷ int r.n ∷ []) s r.are (difference_sound r.a r.b r.c r.d r.m r.n s r.low r.high r.low' r.high' r.gives)
number_sound Neg ss vs s p h = neg_sound ss vs s p h
number_sound Mul ss vs s p h =
    let r = two_ints_ok ss vs (λ a b c d. allowed (product_sort a b c d)) s p h in
    at_values Mul vs (int r.m ∷ int r.n ∷ []) s r.are (product_sound r.a r.b r.c r.d r.m r.n s r.low r.high r.low' r.high' r.gives)
number_sound Div ss vs s p h =
    let r = two_ints_ok ss vs (λ a b c d. allowed (quotient_sort a b c d)) s p h in
    at_values Div vs (int r.m ∷ int r.n ∷ []) s r.are (quotient_sound r.a r.b r.c r.d r.m r.n s r.low r.high r.low' r.high' r.gives)
number_sound Mod ss vs s p h =
    let r = two_ints_ok ss vs (λ a b c d. allowed (rest_sort c d)) s p h in
    at_values Mod vs (int r.m ∷ int r.n ∷ []) s r.are (rest_sound r.a r.b r.c r.d r.m r.n s r.low r.high r.low' r.high' r.gives)
number_sound Min ss vs s p h =
    let r = two_ints_ok ss vs (λ a b c d. allowed (ints (int_min a c) (int_min b d))) s p h in
    at_values Min vs (int r.m ∷ int r.n ∷ []) s r.are (min_sound r.a r.b r.c r.d r.m r.n s r.low r.high r.low' r.high' r.gives)
number_sound Max ss vs s p h =
    let r = two_ints_ok ss vs (λ a b c d. allowed (ints (int_max a c) (int_max b d))) s p h in
    at_values Max vs (int r.m ∷ int r.n ∷ []) s r.are (max_sound r.a r.b r.c r.d r.m r.n s r.low r.high r.low' r.high' r.gives)
