-- The search of an interval by halves is lawful.
use Rattle.std.proofs.Common.{◌≡◌, ℕ, ◌<◌, ◌≤◌, ◌/◌, ℤ, pos, negsuc, ◌≤ℤ◌, ◌+ℤ◌, ◌-ℤ◌, Bool, true, false, [], ◌∷◌, Some, None, refl, sym, ◌∙◌, cond, subst, arith}
use Rattle.std.specs.Prelude.{◌&&◌, ◌||◌, int_le, int_lt}
use Rattle.std.specs.Int.{int_gap, int_div_euclid, int_min, int_max}
use Rattle.std.specs.declared.cmp.Ordering.TheVariants.{Less}
use Rattle.std.specs.Ordering.{int_cmp, is_eq}
use Rattle.std.proofs.lemmas.Int.{ints as int_rules}
use Rattle.kid_value.specs.InSort.{in_sort}
use Rattle.kid_value.specs.PlainSort.{ints}
use Rattle.kid_value.specs.PlainValue.{PlainValue, int}
use Rattle.kid_value.specs.ValueOrder.{Before}
use Rattle.kid_value.proofs.SortLemmas.{and_parts}
use Rattle.kid_search.specs.Space.{Descriptor, Space, fit, is_leaf, any_satisfies}
use Rattle.kid_search.specs.SpaceLaws.{InOrder, AllFall, IsLawful, Starts, IsCut}
use Rattle.kid_search.proofs.BoolLemmas.{false_true}
use Rattle.kid_search.specs.Range.{range_kept, range_satisfies, range_leaf, range_kids, range_rank, range_space, range_start, range_goal, range_low, is_at_least, range_high, is_at_most}

-- twice the half is the number or one less
half_bounds : (s q : ℤ) → q ≡ int_div_euclid s (pos 2) → ((q +ℤ q) ≤ℤ s) × (s ≤ℤ (q +ℤ q +ℤ pos 1))
half_bounds (pos a) q e = rw e (natural a)
  where
    natural : (a : ℕ) → ((pos (a / 2) +ℤ pos (a / 2)) ≤ℤ pos a) × (pos a ≤ℤ (pos (a / 2) +ℤ pos (a / 2) +ℤ pos 1))
    natural a = (omega (arith, int_rules), omega (arith, int_rules))
half_bounds (negsuc a) q e = rw e (negative a)
  where
    negative : (a : ℕ) → ((negsuc (a / 2) +ℤ negsuc (a / 2)) ≤ℤ negsuc a) × (negsuc a ≤ℤ (negsuc (a / 2) +ℤ negsuc (a / 2) +ℤ pos 1))
    negative a = (omega (arith, int_rules), omega (arith, int_rules))

low_of : (l h q : ℤ) → int_lt l h ≡ true → ((q +ℤ q) ≤ℤ (l +ℤ h)) × ((l +ℤ h) ≤ℤ (q +ℤ q +ℤ pos 1)) → int_le l q ≡ true
low_of l h q p b = let c = b.0 in let d = b.1 in grind (arith, int_rules)

high_of : (l h q : ℤ) → int_lt l h ≡ true → ((q +ℤ q) ≤ℤ (l +ℤ h)) × ((l +ℤ h) ≤ℤ (q +ℤ q +ℤ pos 1)) → int_lt q h ≡ true
high_of l h q p b = let c = b.0 in let d = b.1 in grind (arith, int_rules)

-- the middle of two numbers
abbrev middle : ℤ → ℤ → ℤ
middle l h = int_div_euclid (l +ℤ h) (pos 2)

half_low : (l h : ℤ) → int_lt l h ≡ true → int_le l (middle l h) ≡ true
half_low l h p = low_of l h (middle l h) p (half_bounds (l +ℤ h) (middle l h) refl)

half_high : (l h : ℤ) → int_lt l h ≡ true → int_lt (middle l h) h ≡ true
half_high l h p = high_of l h (middle l h) p (half_bounds (l +ℤ h) (middle l h) refl)

abbrev distance : ℤ → ℤ → ℕ
distance l h = int_gap (pos 0) (int_max (pos 0) (h -ℤ l))

gap_low : (l q h : ℤ) → int_le l q ≡ true → int_lt q h ≡ true → distance l q < distance l h
gap_low l q h a b = grind (arith, int_rules)

gap_high : (l q h : ℤ) → int_le l q ≡ true → int_lt q h ≡ true → distance (q +ℤ pos 1) h < distance l h
gap_high l q h a b = grind (arith, int_rules)

-- a number is between two
abbrev between : ℤ → ℤ → ℤ → Bool
between l h z = int_le l z && (int_le z h && true)

covers_numbers : (l q h z : ℤ) → int_le l q ≡ true → int_lt q h ≡ true → between l h z ≡ (between l q z || (between (q +ℤ pos 1) h z || false))
covers_numbers l q h z a b = grind (arith, int_rules)

covers_leaf : (l h z : ℤ) → int_lt l h ≡ false → is_eq (int_cmp l h) ≡ true → between l h z ≡ (is_eq (int_cmp z l) || false)
covers_leaf l h z a b = grind (arith, int_rules)

covers_none : (l h z : ℤ) → int_lt l h ≡ false → is_eq (int_cmp l h) ≡ false → between l h z ≡ false
covers_none l h z a b = grind (arith, int_rules)

not_both : (l h : ℤ) → int_lt l h ≡ true → is_eq (int_cmp l h) ≡ false
not_both l h a = grind (arith, int_rules)

in_halves : (l q h z y : ℤ) → between l q z ≡ true → (between (q +ℤ pos 1) h y || false) ≡ true → int_cmp z y ≡ Less
in_halves l q h z y a b = grind (arith, int_rules)

-- the components have their sorts
abbrev good : ℤ → ℤ → ℤ → ℤ → Bool
good lo hi l h = int_le lo l && int_le l (hi +ℤ pos 1) && true && (int_le (lo -ℤ pos 1) h && int_le h hi && true && true) && true

leaf_sorted : (lo hi l h : ℤ) → good lo hi l h ≡ true → is_eq (int_cmp l h) ≡ true → (int_le lo l && int_le l hi && true) ≡ true
leaf_sorted lo hi l h g e = grind (arith, int_rules)

low_good : (lo hi l q h : ℤ) → good lo hi l h ≡ true → int_le l q ≡ true → int_lt q h ≡ true → good lo hi l q ≡ true
low_good lo hi l q h g a b = grind (arith, int_rules)

high_good : (lo hi l q h : ℤ) → good lo hi l h ≡ true → int_le l q ≡ true → int_lt q h ≡ true → good lo hi (q +ℤ pos 1) h ≡ true
high_good lo hi l q h g a b = grind (arith, int_rules)

start_good : (lo hi l h : ℤ) → (int_le lo l && int_le l hi && true) ≡ true → (int_le lo h && int_le h hi && true) ≡ true → good lo hi l h ≡ true
start_good lo hi l h a b = grind (arith, int_rules)

both_between : (l h z : ℤ) → (int_le l z && int_le z h) ≡ true → between l h z ≡ true
both_between l h z a = grind (arith, int_rules)

-- the changed bounds of a cut
raised_good : (lo hi l h k : ℤ) → good lo hi l h ≡ true → good lo hi (int_max l (int_min k (h +ℤ pos 1))) h ≡ true
raised_good lo hi l h k g = grind (arith, int_rules)

raised_rank : (l h k : ℤ) → distance (int_max l (int_min k (h +ℤ pos 1))) h ≤ distance l h
raised_rank l h k = grind (arith, int_rules)

raised_within : (l h k z : ℤ) → between (int_max l (int_min k (h +ℤ pos 1))) h z ≡ true → between l h z ≡ true
raised_within l h k z a = grind (arith, int_rules)

raised_keeps : (l h k z : ℤ) → int_le k z ≡ true → between l h z ≡ true → between (int_max l (int_min k (h +ℤ pos 1))) h z ≡ true
raised_keeps l h k z f a = grind (arith, int_rules)

lowered_good : (lo hi l h k : ℤ) → good lo hi l h ≡ true → good lo hi l (int_min h (int_max k (l -ℤ pos 1))) ≡ true
lowered_good lo hi l h k g = grind (arith, int_rules)

lowered_rank : (l h k : ℤ) → distance l (int_min h (int_max k (l -ℤ pos 1))) ≤ distance l h
lowered_rank l h k = grind (arith, int_rules)

lowered_within : (l h k z : ℤ) → between l (int_min h (int_max k (l -ℤ pos 1))) z ≡ true → between l h z ≡ true
lowered_within l h k z a = grind (arith, int_rules)

lowered_keeps : (l h k z : ℤ) → int_le z k ≡ true → between l h z ≡ true → between l (int_min h (int_max k (l -ℤ pos 1))) z ≡ true
lowered_keeps l h k z f a = grind (arith, int_rules)

-- the laws at an interval
module _ (lo hi : ℤ) where
  abbrev space : Space
  space = range_space lo hi

  abbrev of_sort : PlainValue → Bool
  of_sort = in_sort (ints lo hi)

  -- a good descriptor has two numbers
  record Ends (d : Descriptor) : Type 0 where
    l : ℤ
    h : ℤ
    is : d ≡ int l ∷ int h ∷ []

  in_sort-int : (x y : ℤ) (v : PlainValue) → in_sort (ints x y) v ≡ true → (n : ℤ) × (v ≡ int n)
  in_sort-int x y (int n) h = (n, refl)
  in_sort-int x y v h = cc

  ends : (d : Descriptor) → space.is_good d ≡ true → Ends d
  ends (l ∷ h ∷ []) g =
      let r = and_parts (fit (ints lo (hi +ℤ pos 1) ∷ ints (lo -ℤ pos 1) hi ∷ []) (l ∷ h ∷ [])) true g in
      let p = and_parts (in_sort (ints lo (hi +ℤ pos 1)) l) (in_sort (ints (lo -ℤ pos 1) hi) h && true) r.0 in
      let q = and_parts (in_sort (ints (lo -ℤ pos 1) hi) h) true p.1 in
      let x = in_sort-int lo (hi +ℤ pos 1) l p.0 in let y = in_sort-int (lo -ℤ pos 1) hi h q.0 in
      record { l = x.0; h = y.0; is = λ i. x.1 i ∷ y.1 i ∷ [] }
  ends d g = absurd (false_true (and_parts (fit (ints lo (hi +ℤ pos 1) ∷ ints (lo -ℤ pos 1) hi ∷ []) d) (range_kept d) g).1)

  covers-ends : (l h z : ℤ) → range_satisfies (int l ∷ int h ∷ []) (int z) ≡ (is_leaf (range_leaf (int l ∷ int h ∷ [])) (int z) || any_satisfies space (range_kids (int l ∷ int h ∷ [])) (int z))
  covers-ends l h z = by (int_lt l h) refl (is_eq (int_cmp l h)) refl
    where
      by : (c : Bool) → int_lt l h ≡ c → (e : Bool) → is_eq (int_cmp l h) ≡ e
          → between l h z ≡ (is_leaf (cond e (Some (int l)) None) (int z) || any_satisfies space (cond c ((int l ∷ int (middle l h) ∷ []) ∷ (int (middle l h +ℤ pos 1) ∷ int h ∷ []) ∷ []) []) (int z))
      by true p true q = let r : false ≡ true = sym (not_both l h p) ∙ q in cc
      by true p false q = covers_numbers l (middle l h) h z (half_low l h p) (half_high l h p)
      by false p true q = covers_leaf l h z p q
      by false p false q = covers_none l h z p q

  covers : (d : Descriptor) (v : PlainValue) → space.is_good d ≡ true → of_sort v ≡ true → space.satisfies d v ≡ (is_leaf (space.leaf d) v || any_satisfies space (space.kids d) v)
  covers d v g s =
      let e = ends d g in let z = in_sort-int lo hi v s in
      subst (λ d. space.satisfies d v ≡ (is_leaf (space.leaf d) v || any_satisfies space (space.kids d) v)) (sym e.is)
      (subst (λ v. space.satisfies (int e.l ∷ int e.h ∷ []) v ≡ (is_leaf (space.leaf (int e.l ∷ int e.h ∷ [])) v || any_satisfies space (space.kids (int e.l ∷ int e.h ∷ [])) v)) (sym z.1)
      (covers-ends e.l e.h z.0))

  leaf_in_sort : (d : Descriptor) (v : PlainValue) → space.is_good d ≡ true → space.leaf d ≡ Some v → of_sort v ≡ true
  leaf_in_sort d v g p = let e = ends d g in at_ends e.l e.h (subst (λ d. space.is_good d ≡ true) e.is g) (subst (λ d. space.leaf d ≡ Some v) e.is p)
    where
      at_ends : (l h : ℤ) → good lo hi l h ≡ true → range_leaf (int l ∷ int h ∷ []) ≡ Some v → of_sort v ≡ true
      at_ends l h k p = by (is_eq (int_cmp l h)) refl p
        where
          by : (e : Bool) → is_eq (int_cmp l h) ≡ e → cond e (Some (int l)) None ≡ Some v → of_sort v ≡ true
          by true q r = let same : int l ≡ v = cc in subst (λ u. of_sort u ≡ true) same (leaf_sorted lo hi l h k q)
          by false q r = cc

  leaf_first : (d : Descriptor) (v w : PlainValue) → space.is_good d ≡ true → space.leaf d ≡ Some v → of_sort w ≡ true → any_satisfies space (space.kids d) w ≡ true → Before v w
  leaf_first d v w g p i j = let e = ends d g in at_ends e.l e.h (subst (λ d. space.leaf d ≡ Some v) e.is p) (subst (λ d. any_satisfies space (space.kids d) w ≡ true) e.is j)
    where
      at_ends : (l h : ℤ) → range_leaf (int l ∷ int h ∷ []) ≡ Some v → any_satisfies space (range_kids (int l ∷ int h ∷ [])) w ≡ true → Before v w
      at_ends l h p j = by (is_eq (int_cmp l h)) refl (int_lt l h) refl p j
        where
          by : (e : Bool) → is_eq (int_cmp l h) ≡ e → (c : Bool) → int_lt l h ≡ c → cond e (Some (int l)) None ≡ Some v
              → any_satisfies space (cond c ((int l ∷ int (middle l h) ∷ []) ∷ (int (middle l h +ℤ pos 1) ∷ int h ∷ []) ∷ []) []) w ≡ true → Before v w
          by true q true r s t = let k : false ≡ true = sym (not_both l h r) ∙ q in cc
          by true q false r s t = cc
          by false q c r s t = cc

  kids_in_order : (d : Descriptor) → space.is_good d ≡ true → InOrder space of_sort (space.kids d)
  kids_in_order d g = let e = ends d g in subst (λ d. InOrder space of_sort (space.kids d)) (sym e.is) (at_ends e.l e.h)
    where
      at_ends : (l h : ℤ) → InOrder space of_sort (range_kids (int l ∷ int h ∷ []))
      at_ends l h = by (int_lt l h)
        where
          first : (v w : PlainValue) → of_sort v ≡ true → of_sort w ≡ true → range_satisfies (int l ∷ int (middle l h) ∷ []) v ≡ true → (range_satisfies (int (middle l h +ℤ pos 1) ∷ int h ∷ []) w || false) ≡ true → Before v w
          first v w i j a b =
              let z = in_sort-int lo hi v i in let y = in_sort-int lo hi w j in
              subst (λ v. Before v w) (sym z.1) (subst (Before (int z.0)) (sym y.1)
              (in_halves l (middle l h) h z.0 y.0 (subst (λ v. range_satisfies (int l ∷ int (middle l h) ∷ []) v ≡ true) z.1 a) (subst (λ w. (range_satisfies (int (middle l h +ℤ pos 1) ∷ int h ∷ []) w || false) ≡ true) y.1 b)))

          by : (c : Bool) → InOrder space of_sort (cond c ((int l ∷ int (middle l h) ∷ []) ∷ (int (middle l h +ℤ pos 1) ∷ int h ∷ []) ∷ []) [])
          by true = (first, (λ v w i j a b. absurd (false_true b), tt))
          by false = tt

  kids_fall : (d : Descriptor) → space.is_good d ≡ true → AllFall space of_sort (space.rank d) (space.kids d)
  kids_fall d g = let e = ends d g in subst (λ d. AllFall space of_sort (space.rank d) (space.kids d)) (sym e.is) (at_ends e.l e.h (subst (λ d. space.is_good d ≡ true) e.is g))
    where
      at_ends : (l h : ℤ) → good lo hi l h ≡ true → AllFall space of_sort (range_rank (int l ∷ int h ∷ [])) (range_kids (int l ∷ int h ∷ []))
      at_ends l h g = by (int_lt l h) refl
        where
          by : (c : Bool) → int_lt l h ≡ c → AllFall space of_sort (distance l h) (cond c ((int l ∷ int (middle l h) ∷ []) ∷ (int (middle l h +ℤ pos 1) ∷ int h ∷ []) ∷ []) [])
          by true p =
              let a = half_low l h p in let b = half_high l h p in
              (low_good lo hi l (middle l h) h g a b, gap_low l (middle l h) h a b, (high_good lo hi l (middle l h) h g a b, gap_high l (middle l h) h a b, tt))
          by false p = tt

  pub range-lawful : IsLawful (range_space lo hi) (in_sort (ints lo hi))
  range-lawful = record { covers = covers; leaf_in_sort = leaf_in_sort; leaf_first = leaf_first; kids_in_order = kids_in_order; kids_fall = kids_fall }

  -- the start holds each number of the interval
  pub range-starts : (a b : PlainValue) → in_sort (ints lo hi) a ≡ true → in_sort (ints lo hi) b ≡ true → Starts (range_space lo hi) (in_sort (ints lo hi)) (range_goal a b) (range_start a b)
  range-starts (int a) (int b) h k = record {
    good = start_good lo hi a b h k;
    holds_all = λ v s g. let z = in_sort-int lo hi v s in
        subst (λ v. range_satisfies (int a ∷ int b ∷ []) v ≡ true) (sym z.1) (both_between a b z.0 (subst (λ v. range_goal (int a) (int b) v ≡ true) z.1 g));
  }
  range-starts (int a) b h k = cc
  range-starts a b h k = cc

  -- the cuts
  pub low-cut : (x y : ℤ) (c : PlainValue) → in_sort (ints x y) c ≡ true → (d : Descriptor) → space.is_good d ≡ true → IsCut space of_sort (is_at_least c) d (range_low c d)
  low-cut x y c i d g =
      let e = ends d g in let k = in_sort-int x y c i in
      subst (λ d. IsCut space of_sort (is_at_least c) d (range_low c d)) (sym e.is)
      (subst (λ c. IsCut space of_sort (is_at_least c) (int e.l ∷ int e.h ∷ []) (range_low c (int e.l ∷ int e.h ∷ []))) (sym k.1)
      (at_ends e.l e.h k.0 (subst (λ d. space.is_good d ≡ true) e.is g)))
    where
      at_ends : (l h k : ℤ) → good lo hi l h ≡ true → IsCut space of_sort (is_at_least (int k)) (int l ∷ int h ∷ []) (int (int_max l (int_min k (h +ℤ pos 1))) ∷ int h ∷ [])
      at_ends l h k g = record {
        good = raised_good lo hi l h k g;
        rank = raised_rank l h k;
        within = λ v s a. let z = in_sort-int lo hi v s in
            subst (λ v. range_satisfies (int l ∷ int h ∷ []) v ≡ true) (sym z.1) (raised_within l h k z.0 (subst (λ v. range_satisfies (int (int_max l (int_min k (h +ℤ pos 1))) ∷ int h ∷ []) v ≡ true) z.1 a));
        keeps = λ v s f a. let z = in_sort-int lo hi v s in
            subst (λ v. range_satisfies (int (int_max l (int_min k (h +ℤ pos 1))) ∷ int h ∷ []) v ≡ true) (sym z.1)
            (raised_keeps l h k z.0 (subst (λ v. is_at_least (int k) v ≡ true) z.1 f) (subst (λ v. range_satisfies (int l ∷ int h ∷ []) v ≡ true) z.1 a));
      }

  pub high-cut : (x y : ℤ) (c : PlainValue) → in_sort (ints x y) c ≡ true → (d : Descriptor) → space.is_good d ≡ true → IsCut space of_sort (is_at_most c) d (range_high c d)
  high-cut x y c i d g =
      let e = ends d g in let k = in_sort-int x y c i in
      subst (λ d. IsCut space of_sort (is_at_most c) d (range_high c d)) (sym e.is)
      (subst (λ c. IsCut space of_sort (is_at_most c) (int e.l ∷ int e.h ∷ []) (range_high c (int e.l ∷ int e.h ∷ []))) (sym k.1)
      (at_ends e.l e.h k.0 (subst (λ d. space.is_good d ≡ true) e.is g)))
    where
      at_ends : (l h k : ℤ) → good lo hi l h ≡ true → IsCut space of_sort (is_at_most (int k)) (int l ∷ int h ∷ []) (int l ∷ int (int_min h (int_max k (l -ℤ pos 1))) ∷ [])
      at_ends l h k g = record {
        good = lowered_good lo hi l h k g;
        rank = lowered_rank l h k;
        within = λ v s a. let z = in_sort-int lo hi v s in
            subst (λ v. range_satisfies (int l ∷ int h ∷ []) v ≡ true) (sym z.1) (lowered_within l h k z.0 (subst (λ v. range_satisfies (int l ∷ int (int_min h (int_max k (l -ℤ pos 1))) ∷ []) v ≡ true) z.1 a));
        keeps = λ v s f a. let z = in_sort-int lo hi v s in
            subst (λ v. range_satisfies (int l ∷ int (int_min h (int_max k (l -ℤ pos 1))) ∷ []) v ≡ true) (sym z.1)
            (lowered_keeps l h k z.0 (subst (λ v. is_at_most (int k) v ≡ true) z.1 f) (subst (λ v. range_satisfies (int l ∷ int h ∷ []) v ≡ true) z.1 a));
      }
