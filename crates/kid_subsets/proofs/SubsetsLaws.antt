-- The search of subsets is lawful.
use Rattle.std.proofs.Common.{◌≡◌, ◌↔◌, ◌<◌, ◌≤◌, pos, Bool, true, false, cond, [], ◌∷◌, length, Some, None, refl, sym, ap, ◌∙◌, subst, inl, inr}
use Rattle.std.specs.Prelude.{not, ◌&&◌, ◌||◌}
use Rattle.std.specs.Int.{int_gap}
use Rattle.kid_value.specs.InSort.{in_sort}
use Rattle.kid_value.specs.Least.{least_value}
use Rattle.kid_value.specs.PlainSort.{PlainSort, sets}
use Rattle.kid_value.specs.PlainValue.{PlainValue}
use Rattle.kid_value.specs.Rows.Parts.{members_of, truth_of}
use Rattle.kid_value.specs.Rows.Set.{subset, union, inter, diff, with, without, least}
use Rattle.kid_value.specs.ValueOrder.{Before}
use Rattle.kid_value.specs.ValueSet.{value_eq}
use Rattle.kid_value.proofs.SortLemmas.{and_parts, and_both}
use Rattle.kid_value.proofs.ValueSetLaws.{value_eq-itself, value_eq-true}
use Rattle.kid_search.specs.Space.{Descriptor, Space, fit, is_leaf, any_satisfies, no_members}
use Rattle.kid_search.specs.SpaceLaws.{InOrder, AllFall, IsLawful, Starts, IsCut}
use Rattle.kid_subsets.specs.Subsets.{subsets_kept, subsets_satisfies, subsets_by, subsets_space, subsets_start, subsets_goal, subsets_drop, is_apart, subsets_take, is_within}
use Rattle.kid_search.proofs.BoolLemmas.{false_true, same_tests, or_cases, or_left, or_right, or_false, tell, clash, not_false, false_not, never_true}
use Rattle.kid_search.proofs.BranchLemmas.{gap}
use Rattle.kid_search.proofs.SetMeaning.{apart-has, has-apart, has, IsSet, in_sort-set, has-with, has-without, has-union, has-inter, has-diff, subset-has, same_sets, empty-has, before-sets, IsLeastIn, least-in, set-member, in_sort-with, in_sort-without, in_sort-union, in_sort-inter, in_sort-diff, card-length, without-fewer, diff-fewer}

-- what a set between two has
record Between (u w z : PlainValue) : Type 0 where
  above : (v : PlainValue) → has v u ≡ true → has v z ≡ true
  within : (v : PlainValue) → has v z ≡ true → (has v u || has v w) ≡ true

-- outside the open ones it has just those taken
fixed : (u w z v : PlainValue) → Between u w z → has v w ≡ false → has v z ≡ has v u
fixed u w z v b e = same_tests (has v z) (has v u) (λ h. subst (λ c. c ≡ true) (ap (λ c. has v u || c) e ∙ or_false (has v u)) (b.within v h)) (b.above v)

module _ (a : PlainSort) where
  abbrev space : Space
  space = subsets_space a

  record Good (u w : PlainValue) : Type 0 where
    taken : in_sort (sets a) u ≡ true
    open_ones : in_sort (sets a) w ≡ true
    apart : (v : PlainValue) → has v u ≡ true → has v w ≡ true → ⊥

  good : (u w : PlainValue) → space.is_good (u ∷ w ∷ []) ≡ true → Good u w
  good u w g =
      let r = and_parts (fit (sets a ∷ sets a ∷ []) (u ∷ w ∷ [])) (subsets_kept (u ∷ w ∷ [])) g in
      let p = and_parts (in_sort (sets a) u) (in_sort (sets a) w && true) r.0 in
      let q = and_parts (in_sort (sets a) w) true p.1 in
      record { taken = p.0; open_ones = q.0; apart = apart-has u w (in_sort-set a u p.0) (in_sort-set a w q.0) r.1 }

  is-good : (u w : PlainValue) → Good u w → space.is_good (u ∷ w ∷ []) ≡ true
  is-good u w g =
      and_both _ _ (and_both _ _ g.taken (and_both _ _ g.open_ones refl)) (has-apart u w (in_sort-set a u g.taken) (in_sort-set a w g.open_ones) g.apart)

  satisfies-is : (u w z : PlainValue) → in_sort (sets a) u ≡ true → in_sort (sets a) w ≡ true → in_sort (sets a) z ≡ true → (subsets_satisfies (u ∷ w ∷ []) z ≡ true) ↔ Between u w z
  satisfies-is u w z p q r =
      let i = in_sort-set a u p in let j = in_sort-set a w q in let k = in_sort-set a z r in
      let l = in_sort-set a (union u w) (in_sort-union a u w p q) in
      let low = subset-has u z i k in let high = subset-has z (union u w) k l in (
        λ h. let s = and_parts (truth_of (subset u z)) (truth_of (subset z (union u w)) && true) h in
            let t = and_parts (truth_of (subset z (union u w))) true s.1 in
            record { above = low.0 s.0; within = λ v m. sym (has-union v u w i j) ∙ high.0 t.0 v m },
        λ b. and_both _ _ (low.1 b.above) (and_both _ _ (high.1 (λ v m. has-union v u w i j ∙ b.within v m)) refl),
      )

  -- what a kid's sets are
  module _ (u w c : PlainValue) (g : Good u w) (least : IsLeastIn c w) where
    i : IsSet u
    i = in_sort-set a u g.taken

    j : IsSet w
    j = in_sort-set a w g.open_ones

    c_in : in_sort a c ≡ true
    c_in = set-member a w c g.open_ones least.inside

    c_new : has c u ≡ false
    c_new = never_true (has c u) (λ h. g.apart c h least.inside)

    fewer : in_sort (sets a) (without c w) ≡ true
    fewer = in_sort-without a c w g.open_ones

    larger : in_sort (sets a) (with c u) ≡ true
    larger = in_sort-with a c u c_in g.taken

    still_open : (v : PlainValue) → has v (without c w) ≡ true → (has v w ≡ true) × (value_eq v c ≡ false)
    still_open v h = let r = and_parts (has v w) (not (value_eq v c)) (sym (has-without v c w j) ∙ h) in (r.0, false_not (value_eq v c) r.1)

    good_first : Good u (without c w)
    good_first = record { taken = g.taken; open_ones = fewer; apart = λ v p q. g.apart v p (still_open v q).0 }

    good_second : Good (with c u) (without c w)
    good_second = record {
      taken = larger;
      open_ones = fewer;
      apart = λ v p q. let s = still_open v q in
          elim (or_cases (value_eq v c) (has v u) (sym (has-with v c u i) ∙ p)) [
            | inl e ↦ clash (value_eq v c) e s.1
            | inr h ↦ g.apart v h s.0
          ];
    }

    to_first : (z : PlainValue) → Between u w z → has c z ≡ false → Between u (without c w) z
    to_first z b n = record {
      above = b.above;
      within = λ v h. ap (λ d. has v u || d) (has-without v c w j) ∙ others (has v u) (has v w) (value_eq v c) (b.within v h)
          (never_true (value_eq v c) (λ e. clash (has c z) (ap (λ x. has x z) (sym (value_eq-true v c e)) ∙ h) n));
    }
      where
        others : (p q e : Bool) → (p || q) ≡ true → e ≡ false → (p || (q && not e)) ≡ true
        others true q e h n = refl
        others false true false h n = refl
        others false true true h n = cc
        others false false e h n = cc

    to_second : (z : PlainValue) → Between u w z → has c z ≡ true → Between (with c u) (without c w) z
    to_second z b n = record {
      above = λ v h. elim (or_cases (value_eq v c) (has v u) (sym (has-with v c u i) ∙ h)) [
        | inl e ↦ ap (λ x. has x z) (value_eq-true v c e) ∙ n
        | inr m ↦ b.above v m
      ];
      within = λ v h. (λ k. has-with v c u i k || has-without v c w j k) ∙ others (has v u) (has v w) (value_eq v c) (b.within v h);
    }
      where
        others : (p q e : Bool) → (p || q) ≡ true → ((e || p) || (q && not e)) ≡ true
        others true q true h = refl
        others true q false h = refl
        others false true true h = refl
        others false true false h = refl
        others false false e h = cc

    from_first : (z : PlainValue) → Between u (without c w) z → Between u w z
    from_first z b = record {
      above = b.above;
      within = λ v h. elim (or_cases (has v u) (has v (without c w)) (b.within v h)) [
        | inl m ↦ or_left (has v u) (has v w) m
        | inr m ↦ or_right (has v u) (has v w) (still_open v m).0
      ];
    }

    first_lacks : (z : PlainValue) → Between u (without c w) z → has c z ≡ false
    first_lacks z b = never_true (has c z) (λ h. elim (or_cases (has c u) (has c (without c w)) (b.within c h)) [
      | inl m ↦ clash (has c u) m c_new
      | inr m ↦ clash (value_eq c c) (value_eq-itself c) (still_open c m).1
    ])

    from_second : (z : PlainValue) → Between (with c u) (without c w) z → Between u w z
    from_second z b = record {
      above = λ v h. b.above v (has-with v c u i ∙ or_right (value_eq v c) (has v u) h);
      within = λ v h. elim (or_cases (has v (with c u)) (has v (without c w)) (b.within v h)) [
        | inl m ↦ elim (or_cases (value_eq v c) (has v u) (sym (has-with v c u i) ∙ m)) [
          | inl e ↦ or_right (has v u) (has v w) (ap (λ x. has x w) (value_eq-true v c e) ∙ least.inside)
          | inr k ↦ or_left (has v u) (has v w) k
        ]
        | inr m ↦ or_right (has v u) (has v w) (still_open v m).0
      ];
    }

    second_has : (z : PlainValue) → Between (with c u) (without c w) z → has c z ≡ true
    second_has z b = b.above c (has-with c c u i ∙ or_left (value_eq c c) (has c u) (value_eq-itself c))

    splits : (z : PlainValue) → in_sort (sets a) z ≡ true → subsets_satisfies (u ∷ w ∷ []) z ≡ any_satisfies space (subsets_by c u w) z
    splits z s =
        let here = satisfies-is u w z g.taken g.open_ones s in
        let first = satisfies-is u (without c w) z g.taken fewer s in
        let second = satisfies-is (with c u) (without c w) z larger fewer s in
        same_tests _ _
        (λ h. elim (tell (has c z)) [
          | inl y ↦ or_right (subsets_satisfies (u ∷ without c w ∷ []) z) _ (or_left (subsets_satisfies (with c u ∷ without c w ∷ []) z) false (second.1 (to_second z (here.0 h) y)))
          | inr n ↦ or_left (subsets_satisfies (u ∷ without c w ∷ []) z) _ (first.1 (to_first z (here.0 h) n))
        ])
        (λ h. elim (or_cases (subsets_satisfies (u ∷ without c w ∷ []) z) (subsets_satisfies (with c u ∷ without c w ∷ []) z || false) h) [
          | inl f ↦ here.1 (from_first z (first.0 f))
          | inr f ↦ here.1 (from_second z (second.0 (sym (or_false (subsets_satisfies (with c u ∷ without c w ∷ []) z)) ∙ f)))
        ])

    ordered : (z y : PlainValue) → in_sort (sets a) z ≡ true → in_sort (sets a) y ≡ true → subsets_satisfies (u ∷ without c w ∷ []) z ≡ true → (subsets_satisfies (with c u ∷ without c w ∷ []) y || false) ≡ true → Before z y
    ordered z y s t p q =
        let first = (satisfies-is u (without c w) z g.taken fewer s).0 p in
        let second = (satisfies-is (with c u) (without c w) y larger fewer t).0 (sym (or_false (subsets_satisfies (with c u ∷ without c w ∷ []) y)) ∙ q) in
        before-sets z y c (in_sort-set a z s) (in_sort-set a y t) (first_lacks z first) (second_has y second)
        (λ v b. let n = least.below v b in fixed u w z v (from_first z first) n ∙ sym (fixed u w y v (from_second y second) n))

  at_leaf : (u w z : PlainValue) → Good u w → in_sort (sets a) z ≡ true → value_eq w no_members ≡ true → subsets_satisfies (u ∷ w ∷ []) z ≡ (value_eq z u || false)
  at_leaf u w z g s e =
      let here = satisfies-is u w z g.taken g.open_ones s in
      same_tests _ _
      (λ h. let same = same_sets z u (in_sort-set a z s) (in_sort-set a u g.taken) (λ v. fixed u w z v (here.0 h) (empty-has w v e)) in
      or_left (value_eq z u) false (ap (value_eq z) (sym same) ∙ value_eq-itself z))
      (λ h. let same = value_eq-true z u (sym (or_false (value_eq z u)) ∙ h) in
      here.1 (record { above = λ v m. ap (has v) same ∙ m; within = λ v m. or_left (has v u) (has v w) (ap (has v) (sym same) ∙ m) }))

  chosen : PlainValue → PlainValue
  chosen w = least w (least_value a)

  covers : (d : Descriptor) (z : PlainValue) → space.is_good d ≡ true → in_sort (sets a) z ≡ true → space.satisfies d z ≡ (is_leaf (space.leaf d) z || any_satisfies space (space.kids d) z)
  covers (u ∷ w ∷ []) z g s = by (value_eq w no_members) refl (good u w g)
    where
      by : (b : Bool) → value_eq w no_members ≡ b → Good u w → subsets_satisfies (u ∷ w ∷ []) z ≡ (is_leaf (cond b (Some u) None) z || any_satisfies space (cond (not b) (subsets_by (least w (least_value a)) u w) []) z)
      by true e k = at_leaf u w z k s e
      by false e k = splits u w (least w (least_value a)) k (least-in w (least_value a) (in_sort-set a w k.open_ones) e) z s
  covers d z g s = cc

  leaf_in_sort : (d : Descriptor) (z : PlainValue) → space.is_good d ≡ true → space.leaf d ≡ Some z → in_sort (sets a) z ≡ true
  leaf_in_sort (u ∷ w ∷ []) z g e = by (value_eq w no_members) e (good u w g)
    where
      by : (b : Bool) → cond b (Some u) None ≡ Some z → Good u w → in_sort (sets a) z ≡ true
      by true f k = let same : u ≡ z = cc in ap (in_sort (sets a)) (sym same) ∙ k.taken
      by false f k = cc
  leaf_in_sort d z g e = cc

  leaf_first : (d : Descriptor) (z y : PlainValue) → space.is_good d ≡ true → space.leaf d ≡ Some z → in_sort (sets a) y ≡ true → any_satisfies space (space.kids d) y ≡ true → Before z y
  leaf_first (u ∷ w ∷ []) z y g e s h = by (value_eq w no_members) e h
    where
      by : (b : Bool) → cond b (Some u) None ≡ Some z → any_satisfies space (cond (not b) (subsets_by (least w (least_value a)) u w) []) y ≡ true → Before z y
      by true f k = cc
      by false f k = cc
  leaf_first d z y g e s h = cc

  kids_in_order : (d : Descriptor) → space.is_good d ≡ true → InOrder space (in_sort (sets a)) (space.kids d)
  kids_in_order (u ∷ w ∷ []) g = by (value_eq w no_members) refl (good u w g)
    where
      by : (b : Bool) → value_eq w no_members ≡ b → Good u w → InOrder space (in_sort (sets a)) (cond (not b) (subsets_by (least w (least_value a)) u w) [])
      by true e k = tt
      by false e k = (
        λ z y s t p q. ordered u w (least w (least_value a)) k (least-in w (least_value a) (in_sort-set a w k.open_ones) e) z y s t p q,
        (λ z y s t p q. absurd (false_true q), tt),
      )
  kids_in_order d g = cc

  rank-is : (u w : PlainValue) → in_sort (sets a) w ≡ true → space.rank (u ∷ w ∷ []) ≡ length (members_of w)
  rank-is u w s = ap (int_gap (pos 0)) (card-length w (in_sort-set a w s)) ∙ gap (length (members_of w))

  kids_fall : (d : Descriptor) → space.is_good d ≡ true → AllFall space (in_sort (sets a)) (space.rank d) (space.kids d)
  kids_fall (u ∷ w ∷ []) g = by (value_eq w no_members) refl (good u w g)
    where
      by : (b : Bool) → value_eq w no_members ≡ b → Good u w → AllFall space (in_sort (sets a)) (space.rank (u ∷ w ∷ [])) (cond (not b) (subsets_by (least w (least_value a)) u w) [])
      by true e k = tt
      by false e k =
          let c = least w (least_value a) in
          let l = least-in w (least_value a) (in_sort-set a w k.open_ones) e in
          let first = good_first u w c k l in
          let second = good_second u w c k l in
          let falls : (x : PlainValue) → space.rank (x ∷ without c w ∷ []) < space.rank (u ∷ w ∷ []) = λ x. subst (λ n. n < space.rank (u ∷ w ∷ [])) (sym (rank-is x (without c w) first.open_ones))
          (subst (λ n. length (members_of (without c w)) < n) (sym (rank-is u w k.open_ones)) (without-fewer w (least_value a) (in_sort-set a w k.open_ones) e)) in
          (is-good u (without c w) first, falls u, (is-good (with c u) (without c w) second, falls (with c u), tt))
  kids_fall d g = cc

  pub subsets-lawful : IsLawful (subsets_space a) (in_sort (sets a))
  subsets-lawful = record { covers = covers; leaf_in_sort = leaf_in_sort; leaf_first = leaf_first; kids_in_order = kids_in_order; kids_fall = kids_fall }

  -- the start holds each subset
  pub subsets-starts : (s : PlainValue) → in_sort (sets a) s ≡ true → Starts (subsets_space a) (in_sort (sets a)) (subsets_goal s) (subsets_start s)
  subsets-starts s h = record {
    good = is-good no_members s (record { taken = refl; open_ones = h; apart = λ v p q. absurd (false_true p) });
    holds_all = λ z i g. (satisfies-is no_members s z refl h i).1 (record {
      above = λ v p. absurd (false_true p);
      within = λ v m. (subset-has z s (in_sort-set a z i) (in_sort-set a s h)).0 g v m;
    });
  }

  -- the cuts
  module _ (b : PlainSort) (c : PlainValue) (c_sort : in_sort (sets b) c ≡ true) where
    c_set : IsSet c
    c_set = in_sort-set b c c_sort

    left_over : (u w v : PlainValue) → Good u w → has v (diff w c) ≡ true → (has v w ≡ true) × (has v c ≡ false)
    left_over u w v k h = let r = and_parts (has v w) (not (has v c)) (sym (has-diff v w c (in_sort-set a w k.open_ones) c_set) ∙ h) in (r.0, false_not (has v c) r.1)

    not_rank : (u x w : PlainValue) → in_sort (sets a) w ≡ true → space.rank (x ∷ diff w c ∷ []) ≤ space.rank (u ∷ w ∷ [])
    not_rank u x w s =
        subst (λ n. n ≤ space.rank (u ∷ w ∷ [])) (sym (rank-is x (diff w c) (in_sort-diff a w c s c_set)))
        (subst (λ n. length (members_of (diff w c)) ≤ n) (sym (rank-is u w s)) (diff-fewer w c (in_sort-set a w s) c_set))

    pub drop-cut : (d : Descriptor) → space.is_good d ≡ true → IsCut space (in_sort (sets a)) (is_apart c) d (subsets_drop c d)
    drop-cut (u ∷ w ∷ []) g = by (good u w g)
      where
        by : Good u w → IsCut space (in_sort (sets a)) (is_apart c) (u ∷ w ∷ []) (u ∷ diff w c ∷ [])
        by k =
            let j = in_sort-set a w k.open_ones in
            let l = in_sort-diff a w c k.open_ones c_set in
            record {
              good = is-good u (diff w c) (record { taken = k.taken; open_ones = l; apart = λ v p q. k.apart v p (left_over u w v k q).0 });
              rank = not_rank u u w k.open_ones;
              within = λ z s h.
                  let t = (satisfies-is u (diff w c) z k.taken l s).0 h in
                  (satisfies-is u w z k.taken k.open_ones s).1 (record {
                    above = t.above;
                    within = λ v m. elim (or_cases (has v u) (has v (diff w c)) (t.within v m)) [
                      | inl p ↦ or_left (has v u) (has v w) p
                      | inr p ↦ or_right (has v u) (has v w) (left_over u w v k p).0
                    ];
                  });
              keeps = λ z s f h.
                  let t = (satisfies-is u w z k.taken k.open_ones s).0 h in
                  (satisfies-is u (diff w c) z k.taken l s).1 (record {
                    above = t.above;
                    within = λ v m. elim (or_cases (has v u) (has v w) (t.within v m)) [
                      | inl p ↦ or_left (has v u) (has v (diff w c)) p
                      | inr p ↦ or_right (has v u) (has v (diff w c))
                          (has-diff v w c j c_set ∙ and_both (has v w) (not (has v c)) p (not_false (has v c) (never_true (has v c) (λ q. apart-has z c (in_sort-set a z s) c_set f v m q))))
                    ];
                  });
            }
    drop-cut d g = absurd (false_true (and_parts (fit (sets a ∷ sets a ∷ []) d) (subsets_kept d) g).1)

    pub take-cut : (d : Descriptor) → space.is_good d ≡ true → IsCut space (in_sort (sets a)) (is_within c) d (subsets_take c d)
    take-cut (u ∷ w ∷ []) g = by (good u w g)
      where
        shared : (p q r : Bool) → (p || q) ≡ true → ((p || (q && r)) || (q && not r)) ≡ true
        shared true q r h = refl
        shared false true true h = refl
        shared false true false h = refl
        shared false false r h = cc

        by : Good u w → IsCut space (in_sort (sets a)) (is_within c) (u ∷ w ∷ []) (union u (inter w c) ∷ diff w c ∷ [])
        by k =
            let i = in_sort-set a u k.taken in
            let j = in_sort-set a w k.open_ones in
            let l = in_sort-diff a w c k.open_ones c_set in
            let m = in_sort-inter a w c k.open_ones c_set in
            let n = in_sort-union a u (inter w c) k.taken m in
            let taken : (v : PlainValue) → has v (union u (inter w c)) ≡ (has v u || (has v w && has v c)) =
            λ v. has-union v u (inter w c) i (in_sort-set a (inter w c) m) ∙ ap (λ e. has v u || e) (has-inter v w c j c_set) in
            record {
              good = is-good (union u (inter w c)) (diff w c) (record {
                taken = n;
                open_ones = l;
                apart = λ v p q. let r = left_over u w v k q in
                    elim (or_cases (has v u) (has v w && has v c) (sym (taken v) ∙ p)) [
                      | inl e ↦ k.apart v e r.0
                      | inr e ↦ clash (has v c) (and_parts (has v w) (has v c) e).1 r.1
                    ];
              });
              rank = not_rank u (union u (inter w c)) w k.open_ones;
              within = λ z s h.
                  let t = (satisfies-is (union u (inter w c)) (diff w c) z n l s).0 h in
                  (satisfies-is u w z k.taken k.open_ones s).1 (record {
                    above = λ v p. t.above v (taken v ∙ or_left (has v u) (has v w && has v c) p);
                    within = λ v p. elim (or_cases (has v (union u (inter w c))) (has v (diff w c)) (t.within v p)) [
                      | inl q ↦ elim (or_cases (has v u) (has v w && has v c) (sym (taken v) ∙ q)) [
                        | inl e ↦ or_left (has v u) (has v w) e
                        | inr e ↦ or_right (has v u) (has v w) (and_parts (has v w) (has v c) e).0
                      ]
                      | inr q ↦ or_right (has v u) (has v w) (left_over u w v k q).0
                    ];
                  });
              keeps = λ z s f h.
                  let t = (satisfies-is u w z k.taken k.open_ones s).0 h in
                  let all = (subset-has c z c_set (in_sort-set a z s)).0 f in
                  (satisfies-is (union u (inter w c)) (diff w c) z n l s).1 (record {
                    above = λ v p. elim (or_cases (has v u) (has v w && has v c) (sym (taken v) ∙ p)) [
                      | inl e ↦ t.above v e
                      | inr e ↦ all v (and_parts (has v w) (has v c) e).1
                    ];
                    within = λ v p. (λ x. taken v x || has-diff v w c j c_set x) ∙ shared (has v u) (has v w) (has v c) (t.within v p);
                  });
            }
    take-cut d g = absurd (false_true (and_parts (fit (sets a ∷ sets a ∷ []) d) (subsets_kept d) g).1)
