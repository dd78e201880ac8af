-- The search of sequences is lawful.
use Rattle.std.proofs.Common.{◌≡◌, ◌↔◌, ℕ, ◌+◌, ◌<◌, ◌≤◌, ℤ, pos, ◌-ℤ◌, Bool, true, false, cond, List, [], ◌∷◌, ◌++◌, map, length, Some, refl, sym, ap, ◌∙◌, subst, inl, inr, arith}
use Rattle.std.specs.Prelude.{◌&&◌, ◌||◌, int_le, int_lt, nat_le}
use Rattle.std.specs.Int.{int_gap, int_min, int_max}
use Rattle.std.proofs.lemmas.Int.{ints as int_rules}
use Rattle.std.proofs.lemmas.Bool.Decides.{nat_tests}
use Rattle.std.proofs.lemmas.List.{append_assoc, append-nil, length-append}
use Rattle.kid_value.specs.InSort.{in_sort}
use Rattle.kid_value.specs.PlainSort.{PlainSort, sets, seqs}
use Rattle.kid_value.specs.PlainValue.{PlainValue, int, seq, none}
use Rattle.kid_value.specs.Rows.Parts.{members_of, truth_of, number_of}
use Rattle.kid_value.specs.Rows.Number.{le, lt, max, sub}
use Rattle.kid_value.specs.Rows.Set.{subset, inter}
use Rattle.kid_value.specs.Rows.Seq.{prefix, items, rest, len, snoc}
use Rattle.kid_value.specs.ValueOrder.{Before}
use Rattle.kid_value.specs.ValueSet.{value_eq, is_member}
use Rattle.kid_value.proofs.SortLemmas.{and_parts, and_both}
use Rattle.kid_value.proofs.ValueSetLaws.{value_eq-true}
use Rattle.kid_search.specs.Space.{Descriptor, Space, fit, is_leaf, any_satisfies}
use Rattle.kid_search.specs.SpaceLaws.{InOrder, AllFall, IsLawful, Starts, IsCut}
use Rattle.kid_seqs.specs.Seqs.{seqs_kept, fewer_of, seqs_satisfies, seqs_leaf, seqs_kids, seqs_space, seqs_goal, seqs_start, seqs_pool, goes_on_in}
use Rattle.kid_search.proofs.BoolLemmas.{false_true, same_tests, or_cases, or_left, or_right}
use Rattle.kid_search.proofs.BranchLemmas.{both_true, under_kid, kid_under, kids_fall_by, kids_in_order_by, guarded_leaf, leaf_guarded, some_guarded, guarded_kids, kids_guarded}
use Rattle.kid_seqs.proofs.SequenceMeaning.{listed, IsSeq, in_sort-seq, in_sort-length, same_sequences, len-listed, snoc-listed, prefix-listed, listed-prefix, items-set, rest-seq, has-items, has-rest, before-sequences, in_sort-snoc}
use Rattle.kid_search.proofs.SetMeaning.{has, IsSet, in_sort-set, has-inter, subset-has, set-member, in_sort-inter, in_sort-is, is_member-here, ascends-members}

has_room : (n bound : ℕ) (most : ℤ) → int_lt (pos n) (int_min most (pos bound)) ≡ true → n < bound
has_room n bound most h = grind (arith, int_rules)

room : (n m bound : ℕ) (most : ℤ) → n < m → m ≤ bound → int_le (pos m) most ≡ true → int_lt (pos n) (int_min most (pos bound)) ≡ true
room n m bound most h k l = grind (arith, int_rules)

falls : (n : ℕ) (m : ℤ) → int_lt (pos n) m ≡ true → int_gap (pos 0) (int_max (pos 0) (m -ℤ pos (n + 1))) < int_gap (pos 0) (int_max (pos 0) (m -ℤ pos n))
falls n m h = grind (arith, int_rules)

none_within : (n : ℕ) → nat_le 0 n ≡ true
none_within n = grind (arith, nat_tests)

module _ (a : PlainSort) (bound : ℕ) (most : ℤ) where
  abbrev space : Space
  space = seqs_space bound most a

  abbrev of_sort : PlainValue → Bool
  of_sort = in_sort (seqs a bound)

  record Good (v w : PlainValue) : Type 0 where
    front : of_sort v ≡ true
    pool : in_sort (sets a) w ≡ true

  good : (v w : PlainValue) → space.is_good (v ∷ w ∷ []) ≡ true → Good v w
  good v w g =
      let r = and_parts (fit (seqs a bound ∷ sets a ∷ []) (v ∷ w ∷ [])) true g in
      let p = and_parts (of_sort v) (in_sort (sets a) w && true) r.0 in
      record { front = p.0; pool = (and_parts (in_sort (sets a) w) true p.1).0 }

  is-good : (v w : PlainValue) → Good v w → space.is_good (v ∷ w ∷ []) ≡ true
  is-good v w g = and_both _ _ (and_both _ _ g.front (and_both _ _ g.pool refl)) refl

  -- a sequence goes on from the front within the pool
  record GoesOn (v w z : PlainValue) : Type 0 where
    later : List PlainValue
    whole : listed z ≡ listed v ++ later
    pooled : (x : PlainValue) → is_member x later ≡ true → has x w ≡ true
    few : int_le (pos (length (listed z))) most ≡ true

  few-is : (z : PlainValue) → IsSeq z → truth_of (le (len z) (int most)) ≡ int_le (pos (length (listed z))) most
  few-is z i = ap (λ t. truth_of (le t (int most))) (len-listed z i)

  room-is : (v : PlainValue) → IsSeq v → truth_of (lt (len v) (fewer_of bound most)) ≡ int_lt (pos (length (listed v))) (int_min most (pos bound))
  room-is v i = ap (λ t. truth_of (lt t (fewer_of bound most))) (len-listed v i)

  satisfies-is : (v w z : PlainValue) → Good v w → of_sort z ≡ true → (seqs_satisfies bound most (v ∷ w ∷ []) z ≡ true) ↔ GoesOn v w z
  satisfies-is v w z g s =
      let i = in_sort-seq a bound v g.front in let j = in_sort-set a w g.pool in let k = in_sort-seq a bound z s in
      let inside = subset-has (items (rest z (len v))) w (items-set (rest z (len v)) (rest-seq z v k i)) j in (
        λ h. let p = and_parts (truth_of (prefix v z)) (truth_of (subset (items (rest z (len v))) w) && (truth_of (le (len z) (int most)) && true)) h in
            let q = and_parts (truth_of (subset (items (rest z (len v))) w)) (truth_of (le (len z) (int most)) && true) p.1 in
            let r = and_parts (truth_of (le (len z) (int most))) true q.1 in
            let f = prefix-listed v z i k p.0 in
            record { later = f.0; whole = f.1; pooled = λ x m. inside.0 q.0 x (has-rest x z v f.0 k i f.1 ∙ m); few = sym (few-is z k) ∙ r.0 },
        λ t. and_both _ _ (listed-prefix v z t.later i k t.whole)
            (and_both _ _ (inside.1 (λ x m. t.pooled x (sym (has-rest x z v t.later k i t.whole) ∙ m))) (and_both _ _ (few-is z k ∙ t.few) refl)),
      )

  -- a kid
  kid-good : (v w x : PlainValue) → Good v w → has x w ≡ true → truth_of (lt (len v) (fewer_of bound most)) ≡ true → Good (snoc v x) w
  kid-good v w x g m h = record {
    front = in_sort-snoc a bound v x g.front (set-member a w x g.pool m) (has_room (length (listed v)) bound most (sym (room-is v (in_sort-seq a bound v g.front)) ∙ h));
    pool = g.pool;
  }

  -- where there are kids, a cast of a kid's front changes nothing
  pub kid-sorted : (v w x : PlainValue) → space.is_good (v ∷ w ∷ []) ≡ true → has x w ≡ true → truth_of (lt (len v) (fewer_of bound most)) ≡ true → in_sort (seqs a bound) (snoc v x) ≡ true
  kid-sorted v w x g m h = (kid-good v w x (good v w g) m h).front

  -- the items of what goes on from a kid
  kid-whole : (v w x z : PlainValue) → IsSeq v → (t : GoesOn (snoc v x) w z) → listed z ≡ listed v ++ x ∷ t.later
  kid-whole v w x z i t = t.whole ∙ ap (λ us. us ++ t.later) (snoc-listed v x i) ∙ append_assoc (listed v) (x ∷ []) t.later

  down : (v w z : PlainValue) → Good v w → of_sort z ≡ true → (us : List PlainValue) → listed z ≡ listed v ++ us → ((x : PlainValue) → is_member x us ≡ true → has x w ≡ true) → int_le (pos (length (listed z))) most ≡ true
      → (is_leaf (seqs_leaf bound most (v ∷ w ∷ [])) z || any_satisfies space (seqs_kids bound most (v ∷ w ∷ [])) z) ≡ true
  down v w z g s [] e m f =
      let i = in_sort-seq a bound v g.front in let k = in_sort-seq a bound z s in
      let same : z ≡ v = same_sequences z v k i (e ∙ append-nil (listed v)) in
      let l : truth_of (le (len v) (int most)) ≡ true = ap (λ t. truth_of (le (len t) (int most))) (sym same) ∙ few-is z k ∙ f in
      or_left _ _ (ap (is_leaf (seqs_leaf bound most (v ∷ w ∷ []))) same ∙ leaf_guarded (truth_of (le (len v) (int most))) v l)
  down v w z g s (x ∷ us) e m f =
      let i = in_sort-seq a bound v g.front in
      let inside : has x w ≡ true = m x (is_member-here x us) in
      let r : truth_of (lt (len v) (fewer_of bound most)) ≡ true =
      room-is v i ∙ room (length (listed v)) (length (listed z)) bound most (omega (arith, ap length e, length-append (listed v) (x ∷ us))) (in_sort-length a bound z s) f in
      let here : GoesOn (snoc v x) w z = record {
        later = us;
        whole = e ∙ sym (ap (λ ts. ts ++ us) (snoc-listed v x i) ∙ append_assoc (listed v) (x ∷ []) us);
        pooled = λ y n. m y (or_right (value_eq y x) (is_member y us) n);
        few = f;
      } in
      or_right (is_leaf (seqs_leaf bound most (v ∷ w ∷ [])) z) _
      (kids_guarded space (truth_of (lt (len v) (fewer_of bound most))) (map (λ y. snoc v y ∷ w ∷ []) (members_of w)) z r
      (kid_under space (λ y. snoc v y ∷ w ∷ []) (members_of w) z x inside ((satisfies-is (snoc v x) w z (kid-good v w x g inside r) s).1 here)))

  up : (v w z : PlainValue) → Good v w → of_sort z ≡ true → (is_leaf (seqs_leaf bound most (v ∷ w ∷ [])) z || any_satisfies space (seqs_kids bound most (v ∷ w ∷ [])) z) ≡ true → GoesOn v w z
  up v w z g s h =
      let i = in_sort-seq a bound v g.front in let k = in_sort-seq a bound z s in
      elim (or_cases (is_leaf (seqs_leaf bound most (v ∷ w ∷ [])) z) (any_satisfies space (seqs_kids bound most (v ∷ w ∷ [])) z) h) [
        | inl e ↦
            let r = guarded_leaf (truth_of (le (len v) (int most))) v z e in
            record { later = []; whole = ap listed r.1 ∙ sym (append-nil (listed v)); pooled = λ x m. absurd (false_true m); few = sym (few-is z k) ∙ ap (λ t. truth_of (le (len t) (int most))) r.1 ∙ r.0 }
        | inr e ↦
            let r = guarded_kids space (truth_of (lt (len v) (fewer_of bound most))) (map (λ y. snoc v y ∷ w ∷ []) (members_of w)) z e in
            let u = under_kid space (λ y. snoc v y ∷ w ∷ []) (members_of w) z r.1 in
            let t = (satisfies-is (snoc v u.item) w z (kid-good v w u.item g u.inside r.0) s).0 u.holds in
            record {
              later = u.item ∷ t.later;
              whole = kid-whole v w u.item z i t;
              pooled = λ y m. elim (or_cases (value_eq y u.item) (is_member y t.later) m) [
                | inl q ↦ ap (λ x. has x w) (value_eq-true y u.item q) ∙ u.inside
                | inr q ↦ t.pooled y q
              ];
              few = t.few;
            }
      ]

  covers : (d : Descriptor) (z : PlainValue) → space.is_good d ≡ true → of_sort z ≡ true → space.satisfies d z ≡ (is_leaf (space.leaf d) z || any_satisfies space (space.kids d) z)
  covers (v ∷ w ∷ []) z g s =
      let k = good v w g in let here = satisfies-is v w z k s in
      same_tests _ _ (λ h. let t = here.0 h in down v w z k s t.later t.whole t.pooled t.few) (λ h. here.1 (up v w z k s h))
  covers d z g s = cc

  leaf_in_sort : (d : Descriptor) (z : PlainValue) → space.is_good d ≡ true → space.leaf d ≡ Some z → of_sort z ≡ true
  leaf_in_sort (v ∷ w ∷ []) z g e = let k = good v w g in ap of_sort (sym (some_guarded (truth_of (le (len v) (int most))) v z e).1) ∙ k.front
  leaf_in_sort d z g e = cc

  leaf_first : (d : Descriptor) (z y : PlainValue) → space.is_good d ≡ true → space.leaf d ≡ Some z → of_sort y ≡ true → any_satisfies space (space.kids d) y ≡ true → Before z y
  leaf_first (v ∷ w ∷ []) z y g e s h =
      let k = good v w g in let i = in_sort-seq a bound v k.front in
      let r = guarded_kids space (truth_of (lt (len v) (fewer_of bound most))) (map (λ x. snoc v x ∷ w ∷ []) (members_of w)) y h in
      let u = under_kid space (λ x. snoc v x ∷ w ∷ []) (members_of w) y r.1 in
      let t = (satisfies-is (snoc v u.item) w y (kid-good v w u.item k u.inside r.0) s).0 u.holds in
      subst (λ x. Before x y) (some_guarded (truth_of (le (len v) (int most))) v z e).1
      (before-sequences v y i (in_sort-seq a bound y s) (inl (record { next = u.item; rest = t.later; longer = kid-whole v w u.item y i t })))
  leaf_first d z y g e s h = cc

  kids_in_order : (d : Descriptor) → space.is_good d ≡ true → InOrder space of_sort (space.kids d)
  kids_in_order (v ∷ w ∷ []) g = by (truth_of (lt (len v) (fewer_of bound most))) refl (good v w g)
    where
      by : (b : Bool) → truth_of (lt (len v) (fewer_of bound most)) ≡ b → Good v w → InOrder space of_sort (cond b (map (λ x. snoc v x ∷ w ∷ []) (members_of w)) [])
      by true e k =
          let i = in_sort-seq a bound v k.front in
          kids_in_order_by space (λ x. snoc v x ∷ w ∷ []) of_sort (members_of w) (ascends-members w (in_sort-set a w k.pool))
          (λ x y z t m n b p q h l.
          let f = (satisfies-is (snoc v x) w z (kid-good v w x k m e) p).0 h in
          let s = (satisfies-is (snoc v y) w t (kid-good v w y k n e) q).0 l in
          before-sequences z t (in_sort-seq a bound z p) (in_sort-seq a bound t q)
          (inr (record { front = listed v; lesser = x; greater = y; first_rest = f.later; second_rest = s.later; first = kid-whole v w x z i f; second = kid-whole v w y t i s; before = b })))
      by false e k = tt
  kids_in_order d g = cc

  rank-is : (v w : PlainValue) → IsSeq v → space.rank (v ∷ w ∷ []) ≡ int_gap (pos 0) (int_max (pos 0) (int_min most (pos bound) -ℤ pos (length (listed v))))
  rank-is v w i = ap (λ t. int_gap (pos 0) (number_of (max (int (pos 0)) (sub (fewer_of bound most) t)))) (len-listed v i)

  kids_fall : (d : Descriptor) → space.is_good d ≡ true → AllFall space of_sort (space.rank d) (space.kids d)
  kids_fall (v ∷ w ∷ []) g = by (truth_of (lt (len v) (fewer_of bound most))) refl (good v w g)
    where
      by : (b : Bool) → truth_of (lt (len v) (fewer_of bound most)) ≡ b → Good v w → AllFall space of_sort (space.rank (v ∷ w ∷ [])) (cond b (map (λ x. snoc v x ∷ w ∷ []) (members_of w)) [])
      by true e k =
          let i = in_sort-seq a bound v k.front in
          kids_fall_by space (λ x. snoc v x ∷ w ∷ []) of_sort (space.rank (v ∷ w ∷ [])) (members_of w)
          (λ x m. let l = kid-good v w x k m e in
          let long : length (listed (snoc v x)) ≡ length (listed v) + 1 = ap length (snoc-listed v x i) ∙ length-append (listed v) (x ∷ []) in
          let below = falls (length (listed v)) (int_min most (pos bound)) (sym (room-is v i) ∙ e) in
          let less : space.rank (snoc v x ∷ w ∷ []) < space.rank (v ∷ w ∷ []) =
          subst (λ n. n < space.rank (v ∷ w ∷ [])) (sym (rank-is (snoc v x) w (in_sort-seq a bound (snoc v x) l.front) ∙ ap (λ n. int_gap (pos 0) (int_max (pos 0) (int_min most (pos bound) -ℤ pos n))) long))
          (subst (λ n. int_gap (pos 0) (int_max (pos 0) (int_min most (pos bound) -ℤ pos (length (listed v) + 1))) < n) (sym (rank-is v w i)) below) in
          (is-good (snoc v x) w l, less))
      by false e k = tt
  kids_fall d g = cc

  pub seqs-lawful : IsLawful (seqs_space bound most a) (in_sort (seqs a bound))
  seqs-lawful = record { covers = covers; leaf_in_sort = leaf_in_sort; leaf_first = leaf_first; kids_in_order = kids_in_order; kids_fall = kids_fall }

  -- the start holds each sequence of at most so many items of the set
  pub seqs-starts : (s : PlainValue) → in_sort (sets a) s ≡ true → Starts (seqs_space bound most a) (in_sort (seqs a bound)) (seqs_goal bound most s) (seqs_start s)
  seqs-starts s h =
      let k : Good (seq none) s = record { front = empty_in; pool = h } in
      record {
        good = is-good (seq none) s k;
        holds_all = λ z i g.
            let j = in_sort-seq a bound z i in
            let r = both_true (subset (items z) s) (le (len z) (int most)) g in
            (satisfies-is (seq none) s z k i).1 (record {
              later = listed z;
              whole = refl;
              pooled = λ x m. (subset-has (items z) s (items-set z j) (in_sort-set a s h)).0 r.0 x (has-items x z j ∙ m);
              few = sym (few-is z j) ∙ r.1;
            });
      }
    where
      empty_in : of_sort (seq none) ≡ true
      empty_in = in_sort-is (seqs a bound) (seq none) (and_both _ _ (none_within bound) refl) tt

  -- the cut
  pub pool-cut : (b : PlainSort) (c : PlainValue) → in_sort (sets b) c ≡ true → (d : Descriptor) → space.is_good d ≡ true → IsCut space of_sort (goes_on_in c d) d (seqs_pool c d)
  pool-cut b c i (v ∷ w ∷ []) g = by (good v w g)
    where
      c_set : IsSet c
      c_set = in_sort-set b c i

      by : Good v w → IsCut space of_sort (goes_on_in c (v ∷ w ∷ [])) (v ∷ w ∷ []) (v ∷ inter w c ∷ [])
      by k =
          let j = in_sort-seq a bound v k.front in
          let l = in_sort-set a w k.pool in
          let n : Good v (inter w c) = record { front = k.front; pool = in_sort-inter a w c k.pool c_set } in
          record {
            good = is-good v (inter w c) n;
            rank = omega arith;
            within = λ z s h.
                let t = (satisfies-is v (inter w c) z n s).0 h in
                (satisfies-is v w z k s).1 (record { later = t.later; whole = t.whole; pooled = λ x m. (and_parts (has x w) (has x c) (sym (has-inter x w c l c_set) ∙ t.pooled x m)).0; few = t.few });
            keeps = λ z s f h.
                let t = (satisfies-is v w z k s).0 h in
                let y = in_sort-seq a bound z s in
                let inside = (subset-has (items (rest z (len v))) c (items-set (rest z (len v)) (rest-seq z v y j)) c_set).0 f in
                (satisfies-is v (inter w c) z n s).1 (record {
                  later = t.later;
                  whole = t.whole;
                  pooled = λ x m. has-inter x w c l c_set ∙ and_both _ _ (t.pooled x m) (inside x (has-rest x z v t.later y j t.whole ∙ m));
                  few = t.few;
                });
          }
  pool-cut b c i d g = absurd (false_true (and_parts (fit (seqs a bound ∷ sets a ∷ []) d) (seqs_kept d) g).1)
