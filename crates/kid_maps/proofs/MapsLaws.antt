-- The search of maps is lawful.
use Rattle.std.proofs.Common.{◌≡◌, ◌↔◌, ◌<◌, ◌≤◌, pos, Bool, true, false, cond, [], ◌∷◌, length, Option, Some, None, refl, sym, ap, ◌∙◌, subst, arith}
use Rattle.std.specs.Prelude.{not, ◌&&◌, ◌||◌, is_some}
use Rattle.std.specs.Int.{int_gap}
use Rattle.std.specs.Option.{option_map}
use Rattle.kid_value.specs.InSort.{in_sort}
use Rattle.kid_value.specs.Least.{least_value}
use Rattle.kid_value.specs.MapOrder.{IsLowerAt}
use Rattle.kid_value.specs.PlainSort.{PlainSort, sets, maps}
use Rattle.kid_value.specs.PlainValue.{PlainValue}
use Rattle.kid_value.specs.Rows.Parts.{members_of, truth_of, number_of}
use Rattle.kid_value.specs.Rows.Logic.{eq}
use Rattle.kid_value.specs.Rows.Map.{dom, ran, get, put, drop, fill, submap, fits, narrow, has_value_in, cut_down}
use Rattle.kid_value.specs.Rows.Set.{subset, union, card, least}
use Rattle.kid_value.specs.ValueOrder.{Before}
use Rattle.kid_value.specs.ValueSet.{value_eq, is_member, Ascends}
use Rattle.kid_value.proofs.SortLemmas.{and_parts, and_both}
use Rattle.kid_value.proofs.ValueSetLaws.{value_eq-itself, value_eq-true}
use Rattle.kid_search.specs.Space.{Descriptor, Space, fit, is_leaf, any_satisfies, no_members}
use Rattle.kid_search.specs.SpaceLaws.{InOrder, AllFall, IsLawful, Starts, IsCut}
use Rattle.kid_maps.specs.Maps.{no_keys, maps_kept, maps_satisfies, maps_by, maps_space, maps_start, maps_goal, maps_pool, fits_in}
use Rattle.kid_search.proofs.BoolLemmas.{false_true, same_tests, or_left, or_false}
use Rattle.kid_search.proofs.BranchLemmas.{both_true, gap, under_kid, kid_under, kids_fall_by, kids_in_order_by, some_guarded}
use Rattle.kid_maps.proofs.MapMeaning.{some_none, some_of, none_of, look, IsMap, in_sort-map, dom-set, has-dom, ran-set, look-ran, look-put, look-drop, look-narrow, look-fill, get-look, submap-look, fits-look, same_maps, before-maps, dom-drop, dom-narrow, no_keys-dom, no_keys-look, look-sorts, in_sort-put, in_sort-drop, in_sort-fill, in_sort-narrow, MaybeSet, maybe_set, has_value_in-is, is-has_value_in, cut_down-within, cut_down-keeps}
use Rattle.kid_search.proofs.SetMeaning.{has, in_sort-set, has-union, union-set, subset-has, same_sets, apart-has, has-apart, least-in, card-length, without-fewer, ascends-members, set-member}

-- what a map may have at a key: the value of the map so far, one of the candidates, or none
abbrev Fits : Option PlainValue → Option PlainValue → Option PlainValue → Type 0
Fits (Some v) p z = z ≡ Some v
Fits None None z = z ≡ None
Fits None (Some s) z = has_value_in z s ≡ true

abbrev Fitting : PlainValue → PlainValue → PlainValue → Type 0
Fitting m p z = (k : PlainValue) → Fits (look k m) (look k p) (look k z)

module _ (a b : PlainSort) where
  abbrev space : Space
  space = maps_space a b

  abbrev of_sort : PlainValue → Bool
  of_sort = in_sort (maps a b)

  record Good (m p : PlainValue) : Type 0 where
    front : of_sort m ≡ true
    pool : in_sort (maps a (sets b)) p ≡ true
    apart : (k v s : PlainValue) → look k m ≡ Some v → look k p ≡ Some s → ⊥

  good : (m p : PlainValue) → space.is_good (m ∷ p ∷ []) ≡ true → Good m p
  good m p g =
      let r = and_parts (fit (maps a b ∷ maps a (sets b) ∷ []) (m ∷ p ∷ [])) (maps_kept (m ∷ p ∷ [])) g in
      let q = and_parts (of_sort m) (in_sort (maps a (sets b)) p && true) r.0 in
      let t = and_parts (in_sort (maps a (sets b)) p) true q.1 in
      let i = in_sort-map a b m q.0 in let j = in_sort-map a (sets b) p t.0 in
      record { front = q.0; pool = t.0; apart = λ k v s e f. apart-has (dom m) (dom p) (dom-set m i) (dom-set p j) r.1 k (has-dom k m i ∙ ap is_some e) (has-dom k p j ∙ ap is_some f) }

  is-good : (m p : PlainValue) → Good m p → space.is_good (m ∷ p ∷ []) ≡ true
  is-good m p g =
      let i = in_sort-map a b m g.front in let j = in_sort-map a (sets b) p g.pool in
      and_both _ _ (and_both _ _ g.front (and_both _ _ g.pool refl))
      (has-apart (dom m) (dom p) (dom-set m i) (dom-set p j) (λ k e f.
      let v = some_of (look k m) (sym (has-dom k m i) ∙ e) in let s = some_of (look k p) (sym (has-dom k p j) ∙ f) in g.apart k v.0 s.0 v.1 s.1))

  -- the keys of a map are those of two others
  keys-is : (m p z : PlainValue) → IsMap m → IsMap p → IsMap z → (truth_of (eq (dom z) (union (dom m) (dom p))) ≡ true) ↔ ((k : PlainValue) → is_some (look k z) ≡ (is_some (look k m) || is_some (look k p)))
  keys-is m p z i j l =
      let whole : (k : PlainValue) → has k (union (dom m) (dom p)) ≡ (is_some (look k m) || is_some (look k p)) = λ k. has-union k (dom m) (dom p) (dom-set m i) (dom-set p j) ∙ (λ x. has-dom k m i x || has-dom k p j x) in (
        λ h k. sym (has-dom k z l) ∙ ap (has k) (value_eq-true (dom z) (union (dom m) (dom p)) h) ∙ whole k,
        λ h. let e = same_sets (dom z) (union (dom m) (dom p)) (dom-set z l) (union-set (dom m) (dom p) (dom-set m i) (dom-set p j)) (λ k. has-dom k z l ∙ h k ∙ sym (whole k)) in
            ap (λ x. value_eq x (union (dom m) (dom p))) e ∙ value_eq-itself (union (dom m) (dom p)),
      )

  satisfies-is : (m p z : PlainValue) → Good m p → of_sort z ≡ true → (maps_satisfies (m ∷ p ∷ []) z ≡ true) ↔ Fitting m p z
  satisfies-is m p z g s =
      let i = in_sort-map a b m g.front in let j = in_sort-map a (sets b) p g.pool in let l = in_sort-map a b z s in
      let below = submap-look m z i l in let same = keys-is m p z i j l in let inside = fits-look z p l j in (
        λ h k. let q = and_parts (truth_of (submap m z)) (truth_of (eq (dom z) (union (dom m) (dom p))) && (truth_of (fits z p) && true)) h in
            let r = and_parts (truth_of (eq (dom z) (union (dom m) (dom p)))) (truth_of (fits z p) && true) q.1 in
            let t = and_parts (truth_of (fits z p)) true r.1 in
            to k (look k m) refl (look k p) refl (below.0 q.0 k) (same.0 r.0 k) (inside.0 t.0 k),
        λ h. and_both _ _ (below.1 (λ k v e. from_front k v (look k m) e (look k p) (h k)))
            (and_both _ _ (same.1 (λ k. from_keys k (look k m) (look k p) (look k z) (h k))) (and_both _ _ (inside.1 (λ k t e. from_pool k t (look k m) refl (look k p) e (h k))) refl)),
      )
    where
      to : (k : PlainValue) (o : Option PlainValue) → look k m ≡ o → (q : Option PlainValue) → look k p ≡ q → ((v : PlainValue) → look k m ≡ Some v → look k z ≡ Some v) → is_some (look k z) ≡ (is_some (look k m) || is_some (look k p)) → ((t : PlainValue) → look k p ≡ Some t → has_value_in (look k z) t ≡ true) → Fits o q (look k z)
      to k (Some v) e q f x y w = x v e
      to k None e None f x y w = none_of (look k z) (y ∙ (λ n. is_some (e n) || is_some (f n)))
      to k None e (Some t) f x y w = w t f

      from_front : (k v : PlainValue) (o : Option PlainValue) → o ≡ Some v → (q : Option PlainValue) → Fits o q (look k z) → look k z ≡ Some v
      from_front k v None e q h = absurd (some_none None v e refl)
      from_front k v (Some w) e q h = h ∙ e

      from_keys : (k : PlainValue) (o q y : Option PlainValue) → Fits o q y → is_some y ≡ (is_some o || is_some q)
      from_keys k (Some v) q y h = ap is_some h
      from_keys k None None y h = ap is_some h
      from_keys k None (Some t) y h = let r = has_value_in-is y t h in ap is_some r.1

      from_pool : (k t : PlainValue) (o : Option PlainValue) → look k m ≡ o → (q : Option PlainValue) → look k p ≡ Some t → Fits o (look k p) (look k z) → has_value_in (look k z) t ≡ true
      from_pool k t (Some v) e q f h = absurd (g.apart k v t e f)
      from_pool k t None e q f h = subst (λ o. Fits None o (look k z)) f h

  -- at a key that is still open, and that no open one is before
  record Open (k p : PlainValue) : Type 0 where
    candidates : PlainValue
    there : look k p ≡ Some candidates
    below : (x : PlainValue) → Before x k → look x p ≡ None

  open-least : (m p : PlainValue) → Good m p → value_eq p no_keys ≡ false → Open (least (dom p) (least_value a)) p
  open-least m p g e =
      let j = in_sort-map a (sets b) p g.pool in
      let l = least-in (dom p) (least_value a) (dom-set p j) (no_keys-dom p j e) in
      let s = some_of (look (least (dom p) (least_value a)) p) (sym (has-dom (least (dom p) (least_value a)) p j) ∙ l.inside) in
      record { candidates = s.0; there = s.1; below = λ x h. none_of (look x p) (sym (has-dom x p j) ∙ l.below x h) }

  module _ (m p k : PlainValue) (g : Good m p) (o : Open k p) where
    i : IsMap m
    i = in_sort-map a b m g.front

    j : IsMap p
    j = in_sort-map a (sets b) p g.pool

    new : look k m ≡ None
    new = by (look k m) refl
      where
        by : (q : Option PlainValue) → look k m ≡ q → q ≡ None
        by None e = refl
        by (Some v) e = absurd (g.apart k v o.candidates e o.there)

    pool_is : members_of (get p k no_members) ≡ members_of o.candidates
    pool_is = ap members_of (get-look k p no_members o.candidates j o.there)

    sorts : (in_sort a k ≡ true) × (in_sort (sets b) o.candidates ≡ true)
    sorts = look-sorts a (sets b) p k o.candidates g.pool o.there

    kid-good : (y : PlainValue) → in_sort b y ≡ true → Good (put m k y) (drop p k)
    kid-good y h = record {
      front = in_sort-put a b m k y g.front sorts.0 h;
      pool = in_sort-drop a (sets b) p k g.pool;
      apart = λ x v s e f. by x v s (value_eq x k) (sym (look-put x m k y i) ∙ e) (sym (look-drop x p k j) ∙ f);
    }
      where
        by : (x v s : PlainValue) (c : Bool) → cond c (Some y) (look x m) ≡ Some v → cond c None (look x p) ≡ Some s → ⊥
        by x v s true e f = some_none None s f refl
        by x v s false e f = g.apart x v s e f

    to_kid : (y z : PlainValue) → Fitting m p z → look k z ≡ Some y → Fitting (put m k y) (drop p k) z
    to_kid y z h e x = subst (λ q. Fits q (look x (drop p k)) (look x z)) (sym (look-put x m k y i)) (subst (λ q. Fits (cond (value_eq x k) (Some y) (look x m)) q (look x z)) (sym (look-drop x p k j)) (by (value_eq x k) refl))
      where
        by : (c : Bool) → value_eq x k ≡ c → Fits (cond c (Some y) (look x m)) (cond c None (look x p)) (look x z)
        by true f = ap (λ t. look t z) (value_eq-true x k f) ∙ e
        by false f = h x

    at_kid : (y z x : PlainValue) → Fitting (put m k y) (drop p k) z → Fits (cond (value_eq x k) (Some y) (look x m)) (cond (value_eq x k) None (look x p)) (look x z)
    at_kid y z x h = subst (λ q. Fits (cond (value_eq x k) (Some y) (look x m)) q (look x z)) (look-drop x p k j) (subst (λ q. Fits q (look x (drop p k)) (look x z)) (look-put x m k y i) (h x))

    kid-has : (y z : PlainValue) → Fitting (put m k y) (drop p k) z → look k z ≡ Some y
    kid-has y z h = subst (λ c. Fits (cond c (Some y) (look k m)) (cond c None (look k p)) (look k z)) (value_eq-itself k) (at_kid y z k h)

    from_kid : (y z : PlainValue) → has y o.candidates ≡ true → Fitting (put m k y) (drop p k) z → Fitting m p z
    from_kid y z n h x = by (value_eq x k) refl (at_kid y z x h)
      where
        here : Fits (look k m) (look k p) (look k z)
        here =
            let inside : has_value_in (look k z) o.candidates ≡ true = ap (λ q. has_value_in q o.candidates) (kid-has y z h) ∙ is-has_value_in y o.candidates (in_sort-set b o.candidates sorts.1) n in
            subst (λ q. Fits q (look k p) (look k z)) (sym new) (subst (λ q. Fits None q (look k z)) (sym o.there) inside)

        by : (c : Bool) → value_eq x k ≡ c → Fits (cond c (Some y) (look x m)) (cond c None (look x p)) (look x z) → Fits (look x m) (look x p) (look x z)
        by true f t = subst (λ w. Fits (look w m) (look w p) (look w z)) (sym (value_eq-true x k f)) here
        by false f t = t

    splits : (z : PlainValue) → of_sort z ≡ true → maps_satisfies (m ∷ p ∷ []) z ≡ any_satisfies space (maps_by k m p) z
    splits z s = same_tests _ _ down up
      where
        down : maps_satisfies (m ∷ p ∷ []) z ≡ true → any_satisfies space (maps_by k m p) z ≡ true
        down h =
            let f = (satisfies-is m p z g s).0 h in
            let at : has_value_in (look k z) o.candidates ≡ true = subst (λ q. Fits None q (look k z)) o.there (subst (λ q. Fits q (look k p) (look k z)) new (f k)) in
            let y = has_value_in-is (look k z) o.candidates at in
            kid_under space (λ t. put m k t ∷ drop p k ∷ []) (members_of (get p k no_members)) z y.0 (ap (is_member y.0) pool_is ∙ y.2)
            ((satisfies-is (put m k y.0) (drop p k) z (kid-good y.0 (look-sorts a b z k y.0 s y.1).1) s).1 (to_kid y.0 z f y.1))

        up : any_satisfies space (maps_by k m p) z ≡ true → maps_satisfies (m ∷ p ∷ []) z ≡ true
        up h =
            let u = under_kid space (λ t. put m k t ∷ drop p k ∷ []) (members_of (get p k no_members)) z h in
            let n : has u.item o.candidates ≡ true = sym (ap (is_member u.item) pool_is) ∙ u.inside in
            let f = (satisfies-is (put m k u.item) (drop p k) z (kid-good u.item (set-member b o.candidates u.item sorts.1 n)) s).0 u.holds in
            (satisfies-is m p z g s).1 (from_kid u.item z n f)

    -- below the least open key, what is under a kid has what the map so far has
    settled : (y z x : PlainValue) → Fitting (put m k y) (drop p k) z → has y o.candidates ≡ true → Before x k → look x z ≡ look x m
    settled y z x h n e = by (look x m) (subst (λ q. Fits (look x m) q (look x z)) (o.below x e) (from_kid y z n h x))
      where
        by : (q : Option PlainValue) → Fits q None (look x z) → look x z ≡ q
        by None t = t
        by (Some v) t = t

    ordered : InOrder space of_sort (maps_by k m p)
    ordered =
        kids_in_order_by space (λ t. put m k t ∷ drop p k ∷ []) of_sort (members_of (get p k no_members))
        (subst Ascends (sym pool_is) (ascends-members o.candidates (in_sort-set b o.candidates sorts.1)))
        (λ x y z t q r e s w h l.
        let n : has x o.candidates ≡ true = sym (ap (is_member x) pool_is) ∙ q in
        let n' : has y o.candidates ≡ true = sym (ap (is_member y) pool_is) ∙ r in
        let f = (satisfies-is (put m k x) (drop p k) z (kid-good x (set-member b o.candidates x sorts.1 n)) s).0 h in
        let f' = (satisfies-is (put m k y) (drop p k) t (kid-good y (set-member b o.candidates y sorts.1 n')) w).0 l in
        let lower : IsLowerAt (look k z) (look k t) = subst (λ c. IsLowerAt c (look k t)) (sym (kid-has x z f)) (subst (IsLowerAt (Some x)) (sym (kid-has y t f')) e) in
        before-maps z t k (in_sort-map a b z s) (in_sort-map a b t w) lower (λ v d. settled x z v f n d ∙ sym (settled y t v f' n' d)))

    rank-is : (q : PlainValue) (u : PlainValue) → IsMap u → space.rank (q ∷ u ∷ []) ≡ length (members_of (dom u))
    rank-is q u l = ap (int_gap (pos 0)) (card-length (dom u) (dom-set u l)) ∙ gap (length (members_of (dom u)))

  kids_fall-by : (m p : PlainValue) → Good m p → value_eq p no_keys ≡ false → AllFall space of_sort (space.rank (m ∷ p ∷ [])) (maps_by (least (dom p) (least_value a)) m p)
  kids_fall-by m p g e =
      let k = least (dom p) (least_value a) in
      let o = open-least m p g e in
      let j = in_sort-map a (sets b) p g.pool in
      let d = in_sort-map a (sets b) (drop p k) (in_sort-drop a (sets b) p k g.pool) in
      let fewer : length (members_of (dom (drop p k))) < length (members_of (dom p)) =
      subst (λ s. length (members_of s) < length (members_of (dom p))) (sym (dom-drop p k j d)) (without-fewer (dom p) (least_value a) (dom-set p j) (no_keys-dom p j e)) in
      kids_fall_by space (λ t. put m k t ∷ drop p k ∷ []) of_sort (space.rank (m ∷ p ∷ [])) (members_of (get p k no_members))
      (λ y n.
      let inside : has y o.candidates ≡ true = sym (ap (is_member y) (pool_is m p k g o)) ∙ n in (
        is-good (put m k y) (drop p k) (kid-good m p k g o y (set-member b o.candidates y (sorts m p k g o).1 inside)),
        subst (λ c. c < space.rank (m ∷ p ∷ [])) (sym (rank-is m p k g o (put m k y) (drop p k) d)) (subst (λ c. length (members_of (dom (drop p k))) < c) (sym (rank-is m p k g o m p j)) fewer),
      ))

  at_leaf : (m p z : PlainValue) → Good m p → of_sort z ≡ true → value_eq p no_keys ≡ true → maps_satisfies (m ∷ p ∷ []) z ≡ (value_eq z m || false)
  at_leaf m p z g s e =
      let here = satisfies-is m p z g s in
      same_tests _ _
      (λ h. let same = same_maps z m (in_sort-map a b z s) (in_sort-map a b m g.front) (λ k. settle k (look k m) (subst (λ q. Fits (look k m) q (look k z)) (no_keys-look p k e) (here.0 h k))) in
      or_left (value_eq z m) false (ap (value_eq z) (sym same) ∙ value_eq-itself z))
      (λ h. let same = value_eq-true z m (sym (or_false (value_eq z m)) ∙ h) in
      here.1 (λ k. subst (λ q. Fits (look k m) q (look k z)) (sym (no_keys-look p k e)) (subst (λ t. Fits (look k m) None (look k t)) (sym same) (itself (look k m)))))
    where
      settle : (k : PlainValue) (q : Option PlainValue) → Fits q None (look k z) → look k z ≡ q
      settle k None t = t
      settle k (Some v) t = t

      itself : (q : Option PlainValue) → Fits q None q
      itself None = refl
      itself (Some v) = refl

  covers : (d : Descriptor) (z : PlainValue) → space.is_good d ≡ true → of_sort z ≡ true → space.satisfies d z ≡ (is_leaf (space.leaf d) z || any_satisfies space (space.kids d) z)
  covers (m ∷ p ∷ []) z g s = by (value_eq p no_keys) refl (good m p g)
    where
      by : (c : Bool) → value_eq p no_keys ≡ c → Good m p → maps_satisfies (m ∷ p ∷ []) z ≡ (is_leaf (cond c (Some m) None) z || any_satisfies space (cond (not c) (maps_by (least (dom p) (least_value a)) m p) []) z)
      by true e k = at_leaf m p z k s e
      by false e k = splits m p (least (dom p) (least_value a)) k (open-least m p k e) z s
  covers d z g s = cc

  leaf_in_sort : (d : Descriptor) (z : PlainValue) → space.is_good d ≡ true → space.leaf d ≡ Some z → of_sort z ≡ true
  leaf_in_sort (m ∷ p ∷ []) z g e = let k = good m p g in ap of_sort (sym (some_guarded (value_eq p no_keys) m z e).1) ∙ k.front
  leaf_in_sort d z g e = cc

  leaf_first : (d : Descriptor) (z y : PlainValue) → space.is_good d ≡ true → space.leaf d ≡ Some z → of_sort y ≡ true → any_satisfies space (space.kids d) y ≡ true → Before z y
  leaf_first (m ∷ p ∷ []) z y g e s h = by (value_eq p no_keys) e h
    where
      by : (c : Bool) → cond c (Some m) None ≡ Some z → any_satisfies space (cond (not c) (maps_by (least (dom p) (least_value a)) m p) []) y ≡ true → Before z y
      by true f k = cc
      by false f k = cc
  leaf_first d z y g e s h = cc

  kids_in_order : (d : Descriptor) → space.is_good d ≡ true → InOrder space of_sort (space.kids d)
  kids_in_order (m ∷ p ∷ []) g = by (value_eq p no_keys) refl (good m p g)
    where
      by : (c : Bool) → value_eq p no_keys ≡ c → Good m p → InOrder space of_sort (cond (not c) (maps_by (least (dom p) (least_value a)) m p) [])
      by true e k = tt
      by false e k = ordered m p (least (dom p) (least_value a)) k (open-least m p k e)
  kids_in_order d g = cc

  kids_fall : (d : Descriptor) → space.is_good d ≡ true → AllFall space of_sort (space.rank d) (space.kids d)
  kids_fall (m ∷ p ∷ []) g = by (value_eq p no_keys) refl (good m p g)
    where
      by : (c : Bool) → value_eq p no_keys ≡ c → Good m p → AllFall space of_sort (space.rank (m ∷ p ∷ [])) (cond (not c) (maps_by (least (dom p) (least_value a)) m p) [])
      by true e k = tt
      by false e k = kids_fall-by m p k e
  kids_fall d g = cc

  pub maps-lawful : IsLawful (maps_space a b) (in_sort (maps a b))
  maps-lawful = record { covers = covers; leaf_in_sort = leaf_in_sort; leaf_first = leaf_first; kids_in_order = kids_in_order; kids_fall = kids_fall }

  -- the start holds each map with these keys and values
  pub maps-starts : (ks vs : PlainValue) → in_sort (sets a) ks ≡ true → in_sort (sets b) vs ≡ true → Starts (maps_space a b) (in_sort (maps a b)) (maps_goal ks vs) (maps_start ks vs)
  maps-starts ks vs h l =
      let k : Good no_keys (fill ks vs) = record { front = refl; pool = in_sort-fill a (sets b) ks vs h l; apart = λ k v s e f. some_none None v e refl } in
      record {
        good = is-good no_keys (fill ks vs) k;
        holds_all = λ z s g.
            let r = both_true (eq (dom z) ks) (subset (ran z) vs) g in
            (satisfies-is no_keys (fill ks vs) z k s).1 (λ x. subst (λ q. Fits None q (look x z)) (sym (look-fill x ks vs (in_sort-set a ks h))) (by z s r.0 r.1 x (has x ks) refl));
      }
    where
      by : (z : PlainValue) → of_sort z ≡ true → value_eq (dom z) ks ≡ true → truth_of (subset (ran z) vs) ≡ true → (x : PlainValue) (c : Bool) → has x ks ≡ c → Fits None (cond c (Some vs) None) (look x z)
      by z s e f x true n =
          let i = in_sort-map a b z s in
          let y = some_of (look x z) (sym (has-dom x z i) ∙ ap (has x) (value_eq-true (dom z) ks e) ∙ n) in
          let j = in_sort-set b vs l in
          ap (λ q. has_value_in q vs) y.1 ∙ is-has_value_in y.0 vs j ((subset-has (ran z) vs (ran-set z i) j).0 f y.0 (look-ran x y.0 z i y.1))
      by z s e f x false n =
          let i = in_sort-map a b z s in
          none_of (look x z) (sym (has-dom x z i) ∙ ap (has x) (value_eq-true (dom z) ks e) ∙ n)

  -- the cut
  pub pool-cut : (a' b' : PlainSort) (c : PlainValue) → in_sort (maps a' (sets b')) c ≡ true → (d : Descriptor) → space.is_good d ≡ true → IsCut space of_sort (fits_in c) d (maps_pool c d)
  pool-cut a' b' c n (m ∷ p ∷ []) g = by (good m p g)
    where
      c_map : IsMap c
      c_map = in_sort-map a' (sets b') c n

      c_sets : (k : PlainValue) → MaybeSet (look k c)
      c_sets k = maybe_set a' b' c k n

      by : Good m p → IsCut space of_sort (fits_in c) (m ∷ p ∷ []) (m ∷ narrow p c ∷ [])
      by k =
          let j = in_sort-map a (sets b) p k.pool in
          let q : in_sort (maps a (sets b)) (narrow p c) ≡ true = in_sort-narrow a b p c k.pool c_map c_sets in
          let l = in_sort-map a (sets b) (narrow p c) q in
          let changed : Good m (narrow p c) = record { front = k.front; pool = q; apart = λ x v s e f. apart x v s e (look x p) refl (sym (look-narrow x p c j c_map) ∙ f) k } in
          record {
            good = is-good m (narrow p c) changed;
            rank = subst (λ s. int_gap (pos 0) (number_of (card s)) ≤ space.rank (m ∷ p ∷ [])) (sym (dom-narrow p c j c_map l)) (omega arith);
            within = λ z s h. (satisfies-is m p z k s).1 (λ x. within x z (look x m) (look x p) (p_sets k x)
                (subst (λ t. Fits (look x m) t (look x z)) (look-narrow x p c j c_map) ((satisfies-is m (narrow p c) z changed s).0 h x)));
            keeps = λ z s f h.
                let inside = (fits-look z c (in_sort-map a b z s) c_map).0 f in
                (satisfies-is m (narrow p c) z changed s).1 (λ x. subst (λ t. Fits (look x m) t (look x z)) (sym (look-narrow x p c j c_map))
                (keeps x z (look x m) (look x p) (p_sets k x) (inside x) ((satisfies-is m p z k s).0 h x)));
          }
        where
          p_sets : Good m p → (x : PlainValue) → MaybeSet (look x p)
          p_sets k x = maybe_set a b p x k.pool

          apart : (x v s : PlainValue) → look x m ≡ Some v → (o : Option PlainValue) → look x p ≡ o → option_map (λ w. cut_down w (look x c)) o ≡ Some s → Good m p → ⊥
          apart x v s e None f r k = some_none None s r refl
          apart x v s e (Some t) f r k = k.apart x v t e f

          within : (x z : PlainValue) (o q : Option PlainValue) → MaybeSet q → Fits o (option_map (λ w. cut_down w (look x c)) q) (look x z) → Fits o q (look x z)
          within x z (Some v) q i h = h
          within x z None None i h = h
          within x z None (Some s) i h = cut_down-within (look x z) s (look x c) i (c_sets x) h

          keeps : (x z : PlainValue) (o q : Option PlainValue) → MaybeSet q → ((t : PlainValue) → look x c ≡ Some t → has_value_in (look x z) t ≡ true) → Fits o q (look x z) → Fits o (option_map (λ w. cut_down w (look x c)) q) (look x z)
          keeps x z (Some v) q i n h = h
          keeps x z None None i n h = h
          keeps x z None (Some s) i n h = cut_down-keeps (look x z) s (look x c) i (c_sets x) h n
  pool-cut a' b' c n d g = absurd (false_true (and_parts (fit (maps a b ∷ maps a (sets b) ∷ []) d) (maps_kept d) g).1)
