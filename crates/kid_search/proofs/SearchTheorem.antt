-- The search through a lawful space with a necessary pruning finds the feasible values, in their order.
use Rattle.std.proofs.Common.{◌≡◌, ℕ, ◌<◌, ◌≤◌, zero, suc, Bool, true, false, List, [], ◌∷◌, ◌++◌, Option, Some, None, refl, sym, ap, ◌∙◌, cond, arith}
use Rattle.std.specs.Prelude.{◌&&◌, ◌||◌}
use Rattle.std.specs.List.{flat_map}
use Rattle.kid_value.specs.PlainValue.{PlainValue}
use Rattle.kid_value.specs.ValueOrder.{Before}
use Rattle.kid_value.specs.ValueSet.{value_eq, is_member, Ascends, AllAfter}
use Rattle.kid_value.proofs.ValueSetLaws.{value_eq-itself, value_eq-true, or_assoc}
use Rattle.kid_search.specs.Searching.{Pruning, IsNecessary, leaf_answers}
use Rattle.kid_search.specs.Space.{Descriptor, Space, is_leaf, any_satisfies}
use Rattle.kid_search.specs.SpaceLaws.{InOrder, AllFall, IsLawful}
use Rattle.kid_search.proofs.Found.{values_under, values_from}

-- the ascending list of the values that pass
pub record IsAnswer (feasible : PlainValue → Bool) (answers : List PlainValue) : Type 0 where
  pub ascends : Ascends answers
  pub members : (v : PlainValue) → is_member v answers ≡ feasible v

pub is_member-append : (v : PlainValue) (xs ys : List PlainValue) → is_member v (xs ++ ys) ≡ (is_member v xs || is_member v ys)
is_member-append v [] ys = refl
is_member-append v (x ∷ xs) ys = ap (λ c. value_eq v x || c) (is_member-append v xs ys) ∙ sym (or_assoc (value_eq v x) (is_member v xs) (is_member v ys))

-- what is before each member is before all
pub AllAfter-from_members : (x : PlainValue) (ys : List PlainValue) → ((w : PlainValue) → is_member w ys ≡ true → Before x w) → AllAfter x ys
AllAfter-from_members x [] h = tt
AllAfter-from_members x (y ∷ ys) h =
    (h y (ap (λ c. c || is_member y ys) (value_eq-itself y)), AllAfter-from_members x ys (λ w m. h w (or_true (value_eq w y) (is_member w ys) m)))
  where
    or_true : (b c : Bool) → c ≡ true → (b || c) ≡ true
    or_true true c e = refl
    or_true false c e = e

AllAfter-append : (x : PlainValue) (ys zs : List PlainValue) → AllAfter x ys → AllAfter x zs → AllAfter x (ys ++ zs)
AllAfter-append x [] zs a b = b
AllAfter-append x (y ∷ ys) zs a b = (a.0, AllAfter-append x ys zs a.1 b)

pub Ascends-append : (xs ys : List PlainValue) → Ascends xs → Ascends ys → ((v w : PlainValue) → is_member v xs ≡ true → is_member w ys ≡ true → Before v w) → Ascends (xs ++ ys)
Ascends-append [] ys a b h = b
Ascends-append (x ∷ xs) ys a b h = (
  AllAfter-append x xs ys a.0 (AllAfter-from_members x ys (λ w m. h x w (ap (λ c. c || is_member x xs) (value_eq-itself x)) m)),
  Ascends-append xs ys a.1 b (λ v w m n. h v w (or_true (value_eq v x) (is_member v xs) m) n),
)
  where
    or_true : (b c : Bool) → c ≡ true → (b || c) ≡ true
    or_true true c e = refl
    or_true false c e = e

and_parts : (b c : Bool) → (b && c) ≡ true → (b ≡ true) × (c ≡ true)
and_parts true c p = (refl, p)
and_parts false c p = cc

-- two tests are the same where each implies the other
same_tests : (b c : Bool) → (b ≡ true → c ≡ true) → (c ≡ true → b ≡ true) → b ≡ c
same_tests true true f g = refl
same_tests true false f g = sym (f refl)
same_tests false true f g = g refl
same_tests false false f g = refl

and_same : (b c d : Bool) → (b ≡ true → c ≡ d) → (b && c) ≡ (b && d)
and_same true c d h = h refl
and_same false c d h = refl

and_false : (b : Bool) → false ≡ (b && false)
and_false true = refl
and_false false = refl

none_both : (b c : Bool) → (b ≡ true → c ≡ true → ⊥) → false ≡ (b && c)
none_both true true h = absurd (h refl refl)
none_both true false h = refl
none_both false c h = refl

and_or : (b c d : Bool) → ((b && c) || (b && d)) ≡ (b && (c || d))
and_or true c d = refl
and_or false c d = refl

false_first : (b c : Bool) → b ≡ false → false ≡ (b && c)
false_first b c e = rw e refl

module _ (s : Space) (in_sort holds : PlainValue → Bool) (p : Pruning) (lawful : IsLawful s in_sort) (necessary : IsNecessary s (λ v. in_sort v && holds v) p) where
  abbrev feasible : PlainValue → Bool
  feasible v = in_sort v && holds v

  -- what the search finds under one kid
  abbrev under : ℕ → Descriptor → List PlainValue
  under n k = cond (p.passes (p.cut k)) (values_under s holds p n (p.cut k)) []

  -- what is found under a descriptor
  record Finds (d : Descriptor) (found : List PlainValue) : Type 0 where
    ascends : Ascends found
    members : (v : PlainValue) → is_member v found ≡ (feasible v && s.satisfies d v)

  -- and under the kids
  record FindsAll (ds : List Descriptor) (found : List PlainValue) : Type 0 where
    ascends : Ascends found
    members : (v : PlainValue) → is_member v found ≡ (feasible v && any_satisfies s ds v)

  -- a pruned kid finds what the kid would
  pruned : (n : ℕ) (k : Descriptor) → s.is_good k ≡ true → Finds (p.cut k) (values_under s holds p n (p.cut k)) → Finds k (under n k)
  pruned n k g ih = by_test (p.passes (p.cut k)) refl
    where
      same : (v : PlainValue) → feasible v ≡ true → s.satisfies (p.cut k) v ≡ s.satisfies k v
      same v f = same_tests (s.satisfies (p.cut k) v) (s.satisfies k v) (necessary.cut_within k v g f) (necessary.cut_keeps k v g f)

      by_test : (c : Bool) → p.passes (p.cut k) ≡ c → Finds k (cond c (values_under s holds p n (p.cut k)) [])
      by_test true e = record { ascends = ih.ascends; members = λ v. ih.members v ∙ and_same (feasible v) (s.satisfies (p.cut k) v) (s.satisfies k v) (same v) }
      by_test false e = record {
        ascends = tt;
        members = λ v. none_both (feasible v) (s.satisfies k v) (λ f h.
            let q : p.passes (p.cut k) ≡ true = necessary.filter_keeps (p.cut k) v (necessary.cut_good k g) f (necessary.cut_keeps k v g f h) in
            let r : false ≡ true = sym e ∙ q in cc);
      }

  all_found : (n m : ℕ) (ds : List Descriptor) → m ≤ n → ((d : Descriptor) → s.is_good d ≡ true → s.rank d < n → Finds d (values_under s holds p n d))
      → AllFall s in_sort m ds → InOrder s in_sort ds → FindsAll ds (flat_map (under n) ds)
  all_found n m [] le ih f o = record { ascends = tt; members = λ v. and_false (feasible v) }
  all_found n m (d ∷ ds) le ih f o =
      let low : s.rank (p.cut d) ≤ s.rank d = necessary.cut_rank d f.0 in
      let here : Finds d (under n d) = pruned n d f.0 (ih (p.cut d) (necessary.cut_good d f.0) (omega (arith, f.1))) in
      let rest : FindsAll ds (flat_map (under n) ds) = all_found n m ds le ih f.2 o.1 in
      record {
        ascends = Ascends-append (under n d) (flat_map (under n) ds) here.ascends rest.ascends (λ v w mv mw.
            let fv = and_parts (feasible v) (s.satisfies d v) (sym (here.members v) ∙ mv) in
            let fw = and_parts (feasible w) (any_satisfies s ds w) (sym (rest.members w) ∙ mw) in
            o.0 v w (and_parts (in_sort v) (holds v) fv.0).0 (and_parts (in_sort w) (holds w) fw.0).0 fv.1 fw.1);
        members = λ v. is_member-append v (under n d) (flat_map (under n) ds) ∙ (λ i. here.members v i || rest.members v i)
            ∙ and_or (feasible v) (s.satisfies d v) (any_satisfies s ds v);
      }

  -- the leaf, where it is an answer, before what the kids find
  with_leaf : (d : Descriptor) (found : List PlainValue) → s.is_good d ≡ true → FindsAll (s.kids d) found → (o : Option PlainValue) → s.leaf d ≡ o → Finds d (leaf_answers s holds p o ++ found)
  with_leaf d found g h None e = record {
    ascends = h.ascends;
    members = λ v. h.members v ∙ and_same (feasible v) (any_satisfies s (s.kids d) v) (s.satisfies d v) (λ f.
        sym (lawful.covers d v g (and_parts (in_sort v) (holds v) f).0 ∙ ap (λ o. is_leaf o v || any_satisfies s (s.kids d) v) e));
  }
  with_leaf d found g h (Some u) e = by_test (holds u) refl
    where
      u_in : in_sort u ≡ true
      u_in = lawful.leaf_in_sort d u g e

      -- what satisfies the descriptor, for a feasible value
      covered : (v : PlainValue) → feasible v ≡ true → s.satisfies d v ≡ (value_eq v u || any_satisfies s (s.kids d) v)
      covered v f = lawful.covers d v g (and_parts (in_sort v) (holds v) f).0 ∙ ap (λ o. is_leaf o v || any_satisfies s (s.kids d) v) e

      first : (w : PlainValue) → is_member w found ≡ true → Before u w
      first w m =
          let fw = and_parts (feasible w) (any_satisfies s (s.kids d) w) (sym (h.members w) ∙ m) in
          lawful.leaf_first d u w g e (and_parts (in_sort w) (holds w) fw.0).0 fw.1

      with_u : (v : PlainValue) → holds u ≡ true → (c : Bool) → value_eq v u ≡ c → (c || (feasible v && any_satisfies s (s.kids d) v)) ≡ (feasible v && (c || any_satisfies s (s.kids d) v))
      with_u v t true q = let r : v ≡ u = value_eq-true v u q in rw (r, u_in, t) refl
      with_u v t false q = refl

      without_u : (v : PlainValue) → holds u ≡ false → (c : Bool) → value_eq v u ≡ c → (feasible v && any_satisfies s (s.kids d) v) ≡ (feasible v && (c || any_satisfies s (s.kids d) v))
      without_u v t true q = let r : v ≡ u = value_eq-true v u q in rw (r, u_in, t) refl
      without_u v t false q = refl

      by_test : (c : Bool) → holds u ≡ c → Finds d (cond c (u ∷ []) [] ++ found)
      by_test true t = record {
        ascends = (AllAfter-from_members u found first, h.ascends);
        members = λ v. ap (λ c. value_eq v u || c) (h.members v) ∙ with_u v t (value_eq v u) refl
            ∙ and_same (feasible v) (value_eq v u || any_satisfies s (s.kids d) v) (s.satisfies d v) (λ f. sym (covered v f));
      }
      by_test false t = record {
        ascends = h.ascends;
        members = λ v. h.members v ∙ without_u v t (value_eq v u) refl
            ∙ and_same (feasible v) (value_eq v u || any_satisfies s (s.kids d) v) (s.satisfies d v) (λ f. sym (covered v f));
      }

  visit_finds : (n : ℕ) (d : Descriptor) → s.is_good d ≡ true → s.rank d < n → Finds d (values_under s holds p n d)
  visit_finds zero d g r = absurd (omega arith)
  visit_finds (suc n) d g r =
      with_leaf d (flat_map (under n) (s.kids d)) g
      (all_found n (s.rank d) (s.kids d) (omega arith) (visit_finds n) (lawful.kids_fall d g) (lawful.kids_in_order d g)) (s.leaf d) refl

  -- the search from a good start that every feasible value satisfies is the answer
  pub values_from-answer : (d : Descriptor) → s.is_good d ≡ true → ((v : PlainValue) → feasible v ≡ true → s.satisfies d v ≡ true) → IsAnswer feasible (values_from s holds p d)
  values_from-answer d g all = by_test (p.passes (p.cut d)) refl
    where
      inside : Finds (p.cut d) (values_under s holds p (suc (s.rank (p.cut d))) (p.cut d))
      inside = visit_finds (suc (s.rank (p.cut d))) (p.cut d) (necessary.cut_good d g) (omega arith)

      kept : (v : PlainValue) → feasible v ≡ true → s.satisfies (p.cut d) v ≡ true
      kept v f = necessary.cut_keeps d v g f (all v f)

      and_true : (b c : Bool) → (b ≡ true → c ≡ true) → (b && c) ≡ b
      and_true true c k = k refl
      and_true false c k = refl

      by_test : (c : Bool) → p.passes (p.cut d) ≡ c → IsAnswer feasible (cond c (values_under s holds p (suc (s.rank (p.cut d))) (p.cut d)) [])
      by_test true e = record { ascends = inside.ascends; members = λ v. inside.members v ∙ and_true (feasible v) (s.satisfies (p.cut d) v) (kept v) }
      by_test false e = record { ascends = tt; members = λ v. none (feasible v) (λ f. sym e ∙ necessary.filter_keeps (p.cut d) v (necessary.cut_good d g) f (kept v f)) }
        where
          none : (b : Bool) → (b ≡ true → false ≡ true) → false ≡ b
          none true k = k refl
          none false k = refl
