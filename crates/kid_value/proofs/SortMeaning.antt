-- What operators make of values of their sorts has its sort.
use Rattle.std.proofs.Common.{◌≡◌, ℕ, ◌≤◌, ◌<◌, Bool, true, false, cond, List, [], ◌∷◌, ◌++◌, map, length, Option, Some, None, refl, sym, ap, ◌∙◌, subst, arith, inl, inr}
use Rattle.std.specs.List.{list_all}
use Rattle.std.specs.Option.{option_map}
use Rattle.std.specs.Prelude.{◌&&◌, not, filter, nat_le}
use Rattle.std.proofs.lemmas.Bool.Decides.{nat_tests}
use Rattle.std.proofs.lemmas.List.{length-append}
use Rattle.std.proofs.lemmas.List.Folds.{list_all-append}
use Rattle.kid_value.specs.Canonical.{is_canonical, IsCanonical, AreCanonical, EntriesAreCanonical}
use Rattle.kid_value.specs.Contents.{IsSet, IsSequence, IsMap, has, value_at}
use Rattle.kid_value.specs.InSort.{in_sort}
use Rattle.kid_value.specs.PlainSort.{PlainSort, sets, seqs, maps, has_sort}
use Rattle.kid_value.specs.PlainValue.{PlainValue, set, seq, map_of, PlainEntries, items, row, entries, table}
use Rattle.kid_value.specs.Rows.Map as map_rows
use Rattle.kid_value.specs.Rows.Map.{cut_down}
use Rattle.kid_value.specs.Rows.Parts.{items_of}
use Rattle.kid_value.specs.Rows.Seq as seq_rows
use Rattle.kid_value.specs.Rows.Set as set_rows
use Rattle.kid_value.specs.SortLaws.{IsOf, SortLaws}
use Rattle.kid_value.specs.ValueMap.{lookup, put_entry}
use Rattle.kid_value.specs.ValueSet.{value_eq, is_member, put, union}
use Rattle.kid_value.proofs.CanonicalTests.{is_canonical-is, IsCanonical-test}
use Rattle.kid_value.proofs.LookupLemmas.{some_same, none_some, list_all-lookup, lookup-list_all}
use Rattle.kid_value.proofs.MapMeaning.{values_held}
use Rattle.kid_value.proofs.MemberLemmas.{list_all-member}
use Rattle.kid_value.proofs.RowCanonical.{IsCanonical-with, IsCanonical-without, IsCanonical-union, IsCanonical-inter, IsCanonical-diff, IsCanonical-snoc, IsCanonical-put, IsCanonical-drop, IsCanonical-fill, IsCanonical-narrow}
use Rattle.kid_value.proofs.RowLemmas.{items_row, row_items, table_entries}
use Rattle.kid_value.proofs.SortLemmas.{and_parts, and_both, list_all-filter, list_all-put, list_all-union}
use Rattle.kid_value.proofs.ValueSetLaws.{or_cases, value_eq-true}

pub sorted_is : (a : PlainSort) (v : PlainValue) → has_sort a v ≡ true → IsCanonical v → IsOf a v
sorted_is a v h c = and_both (has_sort a v) (is_canonical v) h (is_canonical-is v c)

pub is_sorted : (a : PlainSort) (v : PlainValue) → IsOf a v → (has_sort a v ≡ true) × IsCanonical v
is_sorted a v h = let r = and_parts (has_sort a v) (is_canonical v) h in (r.0, IsCanonical-test v r.1)

is_set : (a : PlainSort) (s : PlainValue) → IsOf (sets a) s → IsSet s
is_set a (set vs) h = tt
is_set a s h = cc

is_sequence : (a : PlainSort) (n : ℕ) (v : PlainValue) → IsOf (seqs a n) v → IsSequence v × (length (items_of v) ≤ n)
is_sequence a n (seq vs) h =
    (tt, within (length (items vs)) n (and_parts (nat_le (length (items vs)) n) (list_all (has_sort a) (items vs)) (is_sorted (seqs a n) (seq vs) h).0).0)
  where
    within : (m n : ℕ) → nat_le m n ≡ true → m ≤ n
    within m n h = grind (arith, nat_tests)
is_sequence a n v h = cc

is_map : (a b : PlainSort) (m : PlainValue) → IsOf (maps a b) m → IsMap m
is_map a b (map_of m) h = tt
is_map a b m h = cc

-- ---- sets

member : (a : PlainSort) (x s : PlainValue) → IsOf (sets a) s → has x s ≡ true → IsOf a x
member a x (set vs) h m =
    let p = is_sorted (sets a) (set vs) h in
    sorted_is a x (list_all-member (has_sort a) x (items vs) p.0 m) (each (items vs) (subst AreCanonical (sym (row_items vs)) p.1.1) m)
  where
    each : (ws : List PlainValue) → AreCanonical (row ws) → is_member x ws ≡ true → IsCanonical x
    each [] c m = cc
    each (w ∷ ws) c m =
        elim (or_cases (value_eq x w) (is_member x ws) m) [
          | inl e ↦ subst IsCanonical (sym (value_eq-true x w e)) c.0
          | inr n ↦ each ws c.1 n
        ]
member a x s h m = cc

module _ (a : PlainSort) where
  of_row : (vs : List PlainValue) → list_all (has_sort a) vs ≡ true → has_sort (sets a) (set (row vs)) ≡ true
  of_row vs h = ap (list_all (has_sort a)) (items_row vs) ∙ h

  passing : (p : PlainValue → Bool) (vs : List PlainValue) → list_all (has_sort a) vs ≡ true → has_sort (sets a) (set (row (filter p vs))) ≡ true
  passing p vs h = of_row (filter p vs) (list_all-filter (has_sort a) p vs h)

  sorted-with : (x s : PlainValue) → IsOf a x → IsOf (sets a) s → IsOf (sets a) (set_rows.with x s)
  sorted-with x (set vs) h k =
      let p = is_sorted a x h in let q = is_sorted (sets a) (set vs) k in
      sorted_is (sets a) (set_rows.with x (set vs)) (of_row (put x (items vs)) (list_all-put (has_sort a) x (items vs) p.0 q.0)) (IsCanonical-with x (set vs) p.1 q.1)
  sorted-with x s h k = cc

  sorted-without : (x s : PlainValue) → IsOf (sets a) s → IsOf (sets a) (set_rows.without x s)
  sorted-without x (set vs) k =
      let q = is_sorted (sets a) (set vs) k in
      sorted_is (sets a) (set_rows.without x (set vs)) (passing (λ y. not (value_eq y x)) (items vs) q.0) (IsCanonical-without x (set vs) q.1)
  sorted-without x s k = cc

  sorted-union : (s t : PlainValue) → IsOf (sets a) s → IsOf (sets a) t → IsOf (sets a) (set_rows.union s t)
  sorted-union (set vs) (set ws) h k =
      let p = is_sorted (sets a) (set vs) h in let q = is_sorted (sets a) (set ws) k in
      sorted_is (sets a) (set_rows.union (set vs) (set ws)) (of_row (union (items vs) (items ws)) (list_all-union (has_sort a) (items vs) (items ws) p.0 q.0)) (IsCanonical-union (set vs) (set ws) p.1 q.1)
  sorted-union (set vs) t h k = cc
  sorted-union s t h k = cc

  sorted-inter : (s t : PlainValue) → IsOf (sets a) s → IsSet t → IsOf (sets a) (set_rows.inter s t)
  sorted-inter (set vs) (set ws) h k =
      let p = is_sorted (sets a) (set vs) h in
      sorted_is (sets a) (set_rows.inter (set vs) (set ws)) (passing (λ y. is_member y (items ws)) (items vs) p.0) (IsCanonical-inter (set vs) (set ws) p.1)
  sorted-inter (set vs) t h k = absurd k
  sorted-inter s t h k = cc

  sorted-diff : (s t : PlainValue) → IsOf (sets a) s → IsSet t → IsOf (sets a) (set_rows.diff s t)
  sorted-diff (set vs) (set ws) h k =
      let p = is_sorted (sets a) (set vs) h in
      sorted_is (sets a) (set_rows.diff (set vs) (set ws)) (passing (λ y. not (is_member y (items ws))) (items vs) p.0) (IsCanonical-diff (set vs) (set ws) p.1)
  sorted-diff (set vs) t h k = absurd k
  sorted-diff s t h k = cc

-- ---- sequences

counted : (m n : ℕ) → m ≤ n → nat_le m n ≡ true
counted m n h = grind (arith, nat_tests)

sorted-snoc : (a : PlainSort) (n : ℕ) (v x : PlainValue) → IsOf (seqs a n) v → IsOf a x → length (items_of v) < n → IsOf (seqs a n) (seq_rows.snoc v x)
sorted-snoc a n (seq vs) x h k l =
    let p = is_sorted (seqs a n) (seq vs) h in let q = is_sorted a x k in
    let r = and_parts (nat_le (length (items vs)) n) (list_all (has_sort a) (items vs)) p.0 in
    sorted_is (seqs a n) (seq_rows.snoc (seq vs) x)
    (subst (λ us. (nat_le (length us) n && list_all (has_sort a) us) ≡ true) (sym (items_row (items vs ++ x ∷ [])))
    (and_both _ _ (counted _ n (omega (arith, length-append (items vs) (x ∷ []))))
    (list_all-append (has_sort a) (items vs) (x ∷ []) ∙ and_both _ _ r.1 (and_both _ _ q.0 refl))))
    (IsCanonical-snoc (seq vs) x p.1 q.1)
sorted-snoc a n v x h k l = cc

-- ---- maps

module _ (a b : PlainSort) where
  entry : (m k v : PlainValue) → IsOf (maps a b) m → value_at k m ≡ Some v → IsOf a k × IsOf b v
  entry (map_of es) k v h e =
      let p = is_sorted (maps a b) (map_of es) h in
      let r = and_parts (has_sort a k) (has_sort b v) (list_all-lookup (λ e. has_sort a e.0 && has_sort b e.1) k v (entries es) p.0 e) in
      let c = canonical (entries es) (subst EntriesAreCanonical (sym (table_entries es)) p.1.1) e in
      (sorted_is a k r.0 c.0, sorted_is b v r.1 c.1)
    where
      canonical : (es : List (PlainValue × PlainValue)) → EntriesAreCanonical (table es) → lookup k es ≡ Some v → IsCanonical k × IsCanonical v
      canonical [] c e = absurd (none_some None v e refl)
      canonical (f ∷ es) c e = by (value_eq k f.0) refl e (canonical es c.2)
        where
          by : (b : Bool) → value_eq k f.0 ≡ b → cond b (Some f.1) (lookup k es) ≡ Some v → (lookup k es ≡ Some v → IsCanonical k × IsCanonical v) → IsCanonical k × IsCanonical v
          by true q e ih = (subst IsCanonical (sym (value_eq-true k f.0 q)) c.0, subst IsCanonical (some_same f.1 v e) c.1)
          by false q e ih = ih e
  entry m k v h e = cc

  -- a map is of the sort where what it has at each key is
  by_entries : (es : PlainEntries) → IsCanonical (map_of es) → ((k v : PlainValue) → value_at k (map_of es) ≡ Some v → IsOf a k × IsOf b v) → IsOf (maps a b) (map_of es)
  by_entries es c h =
      sorted_is (maps a b) (map_of es)
      (lookup-list_all (λ e. has_sort a e.0 && has_sort b e.1) (entries es) c.0 (λ k v e. let r = h k v e in and_both _ _ (is_sorted a k r.0).0 (is_sorted b v r.1).0)) c

  sorted-put : (m k v : PlainValue) → IsOf (maps a b) m → IsOf a k → IsOf b v → IsOf (maps a b) (map_rows.put m k v)
  sorted-put (map_of es) k v h p q =
      by_entries (table (put_entry k v (entries es))) (IsCanonical-put (map_of es) k v (is_sorted (maps a b) (map_of es) h).1 (is_sorted a k p).1 (is_sorted b v q).1)
      (λ l w e. by l w (value_eq l k) refl (sym ((values_held.put (map_of es) k v tt).1 l) ∙ e))
    where
      by : (l w : PlainValue) (c : Bool) → value_eq l k ≡ c → cond c (Some v) (value_at l (map_of es)) ≡ Some w → IsOf a l × IsOf b w
      by l w true f e = (ap (in_sort a) (value_eq-true l k f) ∙ p, ap (in_sort b) (sym (some_same v w e)) ∙ q)
      by l w false f e = entry (map_of es) l w h e
  sorted-put m k v h p q = cc

  sorted-drop : (m k : PlainValue) → IsOf (maps a b) m → IsOf (maps a b) (map_rows.drop m k)
  sorted-drop (map_of es) k h =
      by_entries (table (filter (λ e. not (value_eq e.0 k)) (entries es))) (IsCanonical-drop (map_of es) k (is_sorted (maps a b) (map_of es) h).1)
      (λ l w e. by l w (value_eq l k) (sym ((values_held.drop (map_of es) k tt).1 l) ∙ e))
    where
      by : (l w : PlainValue) (c : Bool) → cond c None (value_at l (map_of es)) ≡ Some w → IsOf a l × IsOf b w
      by l w true e = cc
      by l w false e = entry (map_of es) l w h e
  sorted-drop m k h = cc

  sorted-fill : (s v : PlainValue) → IsOf (sets a) s → IsOf b v → IsOf (maps a b) (map_rows.fill s v)
  sorted-fill (set vs) v h q =
      by_entries (table (map (λ w. (w, v)) (items vs))) (IsCanonical-fill (set vs) v (is_sorted (sets a) (set vs) h).1 (is_sorted b v q).1)
      (λ l w e. by l w (has l (set vs)) refl (sym ((values_held.fill (set vs) v tt).1 l) ∙ e))
    where
      by : (l w : PlainValue) (c : Bool) → has l (set vs) ≡ c → cond c (Some v) None ≡ Some w → IsOf a l × IsOf b w
      by l w true f e = (member a l (set vs) h f, ap (in_sort b) (sym (some_same v w e)) ∙ q)
      by l w false f e = cc
  sorted-fill s v h q = cc

module _ (a b c d : PlainSort) where
  sorted-cut_down : (s : PlainValue) (o : Option PlainValue) → IsOf (sets b) s → ((t : PlainValue) → o ≡ Some t → IsOf (sets d) t) → IsOf (sets b) (cut_down s o)
  sorted-cut_down s None h k = h
  sorted-cut_down (set vs) (Some (set ws)) h k = sorted-inter b (set vs) (set ws) h tt
  sorted-cut_down (set vs) (Some t) h k = let e = k t refl in cc
  sorted-cut_down s (Some t) h k = cc

  sorted-narrow : (m n : PlainValue) → IsOf (maps a (sets b)) m → IsOf (maps c (sets d)) n → IsOf (maps a (sets b)) (map_rows.narrow m n)
  sorted-narrow (map_of es) (map_of fs) h j =
      by_entries a (sets b) (table (map (λ e. (e.0, cut_down e.1 (lookup e.0 (entries fs)))) (entries es))) (IsCanonical-narrow (map_of es) (map_of fs) (is_sorted (maps a (sets b)) (map_of es) h).1)
      (λ l w e. by l w (value_at l (map_of es)) refl (sym ((values_held.narrow (map_of es) (map_of fs) tt tt).1 l) ∙ e))
    where
      by : (l w : PlainValue) (o : Option PlainValue) → value_at l (map_of es) ≡ o → option_map (λ v. cut_down v (value_at l (map_of fs))) o ≡ Some w → IsOf a l × IsOf (sets b) w
      by l w None f e = cc
      by l w (Some s) f e =
          let r = entry a (sets b) (map_of es) l s h f in
          (r.0, ap (in_sort (sets b)) (sym (some_same (cut_down s (value_at l (map_of fs))) w e)) ∙ sorted-cut_down s (value_at l (map_of fs)) r.1 (λ t q. (entry c (sets d) (map_of fs) l t j q).1))
  sorted-narrow (map_of es) n h j = cc
  sorted-narrow m n h j = cc

pub laws : SortLaws
laws =
    record {
      set = is_set;
      sequence = is_sequence;
      map = is_map;
      member = member;
      with = sorted-with;
      without = sorted-without;
      union = sorted-union;
      inter = sorted-inter;
      diff = sorted-diff;
      snoc = sorted-snoc;
      entry = entry;
      put = sorted-put;
      drop = sorted-drop;
      fill = sorted-fill;
      narrow = sorted-narrow;
    }
