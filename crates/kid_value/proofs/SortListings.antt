-- The values of each sort, listed, and how many there are.
use Rattle.std.proofs.Common.{◌≡◌, ℕ, ◌+◌, ◌*◌, ◌^◌, ◌<◌, ◌≤◌, zero, suc, min, ℤ, pos, negsuc, ◌+ℤ◌, ◌≤ℤ◌, Bool, true, false, cond, List, [], ◌∷◌, length, refl, sym, ap, subst, ◌∙◌, ◌⊎◌, inl, inr, arith}
use Rattle.std.specs.Prelude.{◌&&◌, int_le, nat_le}
use Rattle.std.specs.Int.{int_gap}
use Rattle.std.specs.List.{list_all}
use Rattle.std.proofs.lemmas.Bool.{cases_lt}
use Rattle.std.proofs.lemmas.Bool.Decides.{nat_tests}
use Rattle.std.proofs.lemmas.Int.{ints as int_rules}
use Rattle.std.proofs.lemmas.List.{map-id}
use Rattle.kid_value.specs.Canonical.{is_canonical, are_canonical, entries_are_canonical, is_ascending}
use Rattle.kid_value.specs.Counts.{Counts}
use Rattle.kid_value.specs.InSort.{in_sort}
use Rattle.kid_value.specs.NameSet.{names_ascend}
use Rattle.kid_value.specs.PlainSort.{PlainSort, never, bools, ints, pairs, sets, seqs, maps, enums, has_sort}
use Rattle.kid_value.specs.PlainValue.{PlainValue, int, bool, pair, set, seq, map_of, tag, items, row, entries, table}
use Rattle.kid_value.specs.SortCount.{count_of, interval_count, sequence_count}
use Rattle.kid_value.specs.SortLimits.{is_bounded}
use Rattle.kid_value.specs.ValueCount.{value_count}
use Rattle.kid_value.specs.ValueMap.{keys}
use Rattle.kid_value.specs.ValueSet.{is_member, Ascends}
use Rattle.kid_value.proofs.CanonicalTests.{is_ascending-is, Ascends-test}
use Rattle.kid_value.proofs.CountLemmas.{count_of-counts}
use Rattle.kid_value.proofs.NameLemmas.{distinct_names, has-among, among-has}
use Rattle.kid_value.proofs.RowLemmas.{items_row, row_items, entries_table, table_entries}
use Rattle.kid_value.proofs.SortLemmas.{and_parts, and_both}
use Rattle.kid_value.proofs.ValueSetLaws.{same_members}
use Rattle.kid_value.proofs.Listings.{Has, Listing, Image, Joint, no_thing, one_thing, two_kinds, said_else, counted_else, images, joints}
use Rattle.kid_value.proofs.Choices.{At, Chosen, EachOf, chosen-each, chosen-ascends, each-chosen, choices, Ascending, ascending, has-member, member-has}

abbrev IsOf : PlainSort → PlainValue → Type 0
IsOf s v = in_sort s v ≡ true

has_and_is : (s : PlainSort) (v : PlainValue) → has_sort s v ≡ true → is_canonical v ≡ true → IsOf s v
has_and_is s v p q = and_both (has_sort s v) (is_canonical v) p q

has : (s : PlainSort) (v : PlainValue) → IsOf s v → has_sort s v ≡ true
has s v p = (and_parts (has_sort s v) (is_canonical v) p).0

is : (s : PlainSort) (v : PlainValue) → IsOf s v → is_canonical v ≡ true
is s v p = (and_parts (has_sort s v) (is_canonical v) p).1

truths : Listing (IsOf bools) 2
truths = said_else (λ v. (v ≡ bool false) ⊎ (v ≡ bool true)) (IsOf bools) 2 to back
    (two_kinds (λ v. v ≡ bool false) (λ v. v ≡ bool true) 1 1 (λ v p q. let e : bool false ≡ bool true = sym p ∙ q in cc) (one_thing (bool false)) (one_thing (bool true)))
  where
    to : (v : PlainValue) → (v ≡ bool false) ⊎ (v ≡ bool true) → IsOf bools v
    to v (inl e) = subst (IsOf bools) (sym e) refl
    to v (inr e) = subst (IsOf bools) (sym e) refl

    back : (v : PlainValue) → IsOf bools v → (v ≡ bool false) ⊎ (v ≡ bool true)
    back (bool false) p = inl refl
    back (bool true) p = inr refl
    back v p = cc

-- integers, by how far they are above the least
below : (n : ℕ) → Listing (λ (k : ℕ). k < n) n
below zero = no_thing (λ (k : ℕ). k < 0) (λ k p. absurd (omega (arith, p)))
below (suc n) = counted_else (λ (k : ℕ). k < suc n) (1 + n) (suc n) (omega arith) (said_else (λ k. (k ≡ n) ⊎ (k < n)) (λ k. k < suc n) (1 + n) to back (two_kinds (λ k. k ≡ n) (λ k. k < n) 1 n (λ k p q. absurd (omega (arith, p, q))) (one_thing n) (below n)))
  where
    to : (k : ℕ) → (k ≡ n) ⊎ (k < n) → k < suc n
    to k (inl e) = omega arith
    to k (inr l) = omega arith

    back : (k : ℕ) → k < suc n → (k ≡ n) ⊎ (k < n)
    back k l = elim (cases_lt k n) [
      | inl h ↦ inr h
      | inr h ↦ inl (omega arith)
    ]

gap_up : (a b : ℤ) → a ≤ℤ b → a +ℤ pos (int_gap a b) ≡ b
gap_up (pos a) (pos b) l = omega (arith, int_rules)
gap_up (pos a) (negsuc b) l = absurd (omega (arith, int_rules))
gap_up (negsuc a) (pos b) l = omega (arith, int_rules)
gap_up (negsuc a) (negsuc b) l = omega (arith, int_rules)

inside : (lo hi : ℤ) (k : ℕ) → k < interval_count lo hi → (int_le lo (lo +ℤ pos k) && int_le (lo +ℤ pos k) hi) ≡ true
inside lo hi k = by (int_le lo hi) refl
  where
    by : (t : Bool) → int_le lo hi ≡ t → k < cond t (int_gap lo hi + 1) 0 → (int_le lo (lo +ℤ pos k) && int_le (lo +ℤ pos k) hi) ≡ true
    by true e l =
        let up : lo +ℤ pos (int_gap lo hi) ≡ hi = gap_up lo hi (grind (arith, int_rules)) in
        grind (arith, int_rules)
    by false e l = absurd (omega (arith, l))

place : (lo hi n : ℤ) → (int_le lo n && int_le n hi) ≡ true → (int_gap lo n < interval_count lo hi) × (n ≡ lo +ℤ pos (int_gap lo n))
place lo hi n p =
    let r = and_parts (int_le lo n) (int_le n hi) p in
    let up : lo +ℤ pos (int_gap lo n) ≡ n = gap_up lo n (grind (arith, int_rules)) in
    let all : lo +ℤ pos (int_gap lo hi) ≡ hi = gap_up lo hi (grind (arith, int_rules)) in
    let e : int_le lo hi ≡ true = grind (arith, int_rules) in
    (subst (λ t. int_gap lo n < cond t (int_gap lo hi + 1) 0) (sym e) (grind (arith, int_rules)), sym up)

integers : (lo hi : ℤ) → Listing (IsOf (ints lo hi)) (interval_count lo hi)
integers lo hi =
    said_else (Image at (λ k. k < interval_count lo hi)) (IsOf (ints lo hi)) (interval_count lo hi) to back
    (images at (λ k. k < interval_count lo hi) (interval_count lo hi) apart (below (interval_count lo hi)))
  where
    at : ℕ → PlainValue
    at k = int (lo +ℤ pos k)

    apart : (k m : ℕ) → int (lo +ℤ pos k) ≡ int (lo +ℤ pos m) → k ≡ m
    apart k m e = let f : lo +ℤ pos k ≡ lo +ℤ pos m = cc in omega (arith, int_rules)

    to : (v : PlainValue) → Image (λ k. int (lo +ℤ pos k)) (λ k. k < interval_count lo hi) v → IsOf (ints lo hi) v
    to v p = subst (IsOf (ints lo hi)) (sym p.2) (has_and_is (ints lo hi) (int (lo +ℤ pos p.0)) (inside lo hi p.0 p.1) refl)

    back : (v : PlainValue) → IsOf (ints lo hi) v → Image (λ k. int (lo +ℤ pos k)) (λ k. k < interval_count lo hi) v
    back (int n) p = let r = place lo hi n (has (ints lo hi) (int n) p) in (int_gap lo n, r.0, ap int r.1)
    back v p = cc

pairings : (a b : PlainSort) (m n : ℕ) → Listing (IsOf a) m → Listing (IsOf b) n → Listing (IsOf (pairs a b)) (m * n)
pairings a b m n k l =
    said_else (Joint pair (IsOf a) (IsOf b)) (IsOf (pairs a b)) (m * n) to back
    (joints pair (λ x v y w e. cc) (λ x v y w e. cc) (IsOf a) (IsOf b) m n k l)
  where
    to : (v : PlainValue) → Joint pair (IsOf a) (IsOf b) v → IsOf (pairs a b) v
    to v j = subst (IsOf (pairs a b)) (sym j.4)
        (has_and_is (pairs a b) (pair j.0 j.1) (and_both _ _ (has a j.0 j.2) (has b j.1 j.3)) (and_both _ _ (is a j.0 j.2) (is b j.1 j.3)))

    back : (v : PlainValue) → IsOf (pairs a b) v → Joint pair (IsOf a) (IsOf b) v
    back (pair x y) p =
        let h = and_parts (has_sort a x) (has_sort b y) (has (pairs a b) (pair x y) p) in
        let i = and_parts (is_canonical x) (is_canonical y) (is (pairs a b) (pair x y) p) in
        (x, y, has_and_is a x h.0 i.0, has_and_is b y h.1 i.1, refl)
    back v p = cc

-- rows of values of one sort
abbrev AllOf : PlainSort → List PlainValue → Type 0
AllOf a xs = (list_all (has_sort a) xs ≡ true) × (are_canonical (row xs) ≡ true)

all_more : (a : PlainSort) (x : PlainValue) (xs : List PlainValue) → IsOf a x → AllOf a xs → AllOf a (x ∷ xs)
all_more a x xs p q = (and_both (has_sort a x) (list_all (has_sort a) xs) (has a x p) q.0, and_both (is_canonical x) (are_canonical (row xs)) (is a x p) q.1)

all_first : (a : PlainSort) (x : PlainValue) (xs : List PlainValue) → AllOf a (x ∷ xs) → IsOf a x
all_first a x xs q = has_and_is a x (and_parts (has_sort a x) (list_all (has_sort a) xs) q.0).0 (and_parts (is_canonical x) (are_canonical (row xs)) q.1).0

all_rest : (a : PlainSort) (x : PlainValue) (xs : List PlainValue) → AllOf a (x ∷ xs) → AllOf a xs
all_rest a x xs q = ((and_parts (has_sort a x) (list_all (has_sort a) xs) q.0).1, (and_parts (is_canonical x) (are_canonical (row xs)) q.1).1)

same_row : (xs ys : List PlainValue) → row xs ≡ row ys → xs ≡ ys
same_row xs ys e = sym (items_row xs) ∙ ap items e ∙ items_row ys

-- rows of at most so many values
abbrev Within : PlainSort → ℕ → List PlainValue → Type 0
Within a zero xs = xs ≡ []
Within a (suc n) xs = (xs ≡ []) ⊎ Joint (λ y ys. y ∷ ys) (IsOf a) (Within a n) xs

rows_within : (a : PlainSort) (c : ℕ) → Listing (IsOf a) c → (n : ℕ) → Listing (Within a n) (sequence_count c n)
rows_within a c l zero = one_thing []
rows_within a c l (suc n) =
    two_kinds (λ xs. xs ≡ []) (Joint (λ y ys. y ∷ ys) (IsOf a) (Within a n)) 1 (c * sequence_count c n)
    (λ xs p j. let e : [] ≡ j.0 ∷ j.1 = sym p ∙ j.4 in cc) (one_thing [])
    (joints (λ y ys. y ∷ ys) (λ x v xs vs e. cc) (λ x v xs vs e. cc) (IsOf a) (Within a n) c (sequence_count c n) l (rows_within a c l n))

within-all : (a : PlainSort) (n : ℕ) (xs : List PlainValue) → Within a n xs → AllOf a xs
within-all a zero xs e = subst (AllOf a) (sym e) (refl, refl)
within-all a (suc n) xs (inl e) = subst (AllOf a) (sym e) (refl, refl)
within-all a (suc n) xs (inr j) = subst (AllOf a) (sym j.4) (all_more a j.0 j.1 j.2 (within-all a n j.1 j.3))

within-length : (a : PlainSort) (n : ℕ) (xs : List PlainValue) → Within a n xs → length xs ≤ n
within-length a zero xs e = subst (λ z. length z ≤ 0) (sym e) (omega arith)
within-length a (suc n) xs (inl e) = subst (λ z. length z ≤ suc n) (sym e) (omega arith)
within-length a (suc n) xs (inr j) = subst (λ z. length z ≤ suc n) (sym j.4) (omega (arith, within-length a n j.1 j.3))

all-within : (a : PlainSort) (n : ℕ) (xs : List PlainValue) → length xs ≤ n → AllOf a xs → Within a n xs
all-within a zero [] l q = refl
all-within a zero (x ∷ xs) l q = absurd (omega (arith, l))
all-within a (suc n) [] l q = inl refl
all-within a (suc n) (x ∷ xs) l q = inr (x, xs, all_first a x xs q, all-within a n xs (omega (arith, l)) (all_rest a x xs q), refl)

le-test : (m n : ℕ) → m ≤ n → nat_le m n ≡ true
le-test m n l = grind (arith, nat_tests)

test-le : (m n : ℕ) → nat_le m n ≡ true → m ≤ n
test-le m n p = grind (arith, nat_tests)

sequences : (a : PlainSort) (c n : ℕ) → Listing (IsOf a) c → Listing (IsOf (seqs a n)) (sequence_count c n)
sequences a c n l =
    said_else (Image (λ xs. seq (row xs)) (Within a n)) (IsOf (seqs a n)) (sequence_count c n) to back
    (images (λ xs. seq (row xs)) (Within a n) (sequence_count c n) (λ xs ys e. let f : row xs ≡ row ys = cc in same_row xs ys f) (rows_within a c l n))
  where
    to : (v : PlainValue) → Image (λ xs. seq (row xs)) (Within a n) v → IsOf (seqs a n) v
    to v p =
        let q = within-all a n p.0 p.1 in
        let r = le-test (length p.0) n (within-length a n p.0 p.1) in
        subst (IsOf (seqs a n)) (sym p.2)
        (has_and_is (seqs a n) (seq (row p.0)) (subst (λ zs. (nat_le (length zs) n && list_all (has_sort a) zs) ≡ true) (sym (items_row p.0)) (and_both _ _ r q.0)) q.1)

    back : (v : PlainValue) → IsOf (seqs a n) v → Image (λ xs. seq (row xs)) (Within a n) v
    back (seq vs) p =
        let h = and_parts (nat_le (length (items vs)) n) (list_all (has_sort a) (items vs)) (has (seqs a n) (seq vs) p) in
        let i = subst (λ zs. are_canonical zs ≡ true) (sym (row_items vs)) (is (seqs a n) (seq vs) p) in
        (items vs, all-within a n (items vs) (test-le (length (items vs)) n h.0) (h.1, i), ap seq (sym (row_items vs)))
    back v p = cc

-- sets take each member of the ascending list or not
abbrev itself : PlainValue → PlainValue
itself x = x

abbrev Any : PlainValue → Type 0
Any x = Unit {0}

each-all : (a : PlainSort) (ks : List PlainValue) → ((x : PlainValue) → Has x ks → IsOf a x) → (xs : List PlainValue) → EachOf itself Any ks xs → AllOf a xs
each-all a ks f [] e = (refl, refl)
each-all a ks f (x ∷ xs) e = all_more a x xs (f x e.1) (each-all a ks f xs e.2)

all-each : (a : PlainSort) (ks : List PlainValue) → ((x : PlainValue) → IsOf a x → Has x ks) → (xs : List PlainValue) → AllOf a xs → EachOf itself Any ks xs
all-each a ks f [] q = tt
all-each a ks f (x ∷ xs) q = (tt, f x (all_first a x xs q), all-each a ks f xs (all_rest a x xs q))

one_for_each : (k : PlainValue) → Listing (At itself Any k) 1
one_for_each k = said_else (λ x. x ≡ k) (At itself Any k) 1 (λ x e. (tt, e)) (λ x p. p.1) (one_thing k)

subsets : (a : PlainSort) (c : ℕ) → Listing (IsOf a) c → Listing (IsOf (sets a)) (2 ^ c)
subsets a c l =
    let s : Ascending (IsOf a) c = ascending (IsOf a) c l in
    counted_else (IsOf (sets a)) (2 ^ length s.items) (2 ^ c) (ap (λ z. 2 ^ z) s.counted)
    (said_else (Image (λ xs. set (row xs)) (Chosen itself Any s.items)) (IsOf (sets a)) (2 ^ length s.items) (to s) (back s)
    (images (λ xs. set (row xs)) (Chosen itself Any s.items) (2 ^ length s.items) (λ xs ys e. let f : row xs ≡ row ys = cc in same_row xs ys f) (choices itself Any 1 s.items s.ascends one_for_each)))
  where
    to : (s : Ascending (IsOf a) c) (v : PlainValue) → Image (λ xs. set (row xs)) (Chosen itself Any s.items) v → IsOf (sets a) v
    to s v p =
        let q = each-all a s.items s.sound p.0 (chosen-each itself Any s.items p.0 p.1) in
        let r = is_ascending-is p.0 (subst Ascends (map-id p.0) (chosen-ascends itself Any s.items p.0 s.ascends p.1)) in
        subst (IsOf (sets a)) (sym p.2)
        (has_and_is (sets a) (set (row p.0)) (subst (λ zs. list_all (has_sort a) zs ≡ true) (sym (items_row p.0)) q.0)
        (and_both _ _ (subst (λ zs. is_ascending zs ≡ true) (sym (items_row p.0)) r) q.1))

    back : (s : Ascending (IsOf a) c) (v : PlainValue) → IsOf (sets a) v → Image (λ xs. set (row xs)) (Chosen itself Any s.items) v
    back s (set vs) p =
        let h = has (sets a) (set vs) p in
        let i = and_parts (is_ascending (items vs)) (are_canonical vs) (is (sets a) (set vs) p) in
        let q : AllOf a (items vs) = (h, subst (λ zs. are_canonical zs ≡ true) (sym (row_items vs)) i.1) in
        (items vs, each-chosen itself Any s.items (items vs) s.ascends (subst Ascends (sym (map-id (items vs))) (Ascends-test (items vs) i.0)) (all-each a s.items s.complete (items vs) q), ap set (sym (row_items vs)))
    back s v p = cc

-- maps take a value, or none, for each key of the ascending list
abbrev key : PlainValue × PlainValue → PlainValue
key e = e.0

abbrev ValueOf : PlainSort → PlainValue × PlainValue → Type 0
ValueOf b e = IsOf b e.1

abbrev EntriesOf : PlainSort → PlainSort → List (PlainValue × PlainValue) → Type 0
EntriesOf a b es = (list_all (λ e. has_sort a e.0 && has_sort b e.1) es ≡ true) × (entries_are_canonical (table es) ≡ true)

each-entries : (a b : PlainSort) (ks : List PlainValue) → ((x : PlainValue) → Has x ks → IsOf a x) → (es : List (PlainValue × PlainValue)) → EachOf key (ValueOf b) ks es → EntriesOf a b es
each-entries a b ks f [] q = (refl, refl)
each-entries a b ks f (e ∷ es) q =
    let r = each-entries a b ks f es q.2 in
    let k = f e.0 q.1 in
    (and_both _ _ (and_both _ _ (has a e.0 k) (has b e.1 q.0)) r.0, and_both _ _ (and_both _ _ (is a e.0 k) (is b e.1 q.0)) r.1)

entries-each : (a b : PlainSort) (ks : List PlainValue) → ((x : PlainValue) → IsOf a x → Has x ks) → (es : List (PlainValue × PlainValue)) → EntriesOf a b es → EachOf key (ValueOf b) ks es
entries-each a b ks f [] q = tt
entries-each a b ks f (e ∷ es) q =
    let g = and_parts (has_sort a e.0 && has_sort b e.1) (list_all (λ x. has_sort a x.0 && has_sort b x.1) es) q.0 in
    let h = and_parts (has_sort a e.0) (has_sort b e.1) g.0 in
    let j = and_parts (is_canonical e.0 && is_canonical e.1) (entries_are_canonical (table es)) q.1 in
    let i = and_parts (is_canonical e.0) (is_canonical e.1) j.0 in
    (has_and_is b e.1 h.1 i.1, f e.0 (has_and_is a e.0 h.0 i.0), entries-each a b ks f es (g.1, j.1))

same_table : (m n : List (PlainValue × PlainValue)) → table m ≡ table n → m ≡ n
same_table m n e = sym (entries_table m) ∙ ap entries e ∙ entries_table n

values_for : (b : PlainSort) (n : ℕ) → Listing (IsOf b) n → (k : PlainValue) → Listing (At key (ValueOf b) k) n
values_for b n l k = said_else (Image (λ v. (k, v)) (IsOf b)) (At key (ValueOf b) k) n to back (images (λ v. (k, v)) (IsOf b) n (λ v w e. ap (λ z. z.1) e) l)
  where
    to : (e : PlainValue × PlainValue) → Image (λ v. (k, v)) (IsOf b) e → At key (ValueOf b) k e
    to e p = (subst (λ z. IsOf b z.1) (sym p.2) p.1, ap (λ z. z.0) p.2)

    back : (e : PlainValue × PlainValue) → At key (ValueOf b) k e → Image (λ v. (k, v)) (IsOf b) e
    back e p = (e.1, p.0, λ i. (p.1 i, e.1))

tables : (a b : PlainSort) (c n : ℕ) → Listing (IsOf a) c → Listing (IsOf b) n → Listing (IsOf (maps a b)) ((n + 1) ^ c)
tables a b c n l m =
    let s : Ascending (IsOf a) c = ascending (IsOf a) c l in
    counted_else (IsOf (maps a b)) (suc n ^ length s.items) ((n + 1) ^ c) (λ i. more n i ^ s.counted i)
    (said_else (Image (λ es. map_of (table es)) (Chosen key (ValueOf b) s.items)) (IsOf (maps a b)) (suc n ^ length s.items) (to s) (back s)
    (images (λ es. map_of (table es)) (Chosen key (ValueOf b) s.items) (suc n ^ length s.items) (λ x y e. let f : table x ≡ table y = cc in same_table x y f) (choices key (ValueOf b) n s.items s.ascends (values_for b n m))))
  where
    more : (k : ℕ) → suc k ≡ k + 1
    more k = omega arith

    to : (s : Ascending (IsOf a) c) (v : PlainValue) → Image (λ es. map_of (table es)) (Chosen key (ValueOf b) s.items) v → IsOf (maps a b) v
    to s v p =
        let q = each-entries a b s.items s.sound p.0 (chosen-each key (ValueOf b) s.items p.0 p.1) in
        let r = is_ascending-is (keys p.0) (chosen-ascends key (ValueOf b) s.items p.0 s.ascends p.1) in
        subst (IsOf (maps a b)) (sym p.2)
        (has_and_is (maps a b) (map_of (table p.0)) (subst (λ zs. list_all (λ e. has_sort a e.0 && has_sort b e.1) zs ≡ true) (sym (entries_table p.0)) q.0)
        (and_both _ _ (subst (λ zs. is_ascending (keys zs) ≡ true) (sym (entries_table p.0)) r) q.1))

    back : (s : Ascending (IsOf a) c) (v : PlainValue) → IsOf (maps a b) v → Image (λ es. map_of (table es)) (Chosen key (ValueOf b) s.items) v
    back s (map_of es) p =
        let h = has (maps a b) (map_of es) p in
        let i = and_parts (is_ascending (keys (entries es))) (entries_are_canonical es) (is (maps a b) (map_of es) p) in
        let q : EntriesOf a b (entries es) = (h, subst (λ zs. entries_are_canonical zs ≡ true) (sym (table_entries es)) i.1) in
        (entries es, each-chosen key (ValueOf b) s.items (entries es) s.ascends (Ascends-test (keys (entries es)) i.0) (entries-each a b s.items s.complete (entries es) q), ap map_of (sym (table_entries es)))
    back s v p = cc

named : (ns : List (List ℕ)) → names_ascend ns ≡ true → Listing (IsOf (enums ns)) (length ns)
named ns p =
    said_else (Image tag (λ n. Has n ns)) (IsOf (enums ns)) (length ns) to back
    (images tag (λ n. Has n ns) (length ns) (λ m n e. cc) (record { items = ns; distinct = distinct_names ns p; sound = λ n h. h; complete = λ n h. h; counted = refl }))
  where
    to : (v : PlainValue) → Image tag (λ n. Has n ns) v → IsOf (enums ns) v
    to v q = subst (IsOf (enums ns)) (sym q.2) (has_and_is (enums ns) (tag q.0) (has-among q.0 ns q.1) refl)

    back : (v : PlainValue) → IsOf (enums ns) v → Image tag (λ n. Has n ns) v
    back (tag n) q = (n, among-has n ns (has (enums ns) (tag n) q), refl)
    back v q = cc

-- the values of a sort whose names ascend, each once
listing : (s : PlainSort) → is_bounded s ≡ true → Listing (IsOf s) (value_count s)
unfolding value_count
listing never b = no_thing (IsOf never) (λ v p. cc)
listing bools b = truths
listing (ints lo hi) b = integers lo hi
listing (pairs x y) b = let r = and_parts (is_bounded x) (is_bounded y) b in pairings x y (value_count x) (value_count y) (listing x r.0) (listing y r.1)
listing (sets x) b = subsets x (value_count x) (listing x (and_parts (is_bounded x) (nat_le (count_of x) 65536) b).0)
listing (seqs x n) b = sequences x (value_count x) n (listing x (and_parts (is_bounded x) (nat_le n 65536) b).0)
listing (maps x y) b =
    let r = and_parts (is_bounded x && nat_le (count_of x) 65536) (is_bounded y) b in
    tables x y (value_count x) (value_count y) (listing x (and_parts (is_bounded x) (nat_le (count_of x) 65536) r.0).0) (listing y r.1)
listing (enums ns) b = named ns (and_parts (nat_le 1 (length ns) && nat_le (length ns) 64) (names_ascend ns) b).1

both_ways : (b c : Bool) → (b ≡ true → c ≡ true) → (c ≡ true → b ≡ true) → b ≡ c
both_ways true c f g = sym (f refl)
both_ways false true f g = g refl
both_ways false false f g = refl

pub count_of-values : (s : PlainSort) → is_bounded s ≡ true → Counts s (count_of s)
count_of-values s b =
    let l : Ascending (IsOf s) (value_count s) = ascending (IsOf s) (value_count s) (listing s b) in
    let all : (v : PlainValue) → is_member v l.items ≡ in_sort s v
    = λ v. both_ways (is_member v l.items) (in_sort s v) (λ p. l.sound v (member-has v l.items p)) (λ p. has-member v l.items (l.complete v p)) in
    record {
      values = l.items;
      has_all = record { ascends = l.ascends; members = all };
      only = λ vs h. same_members vs l.items h.ascends l.ascends (λ v. h.members v ∙ sym (all v));
      counted = count_of-counts s ∙ ap (λ z. min z 65537) (sym l.counted);
    }
