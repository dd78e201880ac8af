-- A set of values of a sort has no more members than the sort has values.
use Rattle.std.proofs.Common.{◌≡◌, ℕ, suc, ◌+◌, ◌*◌, ◌^◌, ◌<◌, ◌≤◌, ℤ, Bool, true, false, List, ◌∷◌, Ordering, refl, sym, ap, ◌∙◌, subst, arith, length, min}
use Rattle.std.specs.declared.cmp.Ordering.TheVariants.{Less, Equal, Greater}
use Rattle.std.specs.Ordering.{int_cmp, bool_cmp, ordering_then}
use Rattle.std.specs.Prelude.{pos, negsuc, ◌≤ℤ◌, ◌<ℤ◌, ◌&&◌, int_le, nat_le}
use Rattle.std.specs.List.{list_all}
use Rattle.std.specs.Int.{int_gap}
use Rattle.std.proofs.lemmas.Int.{ints as int_rules}
use Rattle.std.proofs.lemmas.Bool.Decides.{nat_tests}
use Rattle.std.proofs.lemmas.Nat.{mul-add-lt}
use Rattle.std.proofs.Math.Nat.{mul-le-mul_right}
use Rattle.kid_value.specs.NameSet.{is_among}
use Rattle.kid_value.specs.PlainValue.{PlainValue, int, bool, pair, set, seq, map_of, tag, PlainValues, PlainEntries, no_entry, entry, items, entries}
use Rattle.kid_value.specs.PlainSort.{PlainSort, never, bools, ints, pairs, sets, seqs, maps, enums, has_sort}
use Rattle.kid_value.specs.SortLimits.{sort_depth, is_bounded, is_allowed}
use Rattle.kid_value.specs.SortCount.{count_of, interval_count, sequence_count}
use Rattle.kid_value.specs.Canonical.{EntriesAreCanonical}
use Rattle.kid_value.specs.ValueMap.{keys}
use Rattle.kid_value.specs.ValueCount.{value_count}
use Rattle.kid_value.specs.ValueOrder.{value_cmp}
use Rattle.kid_value.specs.ValueSet.{Ascends}
use Rattle.kid_value.proofs.CountLemmas.{count_of-counts}
use Rattle.kid_value.proofs.SortLemmas.{and_parts}
use Rattle.kid_value.proofs.ValueOrderLaws.{value_cmp-equal}
use Rattle.kid_term.specs.Fitting.{IsOfSort}
use Rattle.kid_term.proofs.Inversions.{int_of, none_of}
use Rattle.kid_term.proofs.Members.{Each, Each-items, AreMembers}
use Rattle.kid_term.proofs.NameRanks.{names_before, names_before-below, names_before-lt}
use Rattle.kid_term.proofs.Ranks.{Ranked, ranked-length}
use Rattle.kid_term.proofs.SetRanks.{set_number, set_number-below, set_number-lt, keys_in, EachEntry, map_number, map_number-below, map_number-lt}
use Rattle.kid_term.proofs.SeqRanks.{seq_number, seq_number-below, seq_number-lt}

-- the number of a value among those of its sort
abbrev rank : PlainSort → PlainValue → ℕ
rank bools (bool true) = 1
rank (ints lo hi) (int n) = int_gap lo n
rank (pairs a b) (pair v w) = rank a v * value_count b + rank b w
rank (sets a) (set vs) = set_number (value_count a) (rank a) (items vs)
rank (seqs a n) (seq vs) = seq_number (value_count a) (rank a) n (items vs)
rank (maps a b) (map_of es) = map_number (value_count a) (value_count b) (rank a) (rank b) es
rank (enums ns) (tag n) = names_before n ns
rank s v = 0

-- ---- what a value of each sort is made of

bool_parts : (v : PlainValue) → IsOfSort bools v → (b : Bool) × (v ≡ bool b)
bool_parts (bool b) h = (b, refl)
bool_parts v h = let no' : false ≡ true = h.has in cc

pub pair_parts : (a b : PlainSort) (v : PlainValue) → IsOfSort (pairs a b) v → (x y : PlainValue) × (v ≡ pair x y) × IsOfSort a x × IsOfSort b y
pair_parts a b (pair x y) h =
    let r = and_parts (has_sort a x) (has_sort b y) h.has in
    (x, y, refl, record { has = r.0; canonical = h.canonical.0 }, record { has = r.1; canonical = h.canonical.1 })
pair_parts a b v h = let no' : false ≡ true = h.has in cc

pub set_parts : (a : PlainSort) (v : PlainValue) → IsOfSort (sets a) v → (vs : PlainValues) × (v ≡ set vs) × Each (IsOfSort a) (items vs) × Ascends (items vs)
set_parts a (set vs) h = (vs, refl, Each-items a vs h.has h.canonical.1, h.canonical.0)
set_parts a v h = let no' : false ≡ true = h.has in cc

pub seq_parts : (a : PlainSort) (n : ℕ) (v : PlainValue) → IsOfSort (seqs a n) v → (vs : PlainValues) × (v ≡ seq vs) × Each (IsOfSort a) (items vs) × (length (items vs) ≤ n)
seq_parts a n (seq vs) h =
    let r = and_parts (nat_le (length (items vs)) n) (list_all (has_sort a) (items vs)) h.has in
    (vs, refl, Each-items a vs r.1 h.canonical, is_le (length (items vs)) n r.0)
  where
    is_le : (m n : ℕ) → nat_le m n ≡ true → m ≤ n
    is_le m n h = grind (arith, nat_tests)
seq_parts a n v h = let no' : false ≡ true = h.has in cc

keys-in : (es : PlainEntries) → keys (entries es) ≡ keys_in es
keys-in no_entry = refl
keys-in (entry k v es) = ap (λ ks. k ∷ ks) (keys-in es)

each_entry : (a b : PlainSort) (es : PlainEntries) → list_all (λ e. has_sort a e.0 && has_sort b e.1) (entries es) ≡ true → EntriesAreCanonical es → EachEntry (IsOfSort a) (IsOfSort b) es
each_entry a b no_entry h c = tt
each_entry a b (entry k v es) h c =
    let r = and_parts (has_sort a k && has_sort b v) (list_all (λ e. has_sort a e.0 && has_sort b e.1) (entries es)) h in
    let q = and_parts (has_sort a k) (has_sort b v) r.0 in
    (record { has = q.0; canonical = c.0 }, record { has = q.1; canonical = c.1 }, each_entry a b es r.1 c.2)

map_parts : (a b : PlainSort) (v : PlainValue) → IsOfSort (maps a b) v → (es : PlainEntries) × (v ≡ map_of es) × EachEntry (IsOfSort a) (IsOfSort b) es × Ascends (keys_in es)
map_parts a b (map_of es) h = (es, refl, each_entry a b es h.has h.canonical.1, subst Ascends (keys-in es) h.canonical.0)
map_parts a b v h = let no' : false ≡ true = h.has in cc

tag_parts : (ns : List (List ℕ)) (v : PlainValue) → IsOfSort (enums ns) v → (n : List ℕ) × (v ≡ tag n) × (is_among n ns ≡ true)
tag_parts ns (tag n) h = (n, refl, h.has)
tag_parts ns v h = let no' : false ≡ true = h.has in cc

-- ---- the numbers of each sort

at_parts : (r : PlainValue → ℕ) (v w x y : PlainValue) → v ≡ x → w ≡ y → (value_cmp x y ≡ Less → r x < r y) → value_cmp v w ≡ Less → r v < r w
at_parts r v w x y e f k p =
    let q : value_cmp x y ≡ Less = (λ i. value_cmp (sym e i) (sym f i)) ∙ p in
    subst (λ z. r v < r z) (sym f) (subst (λ z. r z < r y) (sym e) (k q))

below_parts : (r : PlainValue → ℕ) (n : ℕ) (v x : PlainValue) → v ≡ x → r x < n → r v < n
below_parts r n v x e k = subst (λ z. r z < n) (sym e) k

bool_number-lt : (b c : Bool) → bool_cmp b c ≡ Less → rank bools (bool b) < rank bools (bool c)
bool_number-lt false true p = omega arith
bool_number-lt false false p = cc
bool_number-lt true true p = cc
bool_number-lt true false p = cc

bool_number-below : (b : Bool) → rank bools (bool b) < 2
bool_number-below true = omega arith
bool_number-below false = omega arith

bools_ranked : Ranked (IsOfSort bools) (rank bools) 2
bools_ranked = record {
  below = λ v h. let i = bool_parts v h in below_parts (rank bools) 2 v (bool i.0) i.1 (bool_number-below i.0);
  grows = λ v w h k p. let i = bool_parts v h in let j = bool_parts w k in at_parts (rank bools) v w (bool i.0) (bool j.0) i.1 j.1 (bool_number-lt i.0 j.0) p;
}

gap-le : (lo n hi : ℤ) → lo ≤ℤ n → n ≤ℤ hi → int_gap lo n ≤ int_gap lo hi
gap-le (pos a) (pos n) (pos b) p q = omega (arith, int_rules)
gap-le (pos a) (pos n) (negsuc b) p q = absurd (omega (arith, int_rules))
gap-le (pos a) (negsuc n) hi p q = absurd (omega (arith, int_rules))
gap-le (negsuc a) (pos n) (pos b) p q = omega (arith, int_rules)
gap-le (negsuc a) (pos n) (negsuc b) p q = absurd (omega (arith, int_rules))
gap-le (negsuc a) (negsuc n) (pos b) p q = omega (arith, int_rules)
gap-le (negsuc a) (negsuc n) (negsuc b) p q = omega (arith, int_rules)

gap-lt : (lo m n : ℤ) → lo ≤ℤ m → m <ℤ n → int_gap lo m < int_gap lo n
gap-lt (pos a) (pos n) (pos b) p q = omega (arith, int_rules)
gap-lt (pos a) (pos n) (negsuc b) p q = absurd (omega (arith, int_rules))
gap-lt (pos a) (negsuc n) hi p q = absurd (omega (arith, int_rules))
gap-lt (negsuc a) (pos n) (pos b) p q = omega (arith, int_rules)
gap-lt (negsuc a) (pos n) (negsuc b) p q = absurd (omega (arith, int_rules))
gap-lt (negsuc a) (negsuc n) (pos b) p q = omega (arith, int_rules)
gap-lt (negsuc a) (negsuc n) (negsuc b) p q = omega (arith, int_rules)

int_number-below : (lo hi n : ℤ) → lo ≤ℤ n → n ≤ℤ hi → int_gap lo n < interval_count lo hi
int_number-below lo hi n p q = let e : int_le lo hi ≡ true = holds lo hi (omega (arith, int_rules)) in rw e (omega (arith, gap-le lo n hi p q))
  where
    holds : (a b : ℤ) → a ≤ℤ b → int_le a b ≡ true
    holds a b h = grind (arith, int_rules)

int_number-lt : (lo m n : ℤ) → lo ≤ℤ m → int_cmp m n ≡ Less → int_gap lo m < int_gap lo n
int_number-lt lo m n p q = gap-lt lo m n p (less m n q)
  where
    less : (m n : ℤ) → int_cmp m n ≡ Less → m <ℤ n
    less m n h = grind (arith, int_rules)

ints_ranked : (lo hi : ℤ) → Ranked (IsOfSort (ints lo hi)) (rank (ints lo hi)) (interval_count lo hi)
ints_ranked lo hi = record {
  below = λ v h. let i = int_of lo hi v h.has in below_parts (rank (ints lo hi)) (interval_count lo hi) v (int i.0) i.1 (int_number-below lo hi i.0 i.2 i.3);
  grows = λ v w h k p.
      let i = int_of lo hi v h.has in
      let j = int_of lo hi w k.has in at_parts (rank (ints lo hi)) v w (int i.0) (int j.0) i.1 j.1 (int_number-lt lo i.0 j.0 i.2) p;
}

module _ (a b : PlainSort) (k : Ranked (IsOfSort a) (rank a) (value_count a)) (l : Ranked (IsOfSort b) (rank b) (value_count b)) where
  pair_number-lt : (v w x y : PlainValue) → IsOfSort a v → IsOfSort b w → IsOfSort a x → IsOfSort b y → value_cmp (pair v w) (pair x y) ≡ Less → rank (pairs a b) (pair v w) < rank (pairs a b) (pair x y)
  pair_number-lt v w x y hv hw hx hy p = by (value_cmp v x) refl p
    where
      by : (o : Ordering) → value_cmp v x ≡ o → ordering_then o (value_cmp w y) ≡ Less → rank (pairs a b) (pair v w) < rank (pairs a b) (pair x y)
      by Less e q =
          let low : rank b w < value_count b = l.below w hw in
          let step : suc (rank a v) * value_count b ≤ rank a x * value_count b = mul-le-mul_right (value_count b) (k.grows v x hv hx e) in
          omega (arith, low, step)
      by Equal e q = let s : rank a v * value_count b ≡ rank a x * value_count b = ap (λ z. rank a z * value_count b) (value_cmp-equal v x e) in omega (arith, l.grows w y hw hy q, s)
      by Greater e q = cc

  pair_number-below : (v w : PlainValue) → IsOfSort a v → IsOfSort b w → rank (pairs a b) (pair v w) < value_count a * value_count b
  pair_number-below v w hv hw = omega (arith, mul-add-lt (rank a v) (value_count b) (rank b w) (value_count a) (k.below v hv) (l.below w hw))

  pairs_ranked : Ranked (IsOfSort (pairs a b)) (rank (pairs a b)) (value_count a * value_count b)
  pairs_ranked = record {
    below = λ v h.
        let i = pair_parts a b v h in
        below_parts (rank (pairs a b)) (value_count a * value_count b) v (pair i.0 i.1) i.2 (pair_number-below i.0 i.1 i.3 i.4);
    grows = λ v w h g p.
        let i = pair_parts a b v h in
        let j = pair_parts a b w g in at_parts (rank (pairs a b)) v w (pair i.0 i.1) (pair j.0 j.1) i.2 j.2 (pair_number-lt i.0 i.1 j.0 j.1 i.3 i.4 j.3 j.4) p;
  }

  maps_ranked : Ranked (IsOfSort (maps a b)) (rank (maps a b)) ((value_count b + 1) ^ value_count a)
  maps_ranked = record {
    below = λ v h.
        let i = map_parts a b v h in
        below_parts (rank (maps a b)) ((value_count b + 1) ^ value_count a) v (map_of i.0) i.1
        (map_number-below (IsOfSort a) (IsOfSort b) (rank a) (rank b) (value_count a) (value_count b) k l i.0 i.2 i.3);
    grows = λ v w h g p.
        let i = map_parts a b v h in
        let j = map_parts a b w g in
        at_parts (rank (maps a b)) v w (map_of i.0) (map_of j.0) i.1 j.1
        (map_number-lt (IsOfSort a) (IsOfSort b) (rank a) (rank b) (value_count a) (value_count b) k l i.0 j.0 i.2 i.3 j.2 j.3) p;
  }

module _ (a : PlainSort) (k : Ranked (IsOfSort a) (rank a) (value_count a)) where
  sets_ranked : Ranked (IsOfSort (sets a)) (rank (sets a)) (2 ^ value_count a)
  sets_ranked = record {
    below = λ v h.
        let i = set_parts a v h in below_parts (rank (sets a)) (2 ^ value_count a) v (set i.0) i.1 (set_number-below (IsOfSort a) (rank a) (value_count a) k (items i.0) i.2 i.3);
    grows = λ v w h g p.
        let i = set_parts a v h in
        let j = set_parts a w g in at_parts (rank (sets a)) v w (set i.0) (set j.0) i.1 j.1 (set_number-lt (IsOfSort a) (rank a) (value_count a) k i.0 j.0 i.2 i.3 j.2 j.3) p;
  }

  seqs_ranked : (n : ℕ) → Ranked (IsOfSort (seqs a n)) (rank (seqs a n)) (sequence_count (value_count a) n)
  seqs_ranked n = record {
    below = λ v h.
        let i = seq_parts a n v h in
        below_parts (rank (seqs a n)) (sequence_count (value_count a) n) v (seq i.0) i.1 (seq_number-below (IsOfSort a) (rank a) (value_count a) k n (items i.0) i.2 i.3);
    grows = λ v w h g p.
        let i = seq_parts a n v h in
        let j = seq_parts a n w g in at_parts (rank (seqs a n)) v w (seq i.0) (seq j.0) i.1 j.1 (seq_number-lt (IsOfSort a) (rank a) (value_count a) k n i.0 j.0 i.2 i.3 j.2 j.3) p;
  }

enums_ranked : (ns : List (List ℕ)) → Ranked (IsOfSort (enums ns)) (rank (enums ns)) (length ns)
enums_ranked ns = record {
  below = λ v h. let i = tag_parts ns v h in below_parts (rank (enums ns)) (length ns) v (tag i.0) i.1 (names_before-below i.0 ns i.2);
  grows = λ v w h k p. let i = tag_parts ns v h in let j = tag_parts ns w k in at_parts (rank (enums ns)) v w (tag i.0) (tag j.0) i.1 j.1 (λ q. names_before-lt i.0 j.0 q ns i.2) p;
}

pub ranked : (s : PlainSort) → Ranked (IsOfSort s) (rank s) (value_count s)
unfolding value_count
ranked never = record { below = λ v h. absurd (none_of v h.has); grows = λ v w h k p. absurd (none_of v h.has) }
ranked bools = bools_ranked
ranked (ints lo hi) = ints_ranked lo hi
ranked (pairs a b) = pairs_ranked a b (ranked a) (ranked b)
ranked (sets a) = sets_ranked a (ranked a)
ranked (seqs a n) = seqs_ranked a (ranked a) n
ranked (maps a b) = maps_ranked a b (ranked a) (ranked b)
ranked (enums ns) = enums_ranked ns

-- ---- counts

within_cap : (m n : ℕ) → n ≡ min m 65537 → nat_le n 65536 ≡ true → m ≤ n
within_cap m n e h = grind (arith, nat_tests)

pub members_counted : (a : PlainSort) (vs : List PlainValue) → is_allowed (sets a) ≡ true → AreMembers a vs → length vs ≤ count_of a
members_counted a vs p h =
    let r = and_parts (nat_le (sort_depth a + 1) 8) (is_bounded a && nat_le (count_of a) 65536) p in
    let q = and_parts (is_bounded a) (nat_le (count_of a) 65536) r.1 in
    omega (arith, ranked-length (IsOfSort a) (rank a) (value_count a) (ranked a) vs h.each h.ascends, within_cap (value_count a) (count_of a) (count_of-counts a) q.1)
