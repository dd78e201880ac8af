-- A value of a sort has each sort above it, and a join is above both.
use Rattle.std.proofs.Common.{◌≡◌, ℕ, ℤ, Bool, true, false, List, [], ◌∷◌, Ordering, refl, cond, arith, length, map}
use Rattle.std.specs.declared.cmp.Ordering.TheVariants.{Less, Equal, Greater}
use Rattle.std.specs.Prelude.{◌&&◌, int_le, nat_le, filter}
use Rattle.std.specs.List.{list_all}
use Rattle.std.specs.Int.{int_min, int_max}
use Rattle.std.proofs.lemmas.Int.{ints as int_rules}
use Rattle.std.proofs.lemmas.Bool.Decides.{nat_tests}
use Rattle.kid_value.specs.PlainValue.{PlainValue, int, pair, set, seq, map_of, tag, items, entries}
use Rattle.kid_value.specs.ValueOrder.{value_cmp}
use Rattle.kid_value.specs.ValueSet.{put, put_by, union}
use Rattle.kid_value.specs.Rows.Parts.{members_of}
use Rattle.kid_value.specs.PlainSort.{PlainSort, never, bools, ints, pairs, sets, seqs, maps, enums, has_sort}
use Rattle.kid_value.specs.SortOrder.{is_subsort}
use Rattle.kid_value.specs.SortLimits.{sort_depth}
use Rattle.kid_value.proofs.NameLemmas.{are_among-each}

pub and_parts : (b c : Bool) → (b && c) ≡ true → (b ≡ true) × (c ≡ true)
and_parts true c p = (refl, p)
and_parts false c p = cc

pub and_both : (b c : Bool) → b ≡ true → c ≡ true → (b && c) ≡ true
and_both b c p q = rw p q

pub list_all-weaker : {X : Type 0} (p q : X → Bool) → ((x : X) → p x ≡ true → q x ≡ true) → (xs : List X) → list_all p xs ≡ true → list_all q xs ≡ true
list_all-weaker p q w [] h = refl
list_all-weaker p q w (x ∷ xs) h = let r = and_parts (p x) (list_all p xs) h in and_both (q x) (list_all q xs) (w x r.0) (list_all-weaker p q w xs r.1)

pub int_le-trans : (a b c : ℤ) → int_le a b ≡ true → int_le b c ≡ true → int_le a c ≡ true
int_le-trans a b c p q = grind (arith, int_rules)

pub nat_le-trans : (a b c : ℕ) → nat_le a b ≡ true → nat_le b c ≡ true → nat_le a c ≡ true
nat_le-trans a b c p q = grind (arith, nat_tests)

-- a value of a sort is of each sort above it
pub has_sort-subsort : (a b : PlainSort) (v : PlainValue) → is_subsort a b ≡ true → has_sort a v ≡ true → has_sort b v ≡ true
has_sort-subsort bools bools v p h = h
has_sort-subsort (ints lo hi) (ints low high) (int n) p h =
    let q = and_parts (int_le low lo) (int_le hi high) p in
    let r = and_parts (int_le lo n) (int_le n hi) h in
    and_both _ _ (int_le-trans low lo n q.0 r.0) (int_le-trans n hi high r.1 q.1)
has_sort-subsort (pairs a b) (pairs c d) (pair v w) p h =
    let q = and_parts (is_subsort a c) (is_subsort b d) p in
    let r = and_parts (has_sort a v) (has_sort b w) h in
    and_both (has_sort c v) (has_sort d w) (has_sort-subsort a c v q.0 r.0) (has_sort-subsort b d w q.1 r.1)
has_sort-subsort (sets a) (sets c) (set vs) p h = list_all-weaker (has_sort a) (has_sort c) (λ x. has_sort-subsort a c x p) (items vs) h
has_sort-subsort (seqs a n) (seqs c m) (seq vs) p h =
    let q = and_parts (is_subsort a c) (nat_le n m) p in
    let r = and_parts (nat_le (length (items vs)) n) (list_all (has_sort a) (items vs)) h in
    and_both _ _ (nat_le-trans (length (items vs)) n m r.0 q.1) (list_all-weaker (has_sort a) (has_sort c) (λ x. has_sort-subsort a c x q.0) (items vs) r.1)
has_sort-subsort (maps a b) (maps c d) (map_of es) p h =
    let q = and_parts (is_subsort a c) (is_subsort b d) p in
    list_all-weaker (λ (e : PlainValue × PlainValue). has_sort a e.0 && has_sort b e.1) (λ e. has_sort c e.0 && has_sort d e.1)
    (λ e g. let r = and_parts (has_sort a e.0) (has_sort b e.1) g in and_both (has_sort c e.0) (has_sort d e.1) (has_sort-subsort a c e.0 q.0 r.0) (has_sort-subsort b d e.1 q.1 r.1))
    (entries es) h
has_sort-subsort (enums ms) (enums ns) (tag x) p h = are_among-each ms ns p x h
has_sort-subsort a b v p h = cc

pub int_le-itself : (a : ℤ) → int_le a a ≡ true
int_le-itself a = grind (arith, int_rules)

pub int_le-min_left : (a b : ℤ) → int_le (int_min a b) a ≡ true
int_le-min_left a b = grind (arith, int_rules)

pub int_le-min_right : (a b : ℤ) → int_le (int_min a b) b ≡ true
int_le-min_right a b = grind (arith, int_rules)

pub int_le-max_left : (a b : ℤ) → int_le a (int_max a b) ≡ true
int_le-max_left a b = grind (arith, int_rules)

pub int_le-max_right : (a b : ℤ) → int_le b (int_max a b) ≡ true
int_le-max_right a b = grind (arith, int_rules)

-- what holds of each of a list's values holds after a filter, a value more and a union
module _ (p : PlainValue → Bool) where
  pub list_all-filter : (q : PlainValue → Bool) (vs : List PlainValue) → list_all p vs ≡ true → list_all p (filter q vs) ≡ true
  list_all-filter q [] h = refl
  list_all-filter q (v ∷ vs) h =
      let r = and_parts (p v) (list_all p vs) h in by (q v) r.0 (list_all-filter q vs r.1)
    where
      by : (c : Bool) → p v ≡ true → list_all p (filter q vs) ≡ true → list_all p (cond c (v ∷ filter q vs) (filter q vs)) ≡ true
      by true e f = and_both (p v) (list_all p (filter q vs)) e f
      by false e f = f

  pub list_all-put : (v : PlainValue) (ws : List PlainValue) → p v ≡ true → list_all p ws ≡ true → list_all p (put v ws) ≡ true
  list_all-put v [] e h = and_both (p v) true e refl
  list_all-put v (w ∷ ws) e h =
      let r = and_parts (p w) (list_all p ws) h in by (value_cmp v w) r.0 (list_all-put v ws e r.1)
    where
      by : (o : Ordering) → p w ≡ true → list_all p (put v ws) ≡ true → list_all p (put_by o v w ws (put v ws)) ≡ true
      by Less f g = and_both (p v) (list_all p (w ∷ ws)) e h
      by Equal f g = h
      by Greater f g = and_both (p w) (list_all p (put v ws)) f g

  pub list_all-union : (vs ws : List PlainValue) → list_all p vs ≡ true → list_all p ws ≡ true → list_all p (union vs ws) ≡ true
  list_all-union [] ws h k = k
  list_all-union (v ∷ vs) ws h k = let r = and_parts (p v) (list_all p vs) h in list_all-put v (union vs ws) r.0 (list_all-union vs ws r.1 k)

-- each image is of a sort where each value is of another
pub list_all-map : (p q : PlainValue → Bool) (f : PlainValue → PlainValue) → ((v : PlainValue) → p v ≡ true → q (f v) ≡ true) → (vs : List PlainValue) → list_all p vs ≡ true → list_all q (map f vs) ≡ true
list_all-map p q f k [] h = refl
list_all-map p q f k (v ∷ vs) h = let r = and_parts (p v) (list_all p vs) h in and_both (q (f v)) (list_all q (map f vs)) (k v r.0) (list_all-map p q f k vs r.1)

-- a value of a set sort has members of the element sort
pub set_members : (a : PlainSort) (v : PlainValue) → has_sort (sets a) v ≡ true → list_all (has_sort a) (members_of v) ≡ true
set_members a (set vs) h = h
set_members a v h = cc

-- no sort has depth 0
pub never_flat : (s : PlainSort) → nat_le (sort_depth s) 0 ≡ false
never_flat never = refl
never_flat bools = refl
never_flat (ints lo hi) = refl
never_flat (pairs a b) = grind (arith, nat_tests)
never_flat (sets a) = grind (arith, nat_tests)
never_flat (seqs a n) = grind (arith, nat_tests)
never_flat (maps a b) = grind (arith, nat_tests)
never_flat (enums ns) = refl
