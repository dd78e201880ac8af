-- The join of two sorts is their least upper bound, and there is none where no sort is above both.
use Rattle.std.proofs.Common.{◌≡◌, ℕ, ◌<◌, ℤ, true, List, Option, Some, None, Result, Ok, Err, IfOk, subst, refl, sym, arith}
use Rattle.std.specs.Option.{option_map}
use Rattle.std.specs.Prelude.{int_le, nat_le, max}
use Rattle.std.specs.Int.{int_min, int_max}
use Rattle.std.proofs.lemmas.Int.{ints as int_rules}
use Rattle.std.proofs.lemmas.Bool.Decides.{nat_tests}
use Rattle.kid_value.specs.Join.{IsJoin}
use Rattle.kid_value.specs.NameSet.{names_union}
use Rattle.kid_value.specs.PlainSort.{PlainSort, never, bools, ints, pairs, sets, seqs, maps, enums}
use Rattle.kid_value.specs.SortOrder.{is_subsort, join, both}
use Rattle.kid_value.specs.SortView.{plain_sort}
use Rattle.kid_value.specs.declared.sort.Sort.{Sort}
use Rattle.kid_value.proofs.NameLemmas.{are_among-itself, union-first, union-second, union-below}
use Rattle.kid_value.proofs.SortLemmas.{and_parts, and_both, int_le-itself, int_le-min_left, int_le-min_right, int_le-max_left, int_le-max_right}

nat_le-itself : (n : ℕ) → nat_le n n ≡ true
nat_le-itself n = grind (arith, nat_tests)

nat_le-max_left : (m n : ℕ) → nat_le m (max m n) ≡ true
nat_le-max_left m n = grind (arith, nat_tests)

nat_le-max_right : (m n : ℕ) → nat_le n (max m n) ≡ true
nat_le-max_right m n = grind (arith, nat_tests)

max-nat_le : (m n k : ℕ) → nat_le m k ≡ true → nat_le n k ≡ true → nat_le (max m n) k ≡ true
max-nat_le m n k p q = grind (arith, nat_tests)

min-int_le : (a b c : ℤ) → int_le c a ≡ true → int_le c b ≡ true → int_le c (int_min a b) ≡ true
min-int_le a b c p q = grind (arith, int_rules)

max-int_le : (a b c : ℤ) → int_le a c ≡ true → int_le b c ≡ true → int_le (int_max a b) c ≡ true
max-int_le a b c p q = grind (arith, int_rules)

-- a sort is below itself
pub is_subsort-itself : (a : PlainSort) → is_subsort a a ≡ true
is_subsort-itself never = refl
is_subsort-itself bools = refl
is_subsort-itself (ints lo hi) = and_both _ _ (int_le-itself lo) (int_le-itself hi)
is_subsort-itself (pairs a b) = and_both _ _ (is_subsort-itself a) (is_subsort-itself b)
is_subsort-itself (sets a) = is_subsort-itself a
is_subsort-itself (seqs a n) = and_both _ _ (is_subsort-itself a) (nat_le-itself n)
is_subsort-itself (maps a b) = and_both _ _ (is_subsort-itself a) (is_subsort-itself b)
is_subsort-itself (enums ns) = are_among-itself ns

abbrev shape : PlainSort → ℕ
shape never = 0
shape bools = 1
shape (ints lo hi) = 2
shape (pairs a b) = 3
shape (sets a) = 4
shape (seqs a n) = 5
shape (maps a b) = 6
shape (enums ns) = 7

-- what is above a sort other than never has its shape
same_shape : (a t : PlainSort) → is_subsort a t ≡ true → 0 < shape a → shape a ≡ shape t
same_shape never t p h = absurd (omega arith)
same_shape bools bools p h = refl
same_shape (ints lo hi) (ints l m) p h = refl
same_shape (pairs a b) (pairs c d) p h = refl
same_shape (sets a) (sets c) p h = refl
same_shape (seqs a n) (seqs c m) p h = refl
same_shape (maps a b) (maps c d) p h = refl
same_shape (enums ms) (enums ns) p h = refl
same_shape a t p h = cc

ints_below : (lo hi low high : ℤ) (t : PlainSort) → is_subsort (ints lo hi) t ≡ true → is_subsort (ints low high) t ≡ true → is_subsort (ints (int_min lo low) (int_max hi high)) t ≡ true
ints_below lo hi low high (ints l h) p q =
    let r = and_parts (int_le l lo) (int_le hi h) p in
    let s = and_parts (int_le l low) (int_le high h) q in
    and_both _ _ (min-int_le lo low l r.0 s.0) (max-int_le hi high h r.1 s.1)
ints_below lo hi low high t p q = cc

module _ (a b c d : PlainSort) where
  pairs_joined : (o p : Option PlainSort) → IsJoin a c o → IsJoin b d p → IsJoin (pairs a b) (pairs c d) (both pairs o p)
  pairs_joined (Some x) (Some y) f g = (and_both _ _ f.0 g.0, and_both _ _ f.1 g.1, below)
    where
      below : (t : PlainSort) → is_subsort (pairs a b) t ≡ true → is_subsort (pairs c d) t ≡ true → is_subsort (pairs x y) t ≡ true
      below (pairs u v) p q =
          let r = and_parts (is_subsort a u) (is_subsort b v) p in
          let s = and_parts (is_subsort c u) (is_subsort d v) q in
          and_both _ _ (f.2 u r.0 s.0) (g.2 v r.1 s.1)
      below t p q = cc
  pairs_joined (Some x) None f g = nothing
    where
      nothing : (t : PlainSort) → is_subsort (pairs a b) t ≡ true → is_subsort (pairs c d) t ≡ true → ⊥
      nothing (pairs u v) p q = g v (and_parts (is_subsort a u) (is_subsort b v) p).1 (and_parts (is_subsort c u) (is_subsort d v) q).1
      nothing t p q = cc
  pairs_joined None o f g = nothing
    where
      nothing : (t : PlainSort) → is_subsort (pairs a b) t ≡ true → is_subsort (pairs c d) t ≡ true → ⊥
      nothing (pairs u v) p q = f u (and_parts (is_subsort a u) (is_subsort b v) p).0 (and_parts (is_subsort c u) (is_subsort d v) q).0
      nothing t p q = cc

  maps_joined : (o p : Option PlainSort) → IsJoin a c o → IsJoin b d p → IsJoin (maps a b) (maps c d) (both maps o p)
  maps_joined (Some x) (Some y) f g = (and_both _ _ f.0 g.0, and_both _ _ f.1 g.1, below)
    where
      below : (t : PlainSort) → is_subsort (maps a b) t ≡ true → is_subsort (maps c d) t ≡ true → is_subsort (maps x y) t ≡ true
      below (maps u v) p q =
          let r = and_parts (is_subsort a u) (is_subsort b v) p in
          let s = and_parts (is_subsort c u) (is_subsort d v) q in
          and_both _ _ (f.2 u r.0 s.0) (g.2 v r.1 s.1)
      below t p q = cc
  maps_joined (Some x) None f g = nothing
    where
      nothing : (t : PlainSort) → is_subsort (maps a b) t ≡ true → is_subsort (maps c d) t ≡ true → ⊥
      nothing (maps u v) p q = g v (and_parts (is_subsort a u) (is_subsort b v) p).1 (and_parts (is_subsort c u) (is_subsort d v) q).1
      nothing t p q = cc
  maps_joined None o f g = nothing
    where
      nothing : (t : PlainSort) → is_subsort (maps a b) t ≡ true → is_subsort (maps c d) t ≡ true → ⊥
      nothing (maps u v) p q = f u (and_parts (is_subsort a u) (is_subsort b v) p).0 (and_parts (is_subsort c u) (is_subsort d v) q).0
      nothing t p q = cc

sets_joined : (a c : PlainSort) (o : Option PlainSort) → IsJoin a c o → IsJoin (sets a) (sets c) (option_map sets o)
sets_joined a c (Some x) f = (f.0, f.1, below)
  where
    below : (t : PlainSort) → is_subsort (sets a) t ≡ true → is_subsort (sets c) t ≡ true → is_subsort (sets x) t ≡ true
    below (sets u) p q = f.2 u p q
    below t p q = cc
sets_joined a c None f = nothing
  where
    nothing : (t : PlainSort) → is_subsort (sets a) t ≡ true → is_subsort (sets c) t ≡ true → ⊥
    nothing (sets u) p q = f u p q
    nothing t p q = cc

seqs_joined : (a c : PlainSort) (n m : ℕ) (o : Option PlainSort) → IsJoin a c o → IsJoin (seqs a n) (seqs c m) (option_map (λ x. seqs x (max n m)) o)
seqs_joined a c n m (Some x) f = (and_both _ _ f.0 (nat_le-max_left n m), and_both _ _ f.1 (nat_le-max_right n m), below)
  where
    below : (t : PlainSort) → is_subsort (seqs a n) t ≡ true → is_subsort (seqs c m) t ≡ true → is_subsort (seqs x (max n m)) t ≡ true
    below (seqs u k) p q =
        let r = and_parts (is_subsort a u) (nat_le n k) p in
        let s = and_parts (is_subsort c u) (nat_le m k) q in
        and_both _ _ (f.2 u r.0 s.0) (max-nat_le n m k r.1 s.1)
    below t p q = cc
seqs_joined a c n m None f = nothing
  where
    nothing : (t : PlainSort) → is_subsort (seqs a n) t ≡ true → is_subsort (seqs c m) t ≡ true → ⊥
    nothing (seqs u k) p q = f u (and_parts (is_subsort a u) (nat_le n k) p).0 (and_parts (is_subsort c u) (nat_le m k) q).0
    nothing t p q = cc

enums_below : (ms ns : List (List ℕ)) (t : PlainSort) → is_subsort (enums ms) t ≡ true → is_subsort (enums ns) t ≡ true → is_subsort (enums (names_union ms ns)) t ≡ true
enums_below ms ns (enums ts) p q = union-below ms ns ts p q
enums_below ms ns t p q = cc

pub join-is : (a b : PlainSort) → IsJoin a b (join a b)
join-is never b = (refl, is_subsort-itself b, λ t p q. q)
join-is bools never = (refl, refl, λ t p q. p)
join-is (ints lo hi) never = (is_subsort-itself (ints lo hi), refl, λ t p q. p)
join-is (pairs a b) never = (is_subsort-itself (pairs a b), refl, λ t p q. p)
join-is (sets a) never = (is_subsort-itself (sets a), refl, λ t p q. p)
join-is (seqs a n) never = (is_subsort-itself (seqs a n), refl, λ t p q. p)
join-is (maps a b) never = (is_subsort-itself (maps a b), refl, λ t p q. p)
join-is (enums ns) never = (are_among-itself ns, refl, λ t p q. p)
join-is bools bools = (refl, refl, λ t p q. p)
join-is (ints lo hi) (ints low high) =
    (and_both _ _ (int_le-min_left lo low) (int_le-max_left hi high), and_both _ _ (int_le-min_right lo low) (int_le-max_right hi high), ints_below lo hi low high)
join-is (pairs a b) (pairs c d) = pairs_joined a b c d (join a c) (join b d) (join-is a c) (join-is b d)
join-is (sets a) (sets c) = sets_joined a c (join a c) (join-is a c)
join-is (seqs a n) (seqs c m) = seqs_joined a c n m (join a c) (join-is a c)
join-is (maps a b) (maps c d) = maps_joined a b c d (join a c) (join b d) (join-is a c) (join-is b d)
join-is (enums ms) (enums ns) = (union-first ms ns, union-second ms ns, enums_below ms ns)
join-is a b = λ t p q. let e : shape a ≡ shape t = same_shape a t p (omega arith) in let f : shape b ≡ shape t = same_shape b t q (omega arith) in omega arith

pub joined_ok : {E : Type 0} (a b : PlainSort) (r : Result (Option Sort) E) → IfOk r (λ o. option_map plain_sort o ≡ join a b) → IfOk r (λ o. IsJoin a b (option_map plain_sort o))
joined_ok a b (Ok o) e = subst (IsJoin a b) (sym e) (join-is a b)
joined_ok a b (Err e) h = h
