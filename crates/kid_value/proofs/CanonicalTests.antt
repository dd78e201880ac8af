-- The tests of canonical values tell which are canonical.
use Rattle.std.proofs.Common.{◌≡◌, Bool, true, false, List, [], ◌∷◌, Ordering, refl, sym, ap}
use Rattle.std.specs.Prelude.{◌&&◌}
use Rattle.std.specs.declared.cmp.Ordering.TheVariants.{Less, Equal, Greater}
use Rattle.kid_value.specs.Canonical.{IsCanonical, AreCanonical, EntriesAreCanonical, is_less, are_after, is_ascending, is_canonical, are_canonical, entries_are_canonical}
use Rattle.kid_value.specs.InSort.{in_sort}
use Rattle.kid_value.specs.PlainSort.{PlainSort, has_sort}
use Rattle.kid_value.specs.PlainValue.{PlainValue, int, bool, pair, set, seq, map_of, tag, PlainValues, none, more, PlainEntries, no_entry, entry, items, entries}
use Rattle.kid_value.specs.ValueMap.{keys}
use Rattle.kid_value.specs.ValueOrder.{value_cmp}
use Rattle.kid_value.specs.ValueSet.{AllAfter, Ascends}
use Rattle.kid_value.proofs.SortLemmas.{and_parts, and_both}

pub are_after-is : (x : PlainValue) (ys : List PlainValue) → AllAfter x ys → are_after x ys ≡ true
are_after-is x [] a = refl
are_after-is x (y ∷ ys) a = and_both (is_less (value_cmp x y)) (are_after x ys) (ap is_less a.0) (are_after-is x ys a.1)

pub is_ascending-is : (xs : List PlainValue) → Ascends xs → is_ascending xs ≡ true
is_ascending-is [] a = refl
is_ascending-is (x ∷ xs) a = and_both (are_after x xs) (is_ascending xs) (are_after-is x xs a.0) (is_ascending-is xs a.1)

mutual
  pub is_canonical-is : (v : PlainValue) → IsCanonical v → is_canonical v ≡ true
  is_canonical-is (int n) c = refl
  is_canonical-is (bool b) c = refl
  is_canonical-is (pair a b) c = and_both (is_canonical a) (is_canonical b) (is_canonical-is a c.0) (is_canonical-is b c.1)
  is_canonical-is (set vs) c = and_both (is_ascending (items vs)) (are_canonical vs) (is_ascending-is (items vs) c.0) (are_canonical-is vs c.1)
  is_canonical-is (seq vs) c = are_canonical-is vs c
  is_canonical-is (tag n) c = refl
  is_canonical-is (map_of es) c = and_both (is_ascending (keys (entries es))) (entries_are_canonical es) (is_ascending-is (keys (entries es)) c.0) (entries_are_canonical-is es c.1)

  pub are_canonical-is : (vs : PlainValues) → AreCanonical vs → are_canonical vs ≡ true
  are_canonical-is none c = refl
  are_canonical-is (more v vs) c = and_both (is_canonical v) (are_canonical vs) (is_canonical-is v c.0) (are_canonical-is vs c.1)

  pub entries_are_canonical-is : (es : PlainEntries) → EntriesAreCanonical es → entries_are_canonical es ≡ true
  entries_are_canonical-is no_entry c = refl
  entries_are_canonical-is (entry k v es) c =
      and_both (is_canonical k && is_canonical v) (entries_are_canonical es) (and_both (is_canonical k) (is_canonical v) (is_canonical-is k c.0) (is_canonical-is v c.1)) (entries_are_canonical-is es c.2)

before-test : (o : Ordering) → is_less o ≡ true → o ≡ Less
before-test Less p = refl
before-test Equal p = cc
before-test Greater p = cc

pub AllAfter-test : (x : PlainValue) (ys : List PlainValue) → are_after x ys ≡ true → AllAfter x ys
AllAfter-test x [] p = tt
AllAfter-test x (y ∷ ys) p = let r = and_parts (is_less (value_cmp x y)) (are_after x ys) p in (before-test (value_cmp x y) r.0, AllAfter-test x ys r.1)

pub Ascends-test : (xs : List PlainValue) → is_ascending xs ≡ true → Ascends xs
Ascends-test [] p = tt
Ascends-test (x ∷ xs) p = let r = and_parts (are_after x xs) (is_ascending xs) p in (AllAfter-test x xs r.0, Ascends-test xs r.1)

mutual
  pub IsCanonical-test : (v : PlainValue) → is_canonical v ≡ true → IsCanonical v
  IsCanonical-test (int n) p = tt
  IsCanonical-test (bool b) p = tt
  IsCanonical-test (pair a b) p = let r = and_parts (is_canonical a) (is_canonical b) p in (IsCanonical-test a r.0, IsCanonical-test b r.1)
  IsCanonical-test (set vs) p = let r = and_parts (is_ascending (items vs)) (are_canonical vs) p in (Ascends-test (items vs) r.0, AreCanonical-test vs r.1)
  IsCanonical-test (seq vs) p = AreCanonical-test vs p
  IsCanonical-test (tag n) p = tt
  IsCanonical-test (map_of es) p = let r = and_parts (is_ascending (keys (entries es))) (entries_are_canonical es) p in (Ascends-test (keys (entries es)) r.0, EntriesAreCanonical-test es r.1)

  pub AreCanonical-test : (vs : PlainValues) → are_canonical vs ≡ true → AreCanonical vs
  AreCanonical-test none p = tt
  AreCanonical-test (more v vs) p = let r = and_parts (is_canonical v) (are_canonical vs) p in (IsCanonical-test v r.0, AreCanonical-test vs r.1)

  pub EntriesAreCanonical-test : (es : PlainEntries) → entries_are_canonical es ≡ true → EntriesAreCanonical es
  EntriesAreCanonical-test no_entry p = tt
  EntriesAreCanonical-test (entry k v es) p =
      let r = and_parts (is_canonical k && is_canonical v) (entries_are_canonical es) p in
      let s = and_parts (is_canonical k) (is_canonical v) r.0 in
      (IsCanonical-test k s.0, IsCanonical-test v s.1, EntriesAreCanonical-test es r.1)

-- a canonical value that a sort has is in it
pub in_sort-canonical : (s : PlainSort) (v : PlainValue) → IsCanonical v → has_sort s v ≡ in_sort s v
in_sort-canonical s v c = by_cases (has_sort s v)
  where
    by_cases : (b : Bool) → b ≡ (b && is_canonical v)
    by_cases true = sym (is_canonical-is v c)
    by_cases false = refl
