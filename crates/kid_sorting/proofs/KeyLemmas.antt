-- Keys of which the greatest does not fit the machine are of no allowed sort.
use Rattle.std.proofs.Common.{◌≡◌, refl, ℕ, ◌+◌, ◌<◌, ◌≤◌, List, [], ◌∷◌, length, map, Bool, true, false, arith, Err, ap}
use Rattle.std.specs.Prelude.{ℤ, pos, ◌+ℤ◌, ◌-ℤ◌, FitsSigned, nat_le, ◌&&◌}
use Rattle.std.specs.Int.{w64, int_min, int_max}
use Rattle.std.proofs.lemmas.Int.{ints as int_rules, clamps}
use Rattle.kid_value.specs.PlainSort.{PlainSort, never, bools, ints, pairs, sets, seqs, maps, enums}
use Rattle.kid_value.specs.SortOrder.{join}
use Rattle.kid_value.specs.SortLimits.{is_bounded, is_allowed, sort_depth}
use Rattle.kid_value.specs.SortCount.{count_of}
use Rattle.kid_value.specs.SortView.{plain_sort}
use Rattle.kid_value.specs.declared.sort.Sort.{Sort}
use Rattle.kid_term.specs.Sorted.{Sorted, Kind, Bounds, allowed, with_two, with_join}
use Rattle.kid_term.specs.WordSorts.{are_keys, keys_from}

unbounded : (lo hi : ℤ) → ¬ FitsSigned w64 hi → is_bounded (ints lo hi) ≡ false
unbounded lo hi unfit = grind (arith, int_rules)

no_sets : (a : PlainSort) → is_bounded a ≡ false → is_allowed (sets a) ≡ false
no_sets a p = by (nat_le (sort_depth a + 1) 8) (ap (λ b. b && nat_le (count_of a) 65536) p)
  where
    by : (c : Bool) → is_bounded (sets a) ≡ false → (c && is_bounded (sets a)) ≡ false
    by true q = q
    by false q = refl

no_maps : (a b : PlainSort) → is_bounded a ≡ false → is_allowed (maps a b) ≡ false
no_maps a b p = by (nat_le (sort_depth (maps a b)) 8) (ap (λ c. c && nat_le (count_of a) 65536 && is_bounded b) p)
  where
    by : (c : Bool) → is_bounded (maps a b) ≡ false → (c && is_bounded (maps a b)) ≡ false
    by true q = q
    by false q = refl

refused : (a : PlainSort) → is_allowed a ≡ false → allowed a ≡ Err Bounds
refused a p = rw p refl

pub set_outside : (lo : ℤ) (n : ℕ) → ¬ FitsSigned w64 ((lo +ℤ pos n) -ℤ pos 1) → allowed (sets (keys_from lo n)) ≡ Err Bounds
set_outside lo n unfit = refused (sets (keys_from lo n)) (no_sets (keys_from lo n) (unbounded lo ((lo +ℤ pos n) -ℤ pos 1) unfit))

pub map_outside : (lo : ℤ) (n : ℕ) (b : PlainSort) → ¬ FitsSigned w64 ((lo +ℤ pos n) -ℤ pos 1) → allowed (maps (keys_from lo n) b) ≡ Err Bounds
map_outside lo n b unfit = refused (maps (keys_from lo n) b) (no_maps (keys_from lo n) b (unbounded lo ((lo +ℤ pos n) -ℤ pos 1) unfit))

hull_unbounded : (lo low high : ℤ) (n : ℕ) → FitsSigned w64 lo → ¬ FitsSigned w64 ((lo +ℤ pos n) -ℤ pos 1) → is_allowed (ints (int_min lo low) (int_max ((lo +ℤ pos n) -ℤ pos 1) high)) ≡ false
hull_unbounded lo low high n fit unfit = grind (arith, int_rules, clamps)

pub joined_outside : (lo : ℤ) (n : ℕ) (d : PlainSort) → FitsSigned w64 lo → ¬ FitsSigned w64 ((lo +ℤ pos n) -ℤ pos 1) → are_keys d ≡ true → with_join (join (keys_from lo n) d) allowed ≡ Err Bounds
joined_outside lo n never fit unfit p = refused (keys_from lo n) (unbounded lo ((lo +ℤ pos n) -ℤ pos 1) unfit)
joined_outside lo n (ints low high) fit unfit p = refused (ints (int_min lo low) (int_max ((lo +ℤ pos n) -ℤ pos 1) high)) (hull_unbounded lo low high n fit unfit)
joined_outside lo n bools fit unfit p = cc
joined_outside lo n (pairs a b) fit unfit p = cc
joined_outside lo n (sets a) fit unfit p = cc
joined_outside lo n (seqs a m) fit unfit p = cc
joined_outside lo n (maps a b) fit unfit p = cc
joined_outside lo n (enums ns) fit unfit p = cc

-- what are no keys has no sort with keys above it
pub not_joined : (lo : ℤ) (n : ℕ) (d : PlainSort) → are_keys d ≡ false → with_join (join (keys_from lo n) d) allowed ≡ Err Kind
not_joined lo n never p = cc
not_joined lo n (ints low high) p = cc
not_joined lo n bools p = refl
not_joined lo n (pairs a b) p = refl
not_joined lo n (sets a) p = refl
not_joined lo n (seqs a m) p = refl
not_joined lo n (maps a b) p = refl
not_joined lo n (enums ns) p = refl

-- what is made of two sorts where there are fewer or more
pub two_missing : (ss : List Sort) (k : PlainSort → PlainSort → Sorted) → length ss < 2 → with_two (map plain_sort ss) k ≡ Err Kind
two_missing [] k p = refl
two_missing (a ∷ []) k p = refl
two_missing (a ∷ b ∷ ss) k p = absurd (omega arith)

pub two_over : (ss : List Sort) (k : PlainSort → PlainSort → Sorted) → 3 ≤ length ss → with_two (map plain_sort ss) k ≡ Err Kind
two_over [] k p = absurd (omega arith)
two_over (a ∷ []) k p = absurd (omega arith)
two_over (a ∷ b ∷ []) k p = absurd (omega arith)
two_over (a ∷ b ∷ c ∷ ss) k p = refl
