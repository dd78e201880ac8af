-- The values of the binders have their sorts, and their sums stay small.
use Rattle.std.proofs.Common.{◌≡◌, ℕ, ◌≤◌, ℤ, Bool, true, List, [], ◌∷◌, Ok, refl, ap, ◌∙◌, subst, arith, length, map}
use Rattle.std.specs.Prelude.{pos, negsuc, ◌*ℤ◌, ◌≤ℤ◌, ◌&&◌, int_le, filter}
use Rattle.std.specs.List.{list_all, list_any}
use Rattle.std.specs.Int.{int_min, int_max}
use Rattle.std.proofs.Math.IntN.{zero-*ℤ}
use Rattle.std.proofs.lemmas.Int.{ints as int_rules, clamps}
use Rattle.std.proofs.lemmas.List.{length-map}
use Rattle.kid_value.specs.PlainValue.{PlainValue, int, bool}
use Rattle.kid_value.specs.PlainSort.{PlainSort, never, bools, ints, pairs, sets, seqs, maps, enums}
use Rattle.kid_value.specs.SortLimits.{is_allowed}
use Rattle.kid_value.specs.SortCount.{count_of}
use Rattle.kid_value.specs.Rows.Parts.{truth_of, total}
use Rattle.kid_value.specs.Rows.Kinds.{set_from}
use Rattle.kid_value.specs.ValueSet.{set_of}
use Rattle.kid_value.proofs.SortLemmas.{and_parts}
use Rattle.kid_value.proofs.ValueSetLaws.{Ascends-filter, Ascends-union}
use Rattle.kid_term.specs.declared.operator.Binder.{Binder}
use Rattle.kid_term.specs.declared.operator.Binder.TheVariants as binder
use Rattle.kid_term.specs.Eval.{binder_value}
use Rattle.kid_term.specs.Small.{binder_small}
use Rattle.kid_value.specs.Rows.Sums.{sums_small}
use Rattle.kid_term.specs.Sorted.{allowed}
use Rattle.kid_term.specs.Sorting.{binder_sort, sum_sort}
use Rattle.kid_term.specs.Fitting.{IsOfSort}
use Rattle.kid_term.proofs.Inversions.{ok, ok_same, allowed_ok, with_bool_ok, none_of}
use Rattle.kid_term.proofs.LogicSound.{Sound, truth_sound}
use Rattle.kid_term.proofs.NumberSound.{interval_sound}
use Rattle.kid_term.proofs.Members.{Each, Each-filter, Each-union, Each-map, AreMembers, set_sound}
use Rattle.kid_term.proofs.Sums.{total_lies, sums_stay, multiples_fall, multiples_grow}
use Rattle.kid_term.proofs.Counting.{members_counted}

-- what is shown of a value, and whether its evaluation stays small
pub record Evaluates (s : PlainSort) (v : PlainValue) (small : Bool) : Type 0 where
  pub sound : Sound s v
  pub stays : small ≡ true

-- the limits of an interval that is allowed
limits : (lo hi : ℤ) → is_allowed (ints lo hi) ≡ true → (negsuc 4611686018427387903 ≤ℤ lo) × (hi ≤ℤ pos 4611686018427387904)
limits lo hi p =
    let r = and_parts (int_le lo hi && int_le (negsuc 4611686018427387903) lo) (int_le hi (pos 4611686018427387904)) p in
    let q = and_parts (int_le lo hi) (int_le (negsuc 4611686018427387903) lo) r.0 in
    (is_le _ _ q.1, is_le _ _ r.1)
  where
    is_le : (a b : ℤ) → int_le a b ≡ true → a ≤ℤ b
    is_le a b h = grind (arith, int_rules)

-- the sum of at most num integers
integers_summed : (num : ℕ) (lo hi : ℤ) (s : PlainSort) (vs : List PlainValue) → sum_sort num (ints lo hi) ≡ Ok s → Each (IsOfSort (ints lo hi)) vs → length vs ≤ num
    → Evaluates s (int (total vs)) (sums_small (pos 0) vs)
integers_summed num lo hi s vs p h q = by (int_min (pos 0) lo) (int_max (pos 0) hi) p (omega (arith, int_rules, clamps)) (omega (arith, int_rules, clamps)) (omega (arith, int_rules, clamps)) (omega (arith, int_rules, clamps))
  where
    by : (low high : ℤ) → allowed (ints (pos num *ℤ low) (pos num *ℤ high)) ≡ Ok s → low ≤ℤ pos 0 → low ≤ℤ lo → pos 0 ≤ℤ high → hi ≤ℤ high → Evaluates s (int (total vs)) (sums_small (pos 0) vs)
    by low high e below under above over =
        let r = allowed_ok (ints (pos num *ℤ low) (pos num *ℤ high)) s e in
        let l = limits (pos num *ℤ low) (pos num *ℤ high) (ap is_allowed r.0 ∙ r.1) in
        let t = total_lies lo hi low high below under above over vs h in
        record {
          sound = interval_sound (pos num *ℤ low) (pos num *ℤ high) (total vs) s
              (omega (arith, int_rules, multiples_fall (length vs) num low q below, t.at_least))
              (omega (arith, int_rules, multiples_grow (length vs) num high q above, t.at_most)) e;
          stays = sums_stay lo hi low high below under above over num l.0 l.1 vs 0 (pos 0) h (omega arith)
              (record { at_least = omega (arith, int_rules, zero-*ℤ low); at_most = omega (arith, int_rules, zero-*ℤ high) });
        }

nothing_summed : (s : PlainSort) (vs : List PlainValue) → ok (ints (pos 0) (pos 0)) ≡ Ok s → Each (IsOfSort never) vs → Evaluates s (int (total vs)) (sums_small (pos 0) vs)
nothing_summed s [] p h =
    record {
      sound = subst (λ z. Sound z (int (pos 0))) (ok_same (ints (pos 0) (pos 0)) s p) (record { of_sort = record { has = refl; canonical = tt }; sort_allowed = refl });
      stays = refl;
    }
nothing_summed s (v ∷ vs) p h = absurd (none_of v h.0.has)

pub summed : (num : ℕ) (a s : PlainSort) (vs : List PlainValue) → sum_sort num a ≡ Ok s → Each (IsOfSort a) vs → length vs ≤ num → Evaluates s (int (total vs)) (sums_small (pos 0) vs)
summed num never s vs p h q = nothing_summed s vs p h
summed num bools s vs p h q = cc
summed num (ints lo hi) s vs p h q = integers_summed num lo hi s vs p h q
summed num (pairs a b) s vs p h q = cc
summed num (sets a) s vs p h q = cc
summed num (seqs a n) s vs p h q = cc
summed num (maps a b) s vs p h q = cc
summed num (enums ns) s vs p h q = cc

truth_evaluates : (b : Bool) (s : PlainSort) → ok bools ≡ Ok s → Evaluates s (bool b) true
truth_evaluates b s p = record { sound = truth_sound b s p; stays = refl }

pub binder_sound : (b : Binder) (a body s : PlainSort) (vs : List PlainValue) (f : PlainValue → PlainValue) → binder_sort b a body ≡ Ok s → is_allowed (sets a) ≡ true → AreMembers a vs
    → ((v : PlainValue) → IsOfSort a v → IsOfSort body (f v)) → Evaluates s (binder_value b vs f) (binder_small b vs f)
binder_sound binder.All a body s vs f p q h k = truth_evaluates (list_all (λ v. truth_of (f v)) vs) s (with_bool_ok body (ok bools) s p).1
binder_sound binder.Some a body s vs f p q h k = truth_evaluates (list_any (λ v. truth_of (f v)) vs) s (with_bool_ok body (ok bools) s p).1
binder_sound binder.SetOf a body s vs f p q h k =
    let e = ok_same (sets a) s (with_bool_ok body (ok (sets a)) s p).1 in
    record {
      sound = subst (λ z. Sound z (set_from (filter (λ v. truth_of (f v)) vs))) e
          (record {
            of_sort = set_sound a (filter (λ v. truth_of (f v)) vs)
                (record { each = Each-filter (IsOfSort a) (λ v. truth_of (f v)) vs h.each; ascends = Ascends-filter (λ v. truth_of (f v)) vs h.ascends });
            sort_allowed = q;
          });
      stays = refl;
    }
binder_sound binder.Image a body s vs f p q h k =
    let e = allowed_ok (sets body) s p in
    record {
      sound = record {
        of_sort = subst (λ z. IsOfSort z (set_from (set_of (map f vs)))) e.0
            (set_sound body (set_of (map f vs))
            (record { each = Each-union (IsOfSort body) (map f vs) [] (Each-map (IsOfSort a) (IsOfSort body) f k vs h.each) tt; ascends = Ascends-union (map f vs) [] tt }));
        sort_allowed = e.1;
      };
      stays = refl;
    }
binder_sound binder.SumOf a body s vs f p q h k =
    summed (count_of a) body s (map f vs) p (Each-map (IsOfSort a) (IsOfSort body) f k vs h.each) (simp length-map (members_counted a vs q h))
