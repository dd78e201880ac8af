-- The least value of a sort is its least.
use Rattle.std.proofs.Common.{◌≡◌, ℕ, ℤ, true, false, [], ◌∷◌, Ordering, refl, arith}
use Rattle.std.specs.declared.cmp.Ordering.TheVariants.{Less, Equal, Greater}
use Rattle.std.specs.Ordering.{ordering_then, int_cmp}
use Rattle.std.specs.Prelude.{int_le, nat_le}
use Rattle.std.proofs.lemmas.Int.{ints as int_rules}
use Rattle.std.proofs.lemmas.Bool.Decides.{nat_tests}
use Rattle.kid_value.specs.PlainValue.{int, bool, pair, set, seq, map_of, tag, none, more, no_entry, entry}
use Rattle.kid_value.specs.PlainSort.{PlainSort, bools, ints, pairs, sets, seqs, maps, enums, has_sort}
use Rattle.kid_value.specs.ValueOrder.{value_cmp}
use Rattle.kid_value.specs.Least.{least_value, IsLeastOf}
use Rattle.kid_value.proofs.NameLemmas.{least_from-among, least_from-least}
use Rattle.kid_value.proofs.SortLemmas.{and_parts, and_both, int_le-itself, int_le-trans}

not_greater : (m n : ℤ) → int_le m n ≡ true → int_cmp m n ≡ Greater → ⊥
not_greater m n p q = grind (arith, int_rules)

zero_le : (n : ℕ) → nat_le 0 n ≡ true
zero_le n = grind (arith, nat_tests)

pub least_value_least : (s : PlainSort) → IsLeastOf s (least_value s)
least_value_least bools (bool false) h = (refl, λ p. cc)
least_value_least bools (bool true) h = (refl, λ p. cc)
least_value_least (ints lo hi) (int n) h =
    let r = and_parts (int_le lo n) (int_le n hi) h in
    (and_both _ _ (int_le-itself lo) (int_le-trans lo n hi r.0 r.1), not_greater lo n r.0)
least_value_least (pairs a b) (pair v w) h =
    let r = and_parts (has_sort a v) (has_sort b w) h in
    let x = least_value_least a v r.0 in
    let y = least_value_least b w r.1 in
    (and_both (has_sort a (least_value a)) (has_sort b (least_value b)) x.0 y.0, by_cases (value_cmp (least_value a) v) (value_cmp (least_value b) w) x.1 y.1)
  where
    by_cases : (o p : Ordering) → (o ≡ Greater → ⊥) → (p ≡ Greater → ⊥) → ordering_then o p ≡ Greater → ⊥
    by_cases Less p f g e = cc
    by_cases Equal p f g e = g e
    by_cases Greater p f g e = f refl
least_value_least (sets a) (set none) h = (refl, λ p. cc)
least_value_least (sets a) (set (more w ws)) h = (refl, λ p. cc)
least_value_least (seqs a n) (seq none) h = (and_both _ _ (zero_le n) refl, λ p. cc)
least_value_least (seqs a n) (seq (more w ws)) h = (and_both _ _ (zero_le n) refl, λ p. cc)
least_value_least (maps a b) (map_of no_entry) h = (refl, λ p. cc)
least_value_least (maps a b) (map_of (entry k v es)) h = (refl, λ p. cc)
least_value_least (enums (n ∷ ns)) (tag x) h = (least_from-among n ns, least_from-least n ns x h)
least_value_least (enums []) (tag x) h = cc
least_value_least s w h = cc
