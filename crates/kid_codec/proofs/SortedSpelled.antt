-- A value of a sort that has a spelling has one too.
use Rattle.std.proofs.Common.{◌≡◌, ℕ, Bool, true, false, List, [], ◌∷◌, length, refl, ap, ◌∙◌, arith}
use Rattle.std.specs.Prelude.{ℤ, pos, negsuc, not, ◌&&◌, ◌||◌, int_le, nat_le}
use Rattle.std.specs.List.{list_all}
use Rattle.std.specs.Str.{bytes_eq}
use Rattle.std.proofs.lemmas.Int.{ints as int_rules}
use Rattle.kid_value.specs.NameSet.{is_among}
use Rattle.kid_value.specs.PlainSort.{PlainSort, ints, pairs, sets, seqs, maps, enums, has_sort, has_never}
use Rattle.kid_value.specs.PlainValue.{PlainValue, int, bool, pair, set, seq, map_of, tag, PlainValues, none, more, PlainEntries, no_entry, entry, items, entries}
use Rattle.kid_value.specs.SortCount.{count_of}
use Rattle.kid_value.specs.SortLimits.{is_allowed, is_bounded, in_limits}
use Rattle.kid_value.proofs.SortLemmas.{and_parts, and_both}
use Rattle.kid_codec.specs.Name.{is_name}
use Rattle.kid_codec.specs.SortSpelling.{has_spelled_names, is_spelled_sort}
use Rattle.kid_codec.specs.ValueSpelling.{is_spelled_value, are_spelled_values, are_spelled_entries}
use Rattle.kid_codec.proofs.Numbers.{bytes_eq-true}
use Rattle.kid_codec.proofs.SortTold.{bounded_by_allowed}

within : (lo hi n : ℤ) → (int_le lo n && int_le n hi) ≡ true → (int_le lo hi && int_le (negsuc 4611686018427387903) lo && int_le hi (pos 4611686018427387904)) ≡ true → in_limits n ≡ true
within lo hi n p q = grind (arith, int_rules)

-- what is among names is a name
among : (n : List ℕ) (ns : List (List ℕ)) → is_among n ns ≡ true → list_all is_name ns ≡ true → is_name n ≡ true
among n [] p h = cc
among n (m ∷ ns) p h = let r = and_parts (is_name m) (list_all is_name ns) h in by_cases (bytes_eq n m) refl p r.0 (λ q. among n ns q r.1)
  where
    by_cases : (b : Bool) → bytes_eq n m ≡ b → (b || is_among n ns) ≡ true → is_name m ≡ true → (is_among n ns ≡ true → is_name n ≡ true) → is_name n ≡ true
    by_cases true e q k f = ap is_name (bytes_eq-true n m e) ∙ k
    by_cases false e q k f = f q

mutual
  spelled : (s : PlainSort) (v : PlainValue) → is_bounded s ≡ true → has_spelled_names s ≡ true → has_sort s v ≡ true → is_spelled_value v ≡ true
  spelled (ints lo hi) (int n) b l h = within lo hi n h b
  spelled s (bool t) b l h = refl
  spelled (enums ns) (tag n) b l h = among n ns h l
  spelled (pairs a c) (pair v w) b l h =
      let r = and_parts (is_bounded a) (is_bounded c) b in
      let k = and_parts (has_spelled_names a) (has_spelled_names c) l in
      let q = and_parts (has_sort a v) (has_sort c w) h in
      and_both (is_spelled_value v) (is_spelled_value w) (spelled a v r.0 k.0 q.0) (spelled c w r.1 k.1 q.1)
  spelled (sets a) (set vs) b l h = all_spelled a vs (and_parts (is_bounded a) (nat_le (count_of a) 65536) b).0 l h
  spelled (seqs a n) (seq vs) b l h =
      all_spelled a vs (and_parts (is_bounded a) (nat_le n 65536) b).0 l (and_parts (nat_le (length (items vs)) n) (list_all (has_sort a) (items vs)) h).1
  spelled (maps a c) (map_of es) b l h =
      let r = and_parts (is_bounded a && nat_le (count_of a) 65536) (is_bounded c) b in
      let k = and_parts (has_spelled_names a) (has_spelled_names c) l in
      entries_spelled a c es (and_parts (is_bounded a) (nat_le (count_of a) 65536) r.0).0 r.1 k.0 k.1 h
  spelled s v b l h = cc

  all_spelled : (a : PlainSort) (vs : PlainValues) → is_bounded a ≡ true → has_spelled_names a ≡ true → list_all (has_sort a) (items vs) ≡ true → are_spelled_values vs ≡ true
  all_spelled a none b l h = refl
  all_spelled a (more v vs) b l h =
      let q = and_parts (has_sort a v) (list_all (has_sort a) (items vs)) h in
      and_both (is_spelled_value v) (are_spelled_values vs) (spelled a v b l q.0) (all_spelled a vs b l q.1)

  entries_spelled : (a c : PlainSort) (es : PlainEntries) → is_bounded a ≡ true → is_bounded c ≡ true → has_spelled_names a ≡ true → has_spelled_names c ≡ true
      → list_all (λ (e : PlainValue × PlainValue). has_sort a e.0 && has_sort c e.1) (entries es) ≡ true → are_spelled_entries es ≡ true
  entries_spelled a c no_entry b d l m h = refl
  entries_spelled a c (entry k v es) b d l m h =
      let q = and_parts (has_sort a k && has_sort c v) (list_all (λ (e : PlainValue × PlainValue). has_sort a e.0 && has_sort c e.1) (entries es)) h in
      let r = and_parts (has_sort a k) (has_sort c v) q.0 in
      and_both (is_spelled_value k && is_spelled_value v) (are_spelled_entries es)
      (and_both (is_spelled_value k) (is_spelled_value v) (spelled a k b l r.0) (spelled c v d m r.1))
      (entries_spelled a c es b d l m q.1)

pub sorted-spelled : (s : PlainSort) (v : PlainValue) → is_spelled_sort s ≡ true → has_sort s v ≡ true → is_spelled_value v ≡ true
sorted-spelled s v p h =
    let r = and_parts (is_allowed s && not (has_never s)) (has_spelled_names s) p in
    let q = and_parts (is_allowed s) (not (has_never s)) r.0 in
    spelled s v (bounded_by_allowed s q.0) r.1 h
