-- The tree of a sort reads back to it.
use Rattle.std.proofs.Common.{◌≡◌, ℕ, ℤ, Bool, true, false, Some, Ok, Err, refl, ap, ◌∙◌, arith}
use Rattle.std.specs.Prelude.{pos, negsuc, not, ◌&&◌, ◌||◌, int_le, nat_le, option_map, if◌then◌else◌}
use Rattle.std.proofs.lemmas.Bool.Decides.{nat_tests}
use Rattle.std.proofs.lemmas.Int.{ints as int_rules}
use Rattle.kid_value.specs.PlainSort.{PlainSort, never, bools, ints, pairs, sets, seqs, maps, enums, has_never}
use Rattle.kid_value.specs.SortOrder.{both}
use Rattle.kid_value.specs.SortCount.{capped, count_of}
use Rattle.kid_value.specs.SortLimits.{in_limits, sort_depth, is_bounded, is_allowed}
use Rattle.kid_value.proofs.SortLemmas.{and_parts, and_both, int_le-trans}
use Rattle.kid_codec.specs.Reading.{judged}
use Rattle.kid_codec.specs.SortSpelling.{sort_spelling, has_spelled_names, is_spelled_sort, bound_from, spelled_sort, sort_reading}
use Rattle.kid_codec.specs.declared.fault.CodecFault.TheVariants as fault
use Rattle.kid_codec.proofs.Numbers.{number_of-decimal}
use Rattle.kid_codec.proofs.NameLemmas.{names_back}

or_parts : (b c : Bool) → (b || c) ≡ false → (b ≡ false) × (c ≡ false)
or_parts true c p = cc
or_parts false c p = (refl, p)

not_true : (b : Bool) → not b ≡ true → b ≡ false
not_true true p = cc
not_true false p = refl

ints_in : (lo hi : ℤ) → is_bounded (ints lo hi) ≡ true → (in_limits lo ≡ true) × (in_limits hi ≡ true)
ints_in lo hi h =
    let r = and_parts (int_le lo hi && int_le (negsuc 4611686018427387903) lo) (int_le hi (pos 4611686018427387904)) h in
    let q = and_parts (int_le lo hi) (int_le (negsuc 4611686018427387903) lo) r.0 in (
      and_both (int_le (negsuc 4611686018427387903) lo) (int_le lo (pos 4611686018427387904)) q.1 (int_le-trans lo hi (pos 4611686018427387904) q.0 r.1),
      and_both (int_le (negsuc 4611686018427387903) hi) (int_le hi (pos 4611686018427387904)) (int_le-trans (negsuc 4611686018427387903) lo hi q.1 q.0) r.1,
    )

bound_in : (n : ℕ) → nat_le n 65536 ≡ true → in_limits (pos n) ≡ true
bound_in n h =
    and_both (int_le (negsuc 4611686018427387903) (pos n)) (int_le (pos n) (pos 4611686018427387904))
    (grind (arith, int_rules, nat_tests)) (grind (arith, int_rules, nat_tests))

bound_kept : (n : ℕ) → nat_le n 65536 ≡ true → capped n ≡ n
bound_kept n h = grind (arith, nat_tests)

pub sort_back : (s : PlainSort) → is_bounded s ≡ true → has_never s ≡ false → has_spelled_names s ≡ true → spelled_sort (sort_spelling s) ≡ Some s
sort_back never b n h = cc
sort_back bools b n h = refl
sort_back (ints lo hi) b n h =
    let r = ints_in lo hi b in
    let p = number_of-decimal lo r.0 in
    let q = number_of-decimal hi r.1 in
    λ i. both ints (p i) (q i)
sort_back (pairs s t) b n h =
    let r = and_parts (is_bounded s) (is_bounded t) b in
    let m = or_parts (has_never s) (has_never t) n in
    let l = and_parts (has_spelled_names s) (has_spelled_names t) h in
    let p = sort_back s r.0 m.0 l.0 in
    let q = sort_back t r.1 m.1 l.1 in
    λ i. both pairs (p i) (q i)
sort_back (sets s) b n h =
    let r = and_parts (is_bounded s) (nat_le (count_of s) 65536) b in
    ap (option_map sets) (sort_back s r.0 n h)
sort_back (seqs s k) b n h =
    let r = and_parts (is_bounded s) (nat_le k 65536) b in
    let p = sort_back s r.0 n h in
    let q = number_of-decimal (pos k) (bound_in k r.1) in
    (λ i. both seqs (p i) (option_map bound_from (q i))) ∙ ap (λ (m : ℕ). Some (seqs s m)) (bound_kept k r.1)
sort_back (maps s t) b n h =
    let r = and_parts (is_bounded s && nat_le (count_of s) 65536) (is_bounded t) b in
    let u = and_parts (is_bounded s) (nat_le (count_of s) 65536) r.0 in
    let m = or_parts (has_never s) (has_never t) n in
    let l = and_parts (has_spelled_names s) (has_spelled_names t) h in
    let p = sort_back s u.0 m.0 l.0 in
    let q = sort_back t r.1 m.1 l.1 in
    λ i. both maps (p i) (q i)
sort_back (enums ns) b n h = ap (option_map enums) (names_back ns h)

pub spelled_parts : (s : PlainSort) → is_spelled_sort s ≡ true → (is_allowed s ≡ true) × (spelled_sort (sort_spelling s) ≡ Some s)
spelled_parts s h =
    let l = and_parts (is_allowed s && not (has_never s)) (has_spelled_names s) h in
    let r = and_parts (is_allowed s) (not (has_never s)) l.0 in
    let q = and_parts (nat_le (sort_depth s) 8) (is_bounded s) r.0 in
    (r.0, sort_back s q.1 (not_true (has_never s) r.1) l.1)

pub sort_reads_back : (s : PlainSort) → is_spelled_sort s ≡ true → sort_reading (sort_spelling s) ≡ Ok s
sort_reads_back s h =
    let r = spelled_parts s h in
    ap (judged is_allowed) r.1 ∙ ap (λ (b : Bool). if b then Ok s else Err fault.Sort) r.0
