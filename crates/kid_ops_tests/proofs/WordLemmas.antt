-- A word of at most 62 bits stays within the limits.
use Rattle.std.proofs.Common.{◌≡◌, ℕ, ◌<◌, ◌≤◌, ◌^◌, Bool, true, ℤ, pos, negsuc, refl, arith}
use Rattle.std.specs.Prelude.{int_le}
use Rattle.std.proofs.lemmas.Bool.Decides.{nat_tests}
use Rattle.std.proofs.lemmas.Int.{ints as int_rules}
use Rattle.kid_value.specs.PlainValue.{PlainValue, int, bool, pair, set, seq, map_of, tag, items}
use Rattle.kid_value.specs.SortLimits.{in_limits}
use Rattle.kid_value.specs.ValueSet.{is_member}
use Rattle.kid_value.specs.Rows.Kinds.{natural}
use Rattle.kid_value.specs.Rows.Parts.{number_of}
use Rattle.kid_value.specs.Rows.Word.{word_of, key_at, wenc}
use Rattle.kid_value.proofs.RowMeaning.{word_of-below}
use Rattle.kid_value.proofs.SortLemmas.{and_both}
use Rattle.kid_ops.proofs.BitLemmas.{power-le}

few_bits : (k : ℤ) → int_le k (pos 62) ≡ true → natural k ≤ 62
few_bits (pos n) h = grind (arith, int_rules, nat_tests)
few_bits (negsuc n) h = omega arith

within : (n : ℕ) → n ≤ 4611686018427387904 → in_limits (pos n) ≡ true
within n h =
    and_both (int_le (negsuc 4611686018427387903) (pos n)) (int_le (pos n) (pos 4611686018427387904))
    (grind (arith, int_rules, nat_tests)) (grind (arith, int_rules, nat_tests))

small_word : (p : ℕ → Bool) (k : ℤ) → int_le k (pos 62) ≡ true → in_limits (pos (word_of p (natural k))) ≡ true
small_word p k h =
    let b : word_of p (natural k) < 2 ^ natural k = word_of-below p (natural k) in
    let m : 2 ^ natural k ≤ 4611686018427387904 = power-le (natural k) (few_bits k h) in
    within (word_of p (natural k)) (omega arith)

pub small_code : (lo k : ℤ) (v : PlainValue) → int_le k (pos 62) ≡ true → in_limits (number_of (wenc (int lo) (int k) v)) ≡ true
small_code lo k (set vs) h = small_word (λ i. is_member (key_at lo i) (items vs)) k h
small_code lo k (int n) h = refl
small_code lo k (bool b) h = refl
small_code lo k (pair v w) h = refl
small_code lo k (seq vs) h = refl
small_code lo k (map_of es) h = refl
small_code lo k (tag n) h = refl
