-- The steps of a derivation are printed as words and brackets.
use Rattle.std.proofs.Common.{◌≡◌, ℤ, true, refl}
use Rattle.std.specs.Prelude.{IsTrue, ◌&&◌, negsuc, pos, int_le}
use Rattle.std.specs.Fmt.{signed_decimal}
use Rattle.kid_sexp.specs.Printing.{is_word, is_printable}
use Rattle.kid_value.specs.PlainSort.{PlainSort, never, bools, ints, pairs, sets, seqs, maps, enums}
use Rattle.kid_value.specs.SortLimits.{in_limits, is_allowed}
use Rattle.kid_value.proofs.SortLemmas.{and_parts, and_both, int_le-trans}
use Rattle.kid_prog.proofs.Words.{number_word}
use Rattle.kid_top.specs.Derivation.{steps_at}

step_printable : (lo hi : ℤ) → in_limits lo ≡ true → in_limits hi ≡ true → is_printable (steps_at (ints lo hi)) ≡ true
step_printable lo hi low high =
    and_both _ true (and_both (is_word (signed_decimal lo)) _ (number_word lo low) (and_both (is_word (signed_decimal hi)) _ (number_word hi high) refl)) refl

pub steps_printable : (s : PlainSort) → is_allowed s ≡ true → IsTrue (is_printable (steps_at s))
steps_printable never h = refl
steps_printable bools h = refl
steps_printable (ints lo hi) h =
    let least : ℤ = negsuc 4611686018427387903 in
    let greatest : ℤ = pos 4611686018427387904 in
    let a = and_parts (int_le lo hi && int_le least lo) (int_le hi greatest) h in
    let b = and_parts (int_le lo hi) (int_le least lo) a.0 in
    step_printable lo hi (and_both (int_le least lo) (int_le lo greatest) b.1 (int_le-trans lo hi greatest b.0 a.1))
    (and_both (int_le least hi) (int_le hi greatest) (int_le-trans least lo hi b.1 b.0) a.1)
steps_printable (pairs a b) h = refl
steps_printable (sets a) h = refl
steps_printable (seqs a n) h = refl
steps_printable (maps a b) h = refl
steps_printable (enums ns) h = refl

pub ruleset steps = (steps_printable)
