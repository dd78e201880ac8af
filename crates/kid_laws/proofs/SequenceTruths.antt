-- The laws of sequences are true.
use Rattle.std.proofs.Common.{◌≡◌, ℤ, pos, ◌≤ℤ◌, true, sym, ap, ◌∙◌, subst, length}
use Rattle.std.specs.Prelude.{int_le}
use Rattle.kid_value.specs.PlainValue.{int, bool, seq, items, row}
use Rattle.kid_value.specs.Rows.Number.{le}
use Rattle.kid_value.specs.Rows.Parts.{truth_of}
use Rattle.kid_value.specs.Rows.Set.{first_or, numbers}
use Rattle.kid_value.specs.SortCount.{interval_count}
use Rattle.kid_value.specs.ValueSet.{is_member, set_of}
use Rattle.kid_value.proofs.MemberLemmas.{numbers-between}
use Rattle.kid_value.proofs.RowLemmas.{items_row}
use Rattle.kid_value.proofs.SequenceMeaning.{laws}
use Rattle.kid_value.proofs.SortLemmas.{and_parts}
use Rattle.kid_value.proofs.ValueSetLaws.{Ascends-union}
use Rattle.kid_term.specs.Eval.{Env, Calls}
use Rattle.kid_laws.specs.Truth.{IsTrue}
use Rattle.kid_laws.specs.SequenceLaws.{e42, e43, e44, e45, e46, m15, m16, m17, m18}
use Rattle.kid_laws.proofs.NumberTruths.{le_of, is_le}
use Rattle.kid_laws.proofs.SetTruths.{is_true, NotNegative, least-not_negative}

-- a number of a range lies between its ends
between : (a b n : ℤ) → is_member (int n) (items (row (numbers a (interval_count a b)))) ≡ true → (a ≤ℤ n) × (n ≤ℤ b)
between a b n m =
    let r = and_parts (int_le a n) (int_le n b) (sym (numbers-between a b (int n)) ∙ ap (is_member (int n)) (sym (items_row (numbers a (interval_count a b)))) ∙ m) in
    (le_of a n r.0, le_of n b r.1)

module _ (calls : Calls) (base : Env) where
  pub e42_true : IsTrue calls base e42
  e42_true v x = laws.len_snoc (seq v) x tt

  pub e43_true : IsTrue calls base e43
  e43_true v x = laws.items_snoc (seq v) x tt

  pub e44_true : IsTrue calls base e44
  e44_true v a = ap int (laws.total_snoc (seq v) (int a) tt)

  pub e45_true : IsTrue calls base e45
  e45_true v w a x h k = let r = between (pos 1) (pos (length (items v))) a k in laws.at_prefix (seq v) (seq w) x a h r.0 r.1

  pub e46_true : IsTrue calls base e46
  e46_true v x y = laws.at_snoc (seq v) x y tt

  pub m15_true : IsTrue calls base m15
  m15_true v w h = ap bool (is_le _ _ (laws.len_prefix (seq v) (seq w) h))

  pub m16_true : IsTrue calls base m16
  m16_true v w h = ap bool (laws.items_prefix (seq v) (seq w) h)

  pub m17_true : IsTrue calls base m17
  m17_true v x = ap bool (laws.prefix_snoc (seq v) x tt)

  pub m18_true : IsTrue calls base m18
  m18_true v w h k =
      let least : NotNegative (set_of (items w))
      = least-not_negative (set_of (items w)) (Ascends-union (items w) _ tt) (is_true (le (int (pos 0)) (first_or (set_of (items w)) (int (pos 0)))) (subst (λ z. truth_of (le (int (pos 0)) (first_or z (int (pos 0)))) ≡ true) (items_row (set_of (items w))) k)) in
      ap bool (is_le _ _ (laws.total_prefix (seq v) (seq w) h (λ u m. least u (ap (is_member u) (sym (items_row (set_of (items w)))) ∙ m))))
