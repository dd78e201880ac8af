-- The laws of sets are true.
use Rattle.std.proofs.Common.{◌≡◌, ℤ, pos, ◌≤ℤ◌, Bool, true, false, cond, List, [], ◌∷◌, refl, sym, ap, ◌∙◌, arith, subst}
use Rattle.std.specs.Prelude.{not, ◌&&◌, ◌||◌, filter, int_le}
use Rattle.std.proofs.lemmas.Int.{ints as int_rules}
use Rattle.kid_value.specs.PlainValue.{PlainValue, int, bool, pair, set, seq, map_of, tag, none, more, items, row}
use Rattle.kid_value.specs.Rows.Kinds.{set_from}
use Rattle.kid_value.specs.Rows.Number.{le}
use Rattle.kid_value.specs.Rows.Parts.{truth_of, number_of, members_of}
use Rattle.kid_value.specs.Rows.Set.{first_or, numbers}
use Rattle.kid_value.specs.SortCount.{interval_count}
use Rattle.kid_value.specs.ValueOrder.{Before}
use Rattle.kid_value.specs.ValueSet.{value_eq, is_member, is_subset, all_pass, union, inter, diff, Ascends}
use Rattle.kid_value.proofs.MemberLemmas.{all_pass-member, member-all_pass, is_member-first, length-within, total-within, numbers-between}
use Rattle.kid_value.proofs.RowLemmas.{items_row, row_items}
use Rattle.kid_value.proofs.RowMeaning.{or_false}
use Rattle.kid_value.proofs.SetLaws.{union-comm, union-assoc, inter-comm}
use Rattle.kid_value.proofs.SetMeaning.{laws}
use Rattle.kid_value.proofs.SortLemmas.{and_both, and_parts}
use Rattle.kid_value.proofs.ValueSetLaws.{value_eq-true, is_member-union, is_member-filter, same_members, Ascends-union, Before-member}
use Rattle.kid_term.specs.Eval.{Env, Calls}
use Rattle.kid_laws.specs.Truth.{IsTrue}
use Rattle.kid_laws.specs.SetLaws.{e28, e29, e30, e31, e32, e33, e34, e35, e36, e37, e38, e39, e40, e41, m6, m7, m8, m9, m10, m11, m12, m13, m14}
use Rattle.kid_laws.proofs.NumberTruths.{le_of, is_le}

pub not_true : (b : Bool) → not b ≡ true → b ≡ false
not_true true h = cc
not_true false h = refl

-- a value that is true as a condition
pub is_true : (v : PlainValue) → truth_of v ≡ true → v ≡ bool true
is_true (bool b) h = ap bool h
is_true v h = cc

-- a list is a subset where nothing is left of it without the other's
no_rest : (p : PlainValue → Bool) (vs : List PlainValue) → all_pass p vs ≡ value_eq (set_from (filter (λ v. not (p v)) vs)) (set none)
no_rest p [] = refl
no_rest p (v ∷ vs) = by (p v) (no_rest p vs)
  where
    by : (b : Bool) → all_pass p vs ≡ value_eq (set_from (filter (λ v. not (p v)) vs)) (set none)
        → (b && all_pass p vs) ≡ value_eq (set_from (cond (not b) (v ∷ filter (λ v. not (p v)) vs) (filter (λ v. not (p v)) vs))) (set none)
    by true h = h
    by false h = refl

-- the members of a subset are among the whole's
within : (vs ws : List PlainValue) → is_subset vs ws ≡ true → (v : PlainValue) → is_member v vs ≡ true → is_member v ws ≡ true
within vs ws h v m = all_pass-member (λ x. is_member x ws) v vs h m

-- numbers of which none is negative
abbrev pub NotNegative : List PlainValue → Type 0
NotNegative vs = (v : PlainValue) → is_member v vs ≡ true → pos 0 ≤ℤ number_of v

-- where the least member is not negative, none is
pub least-not_negative : (vs : List PlainValue) → Ascends vs → le (int (pos 0)) (first_or vs (int (pos 0))) ≡ bool true → NotNegative vs
least-not_negative [] a h = λ v m. cc
least-not_negative (int k ∷ vs) a h = λ v m. by v (value_eq v (int k)) refl m
  where
    low : bool (int_le (pos 0) k) ≡ bool true → pos 0 ≤ℤ k
    low e = le_of (pos 0) k (ap truth_of e)

    after : (v : PlainValue) → Before (int k) v → pos 0 ≤ℤ number_of v
    after (int n) e = let l = low h in grind (arith, int_rules)
    after (bool b) e = omega (arith, int_rules)
    after (pair x y) e = omega (arith, int_rules)
    after (set xs) e = omega (arith, int_rules)
    after (seq xs) e = omega (arith, int_rules)
    after (map_of xs) e = omega (arith, int_rules)
    after (tag n) e = omega (arith, int_rules)

    by : (v : PlainValue) (b : Bool) → value_eq v (int k) ≡ b → (b || is_member v vs) ≡ true → pos 0 ≤ℤ number_of v
    by v true e m = subst (λ z. pos 0 ≤ℤ number_of z) (sym (value_eq-true v (int k) e)) (low h)
    by v false e m = after v (Before-member (int k) v vs a.0 m)
least-not_negative (v ∷ vs) a h = λ w m. cc

-- what is before a number is a number
before-le : (v : PlainValue) (a : ℤ) → Before v (int a) → le v (int a) ≡ bool true
before-le (int k) a h = ap bool (grind (arith, int_rules))
before-le v a h = cc

itself-le : (v : PlainValue) (a : ℤ) → v ≡ int a → le v (int a) ≡ bool true
itself-le v a e = ap (λ z. le z (int a)) e ∙ ap bool (grind (arith, int_rules))

least-le : (vs : List PlainValue) (a : ℤ) (d : PlainValue) → Ascends vs → is_member (int a) vs ≡ true → le (first_or vs d) (int a) ≡ bool true
least-le [] a d h m = cc
least-le (v ∷ vs) a d h m = by (value_eq (int a) v) refl m
  where
    by : (b : Bool) → value_eq (int a) v ≡ b → (b || is_member (int a) vs) ≡ true → le v (int a) ≡ bool true
    by true e m = itself-le v a (sym (value_eq-true (int a) v e))
    by false e m = before-le v a (Before-member v (int a) vs h.0 m)

-- where nothing is in both, what passes is not in the list
none_passes : (p : PlainValue → Bool) (x : PlainValue) (vs : List PlainValue) → value_eq (set (row (filter p vs))) (set none) ≡ true → p x ≡ true → is_member x vs ≡ false
none_passes p x vs e q = by (is_member x vs) refl
  where
    none_left : filter p vs ≡ []
    none_left = sym (items_row (filter p vs)) ∙ ap members_of (value_eq-true (set (row (filter p vs))) (set none) e)

    by : (b : Bool) → is_member x vs ≡ b → is_member x vs ≡ false
    by false m = m
    by true m =
        let r : is_member x (filter p vs) ≡ true = is_member-filter p x vs ∙ (λ i. m i && q i) in
        let w : is_member x (filter p vs) ≡ false = ap (is_member x) none_left in cc

range-within : (a b c d : ℤ) → a ≤ℤ b → c ≤ℤ d → (v : PlainValue) → is_member v (numbers b (interval_count b c)) ≡ true → is_member v (numbers a (interval_count a d)) ≡ true
range-within a b c d h k (int n) m =
    let r = and_parts (int_le b n) (int_le n c) (sym (numbers-between b c (int n)) ∙ m) in
    let l = le_of b n r.0 in let u = le_of n c r.1 in
    numbers-between a d (int n) ∙ and_both (int_le a n) (int_le n d) (is_le a n (omega (arith, int_rules))) (is_le n d (omega (arith, int_rules)))
range-within a b c d h k v m = let e = numbers-between b c v in cc

module _ (calls : Calls) (base : Env) where
  pub e28_true : IsTrue calls base e28
  e28_true s sup t tup = ap set_from (union-comm (items s) (items t) sup tup)

  pub e29_true : IsTrue calls base e29
  e29_true s sup t tup u uup =
      ap (λ z. set_from (union (items s) z)) (items_row (union (items t) (items u))) ∙ ap set_from (union-assoc (items s) (items t) (items u) uup)
      ∙ ap (λ z. set_from (union z (items u))) (sym (items_row (union (items s) (items t))))

  pub e30_true : IsTrue calls base e30
  e30_true s up =
      ap set_from (same_members (union (items s) []) (items s) (Ascends-union (items s) [] tt) up (λ v. is_member-union v (items s) [] ∙ or_false (is_member v (items s)))) ∙ ap set (row_items s)

  pub e31_true : IsTrue calls base e31
  e31_true s sup t tup = ap set_from (inter-comm (items s) (items t) sup tup)

  pub e32_true : IsTrue calls base e32
  e32_true x s up = refl

  pub e33_true : IsTrue calls base e33
  e33_true x s up = λ i. set_from (filter (λ v. not (sym (or_false (value_eq v x)) i)) (items s))

  pub e34_true : IsTrue calls base e34
  e34_true x s sup t tup = ap bool (ap (is_member x) (items_row (union (items s) (items t))) ∙ is_member-union x (items s) (items t))

  pub e35_true : IsTrue calls base e35
  e35_true x s sup t tup = ap bool (ap (is_member x) (items_row (inter (items s) (items t))) ∙ is_member-filter (λ v. is_member v (items t)) x (items s))

  pub e36_true : IsTrue calls base e36
  e36_true x s sup t tup = ap bool (ap (is_member x) (items_row (diff (items s) (items t))) ∙ is_member-filter (λ v. not (is_member v (items t))) x (items s))

  pub e37_true : IsTrue calls base e37
  e37_true x y = ap bool (or_false (value_eq x y))

  pub e38_true : IsTrue calls base e38
  e38_true a b c = ap bool (ap (is_member (int a)) (items_row (numbers b (interval_count b c))) ∙ numbers-between b c (int a))

  pub e39_true : IsTrue calls base e39
  e39_true s sup t tup = ap bool (no_rest (λ v. is_member v (items t)) (items s))

  pub e40_true : IsTrue calls base e40
  e40_true a s up h = ap int (laws.sum_with (int a) (set s) tt (not_true _ h))

  pub e41_true : IsTrue calls base e41
  e41_true x s up h = ap int (laws.card_with x (set s) tt (not_true _ h))

  pub m6_true : IsTrue calls base m6
  m6_true s sup (set t) u uup h k = ap bool (member-all_pass (λ v. is_member v (items u)) (items s) (λ v m. within (items t) (items u) k v (within (items s) (items t) h v m)))
  m6_true s sup t u uup h k = cc

  pub m7_true : IsTrue calls base m7
  m7_true (set s) t tup x h k = ap bool (within (items s) (items t) h x k)
  m7_true s t tup x h k = cc

  pub m8_true : IsTrue calls base m8
  m8_true s sup t tup =
      ap bool (member-all_pass (λ v. is_member v (items (row (union (items s) (items t))))) (items s)
      (λ v m. ap (is_member v) (items_row (union (items s) (items t))) ∙ is_member-union v (items s) (items t) ∙ ap (λ b. b || is_member v (items t)) m))

  pub m9_true : IsTrue calls base m9
  m9_true none up x h = cc
  m9_true (more v s) up x h = ap bool (is_member-first v (items s))

  pub m10_true : IsTrue calls base m10
  m10_true s sup t tup h = ap bool (is_le _ _ (length-within (items s) (items t) sup tup (within (items s) (items t) h)))

  pub m11_true : IsTrue calls base m11
  m11_true s sup t tup h k =
      ap bool (is_le _ _ (total-within (items s) (items t) sup tup (within (items s) (items t) h) (least-not_negative (items t) tup (is_true (le (int (pos 0)) (first_or (items t) (int (pos 0)))) k))))

  pub m12_true : IsTrue calls base m12
  m12_true s sup (set t) x h k = ap (λ b. bool (not b)) (none_passes (λ v. is_member v (items t)) x (items s) h k)
  m12_true s sup t x h k = cc

  pub m13_true : IsTrue calls base m13
  m13_true a b c d h k =
      ap bool (member-all_pass _ _ (λ v m. ap (is_member v) (items_row (numbers a (interval_count a d)))
      ∙ range-within a b c d (le_of a b h) (le_of c d k) v (ap (is_member v) (sym (items_row (numbers b (interval_count b c)))) ∙ m)))

  pub m14_true : IsTrue calls base m14
  m14_true a s up h = least-le (items s) a (int a) up h
