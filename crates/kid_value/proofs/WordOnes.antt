-- How many bits a word has, its lowest one, and that its set has no other members.
use Rattle.std.proofs.Common.{◌≡◌, ℕ, ◌+◌, ◌<◌, ◌≤◌, zero, suc, ℤ, pos, negsuc, ◌+ℤ◌, ◌-ℤ◌, ◌<ℤ◌, Bool, true, false, cond, List, [], ◌∷◌, map, length, refl, sym, ap, ◌∙◌, arith, inl, inr}
use Rattle.std.specs.List.{range_with_len}
use Rattle.std.specs.Prelude.{filter}
use Rattle.std.proofs.lemmas.Bool.{cases_lt}
use Rattle.std.proofs.lemmas.Int.{ints as int_rules}
use Rattle.kid_value.specs.PlainValue.{PlainValue, int}
use Rattle.kid_value.specs.Rows.Kinds.{set_from}
use Rattle.kid_value.specs.Rows.Set as set_rows
use Rattle.kid_value.specs.Rows.Word.{has_bit_at, has_bit, key_at, lowest_or, place_above}
use Rattle.kid_value.specs.ValueSet.{value_eq, is_member}
use Rattle.kid_value.proofs.RowLemmas.{items_row}
use Rattle.kid_value.proofs.ValueSetLaws.{or_cases, value_eq-true}

module _ (p : ℕ → Bool) where
  abbrev passing : ℕ → ℕ → List ℕ
  passing a n = filter p (range_with_len a n)

  -- where none passes there is none
  pub passing-none : (a n : ℕ) → ((i : ℕ) → a ≤ i → i < a + n → p i ≡ false) → passing a n ≡ []
  passing-none a zero f = refl
  passing-none a (suc n) f = by (p a) (f a (omega arith) (omega arith)) (passing-none (a + 1) n (λ i l h. f i (omega arith) (omega arith)))
    where
      by : (b : Bool) → b ≡ false → passing (a + 1) n ≡ [] → cond b (a ∷ passing (a + 1) n) (passing (a + 1) n) ≡ []
      by true e ih = cc
      by false e ih = ih

  -- the first that passes
  pub lowest-first : (lo d : ℤ) (i a n : ℕ) → a ≤ i → i < a + n → p i ≡ true → ((j : ℕ) → j < i → p j ≡ false) → lowest_or lo (passing a n) d ≡ lo +ℤ pos i
  lowest-first lo d i a zero l h t f = absurd (omega arith)
  lowest-first lo d i a (suc n) l h t f =
      elim (cases_lt a i) [
        | inl g ↦ later (p a) (f a g) (lowest-first lo d i (a + 1) n (omega arith) (omega arith) t f)
        | inr g ↦ let e : a ≡ i = omega arith in here (p a) (ap p e ∙ t) e
      ]
    where
      later : (b : Bool) → b ≡ false → lowest_or lo (passing (a + 1) n) d ≡ lo +ℤ pos i → lowest_or lo (cond b (a ∷ passing (a + 1) n) (passing (a + 1) n)) d ≡ lo +ℤ pos i
      later true e ih = cc
      later false e ih = ih

      here : (b : Bool) → b ≡ true → a ≡ i → lowest_or lo (cond b (a ∷ passing (a + 1) n) (passing (a + 1) n)) d ≡ lo +ℤ pos i
      here true q e = ap (λ z. lo +ℤ pos z) e
      here false q e = cc

  -- the numbers of those that pass are the only ones
  module _ (lo : ℤ) (x : PlainValue) where
    abbrev IsNumbered : ℕ → ℕ → Type 0
    IsNumbered a n = (i : ℕ) × (a ≤ i) × (i < a + n) × (p i ≡ true) × (x ≡ key_at lo i)

    pub numbered-only : (a n : ℕ) → is_member x (map (key_at lo) (passing a n)) ≡ true → IsNumbered a n
    numbered-only a zero h = cc
    numbered-only a (suc n) h = by (p a) refl h (numbered-only (a + 1) n)
      where
        wider : IsNumbered (a + 1) n → IsNumbered a (suc n)
        wider r = (r.0, omega (arith, r.1), omega (arith, r.2), r.3, r.4)

        by : (b : Bool) → p a ≡ b → is_member x (map (key_at lo) (cond b (a ∷ passing (a + 1) n) (passing (a + 1) n))) ≡ true → (is_member x (map (key_at lo) (passing (a + 1) n)) ≡ true → IsNumbered (a + 1) n) → IsNumbered a (suc n)
        by true e g ih =
            elim (or_cases (value_eq x (key_at lo a)) (is_member x (map (key_at lo) (passing (a + 1) n))) g) [
              | inl s ↦ (a, omega arith, omega arith, e, value_eq-true x (key_at lo a) s)
              | inr s ↦ wider (ih s)
            ]
        by false e g ih = wider (ih g)

-- one that passes more is counted
module _ (p q : ℕ → Bool) (i : ℕ) (others : (j : ℕ) → (j ≡ i → ⊥) → q j ≡ p j) where
  counted-alike : (a n : ℕ) → i < a → length (passing q a n) ≡ length (passing p a n)
  counted-alike a zero l = refl
  counted-alike a (suc n) l = by (p a) (q a) (others a (λ e. omega (arith, e))) (counted-alike (a + 1) n (omega arith))
    where
      by : (b c : Bool) → c ≡ b → length (passing q (a + 1) n) ≡ length (passing p (a + 1) n) → length (cond c (a ∷ passing q (a + 1) n) (passing q (a + 1) n)) ≡ length (cond b (a ∷ passing p (a + 1) n) (passing p (a + 1) n))
      by true true e ih = ap suc ih
      by true false e ih = cc
      by false true e ih = cc
      by false false e ih = ih

  pub counted-more : (a n : ℕ) → a ≤ i → i < a + n → p i ≡ false → q i ≡ true → length (passing q a n) ≡ suc (length (passing p a n))
  counted-more a zero l h f t = absurd (omega arith)
  counted-more a (suc n) l h f t =
      elim (cases_lt a i) [
        | inl g ↦ later (p a) (q a) (others a (λ e. omega (arith, e))) (counted-more (a + 1) n (omega arith) (omega arith) f t)
        | inr g ↦ let e : a ≡ i = omega arith in here (p a) (q a) (ap p e ∙ f) (ap q e ∙ t) (counted-alike (a + 1) n (omega arith))
      ]
    where
      later : (b c : Bool) → c ≡ b → length (passing q (a + 1) n) ≡ suc (length (passing p (a + 1) n)) → length (cond c (a ∷ passing q (a + 1) n) (passing q (a + 1) n)) ≡ suc (length (cond b (a ∷ passing p (a + 1) n) (passing p (a + 1) n)))
      later true true e ih = ap suc ih
      later true false e ih = cc
      later false true e ih = cc
      later false false e ih = ih

      here : (b c : Bool) → b ≡ false → c ≡ true → length (passing q (a + 1) n) ≡ length (passing p (a + 1) n) → length (cond c (a ∷ passing q (a + 1) n) (passing q (a + 1) n)) ≡ suc (length (cond b (a ∷ passing p (a + 1) n) (passing p (a + 1) n)))
      here false true e g ih = ap suc ih
      here true c e g ih = cc
      here false false e g ih = cc

-- a word has as many bits as its set has members, and the lowest one is the least member
length-numbered : (lo : ℤ) (is : List ℕ) → length (map (key_at lo) is) ≡ length is
length-numbered lo [] = refl
length-numbered lo (i ∷ is) = ap suc (length-numbered lo is)

pub card-numbered : (lo : ℤ) (is : List ℕ) → int (pos (length is)) ≡ set_rows.card (set_from (map (key_at lo) is))
card-numbered lo is = ap (λ n. int (pos n)) (sym (ap length (items_row (map (key_at lo) is)) ∙ length-numbered lo is))

pub least-numbered : (lo d : ℤ) (is : List ℕ) → int (lowest_or lo is d) ≡ set_rows.least (set_from (map (key_at lo) is)) (int d)
least-numbered lo d [] = refl
least-numbered lo d (i ∷ is) = refl

-- whether a word has the bit of a number
above_itself : (lo : ℤ) (i : ℕ) → (lo +ℤ pos i) -ℤ lo ≡ pos i
above_itself lo i = omega (arith, int_rules)

pub has_bit_at-key : (lo : ℤ) (m i : ℕ) → has_bit_at m (place_above ((lo +ℤ pos i) -ℤ lo)) ≡ has_bit m i
has_bit_at-key lo m i = ap (λ z. has_bit_at m (place_above z)) (above_itself lo i)

pub has_bit_at-below : (lo a : ℤ) (m : ℕ) → a <ℤ lo → has_bit_at m (place_above (a -ℤ lo)) ≡ false
has_bit_at-below lo a m l = by (a -ℤ lo) (omega (arith, int_rules))
  where
    by : (z : ℤ) → z <ℤ pos 0 → has_bit_at m (place_above z) ≡ false
    by (pos n) h = absurd (omega (arith, int_rules))
    by (negsuc n) h = refl
