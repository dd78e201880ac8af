-- Words by their bits.
use Rattle.std.proofs.Common.{◌≡◌, ℕ, ◌+◌, ◌^◌, ◌<◌, ◌≤◌, zero, suc, ℤ, pos, ◌+ℤ◌, Bool, true, false, cond, List, [], ◌∷◌, map, length, refl, sym, ap, ◌∙◌, arith, inl, inr}
use Rattle.std.specs.List.{range_with_len}
use Rattle.std.specs.Ordering.{is_eq}
use Rattle.std.specs.Prelude.{not, ◌||◌, ◌&&◌, filter, nat_eq}
use Rattle.std.proofs.lemmas.Bool.{cases_lt}
use Rattle.std.proofs.lemmas.Int.{ints as int_rules}
use Rattle.std.proofs.lemmas.Nat.Bits.{bit_at_above, bit_at-lt, same_from_bits_below}
use Rattle.std.specs.Int.{bit_at}
use Rattle.kid_value.specs.Canonical.{IsCanonical}
use Rattle.kid_value.specs.Contents.{IsSet, has}
use Rattle.kid_value.specs.PlainValue.{PlainValue, int, set, items}
use Rattle.kid_value.specs.Rows.Kinds.{natural}
use Rattle.kid_value.specs.Rows.Word as rows
use Rattle.kid_value.specs.Rows.Word.{has_bit, word_of, word_size, key_at, bits_below, lowest_or}
use Rattle.kid_value.specs.ValueSet.{is_member}
use Rattle.kid_value.specs.WordLaws.{bit_of, IsWord, IsBetween, WordLaws}
use Rattle.kid_value.proofs.MemberLemmas.{is_member-first}
use Rattle.kid_value.proofs.RowCanonical.{key_before, AllAfter-bits, IsCanonical-wdec}
use Rattle.kid_value.proofs.RowLemmas.{items_row}
use Rattle.kid_value.proofs.RowMeaning.{bit_at-word_of, word_of-below}
use Rattle.kid_value.proofs.SetMeaning.{same_sets}
use Rattle.kid_value.proofs.ValueSetLaws.{is_member-after, value_eq-comm}
use Rattle.kid_value.proofs.WordOnes.{passing-none, lowest-first, numbered-only, counted-more, card-numbered, least-numbered, has_bit_at-key, has_bit_at-below}

-- a word has the bits that pass
has_bit-word_of : (p : ℕ → Bool) (n i : ℕ) → i < n → has_bit (word_of p n) i ≡ p i
has_bit-word_of p n i l = ap (λ z. nat_eq z 1) (bit_at-word_of p n i l) ∙ by (p i)
  where
    by : (b : Bool) → nat_eq (cond b 1 0) 1 ≡ b
    by true = refl
    by false = refl

has_bit-above : (p : ℕ → Bool) (n i : ℕ) → n ≤ i → has_bit (word_of p n) i ≡ false
has_bit-above p n i l = ap (λ z. nat_eq z 1) (bit_at_above (word_of p n) n i (word_of-below p n) l)

wenc_above : (lo k : ℤ) (s : PlainValue) (i : ℕ) → IsSet s → natural k ≤ i → bit_of i (rows.wenc (int lo) (int k) s) ≡ false
wenc_above lo k (set vs) i j l = has_bit-above (λ n. is_member (key_at lo n) (items vs)) (natural k) i l
wenc_above lo k s i j l = absurd j

wenc_told : (lo k : ℤ) (s : PlainValue) (i : ℕ) → IsSet s → i < natural k → bit_of i (rows.wenc (int lo) (int k) s) ≡ has (key_at lo i) s
wenc_told lo k (set vs) i j l = has_bit-word_of (λ n. is_member (key_at lo n) (items vs)) (natural k) i l
wenc_told lo k s i j l = absurd j

-- the numbers of a word's bits have just that of each bit
module _ (lo : ℤ) (p : ℕ → Bool) (i : ℕ) where
  abbrev numbered : ℕ → ℕ → List PlainValue
  numbered a n = map (key_at lo) (filter p (range_with_len a n))

  among : (a n : ℕ) → a ≤ i → i < a + n → is_member (key_at lo i) (numbered a n) ≡ p i
  among a zero l h = absurd (omega arith)
  among a (suc n) l h =
      elim (cases_lt a i) [
        | inl g ↦ later (p a) g (among (a + 1) n (omega arith) (omega arith))
        | inr g ↦ let e : a ≡ i = omega arith in here (p a) (ap p (sym e)) e
      ]
    where
      later : (b : Bool) → a < i → is_member (key_at lo i) (numbered (a + 1) n) ≡ p i → is_member (key_at lo i) (map (key_at lo) (cond b (a ∷ filter p (range_with_len (a + 1) n)) (filter p (range_with_len (a + 1) n)))) ≡ p i
      later true g ih = ap (λ c. c || is_member (key_at lo i) (numbered (a + 1) n)) (value_eq-comm (key_at lo i) (key_at lo a) ∙ ap is_eq (key_before lo a i g)) ∙ ih
      later false g ih = ih

      here : (b : Bool) → p i ≡ b → a ≡ i → is_member (key_at lo i) (map (key_at lo) (cond b (a ∷ filter p (range_with_len (a + 1) n)) (filter p (range_with_len (a + 1) n)))) ≡ p i
      here true q e = ap (λ z. is_member (key_at lo i) (key_at lo z ∷ (numbered (a + 1) n))) e ∙ is_member-first (key_at lo i) (numbered (a + 1) n) ∙ sym q
      here false q e = is_member-after (key_at lo i) (numbered (a + 1) n) (AllAfter-bits lo p i (a + 1) n (omega arith)) ∙ sym q

wdec_told : (lo k r : ℤ) (i : ℕ) → i < natural k → has (key_at lo i) (rows.wdec (int lo) (int k) (int r)) ≡ bit_of i (int r)
wdec_told lo k r i l = ap (is_member (key_at lo i)) (items_row (map (key_at lo) (bits_below (natural k) (natural r)))) ∙ among lo (has_bit (natural r)) i 0 (natural k) (omega arith) (omega arith)

wdec_only : (lo k r : ℤ) (x : PlainValue) → has x (rows.wdec (int lo) (int k) (int r)) ≡ true → (i : ℕ) × (i < natural k) × (bit_of i (int r) ≡ true) × (x ≡ key_at lo i)
wdec_only lo k r x h =
    let found = numbered-only (has_bit (natural r)) lo x 0 (natural k) (ap (is_member x) (sym (items_row (map (key_at lo) (bits_below (natural k) (natural r))))) ∙ h) in
    (found.0, omega (arith, found.2), found.3, found.4)

-- two words of the same bits are one
one_bit : (a b : ℕ) → a < 2 → b < 2 → nat_eq a 1 ≡ nat_eq b 1 → a ≡ b
one_bit zero zero l h e = refl
one_bit zero (suc zero) l h e = cc
one_bit (suc zero) zero l h e = cc
one_bit (suc zero) (suc zero) l h e = refl
one_bit (suc (suc a)) b l h e = absurd (omega arith)
one_bit a (suc (suc b)) l h e = absurd (omega arith)

same_bits : (n m k : ℕ) → m < 2 ^ n → k < 2 ^ n → ((i : ℕ) → i < n → has_bit m i ≡ has_bit k i) → m ≡ k
same_bits n m k l h f = same_from_bits_below n m k l h (λ i b. one_bit (bit_at m i) (bit_at k i) (bit_at-lt m i) (bit_at-lt k i) (f i b))

same_words : (n : ℕ) (r s : ℤ) → IsWord n r → IsWord n s → ((i : ℕ) → i < n → bit_of i (int r) ≡ bit_of i (int s)) → r ≡ s
same_words n r s v w f =
    v.2
    ∙ ap pos (same_bits n v.0 w.0 v.1 w.1 (λ i l. sym (ap (λ z. bit_of i (int z)) v.2) ∙ f i l ∙ ap (λ z. bit_of i (int z)) w.2))
    ∙ sym w.2

-- a word and its set
wenc_wdec : (lo k r : ℤ) → IsWord (natural k) r → rows.wenc (int lo) (int k) (rows.wdec (int lo) (int k) (int r)) ≡ int r
wenc_wdec lo k r w =
    let s = rows.wdec (int lo) (int k) (int r) in
    ap int (same_words (natural k) (pos (word_of (λ i. has (key_at lo i) s) (natural k))) r (word_of (λ i. has (key_at lo i) s) (natural k), word_of-below (λ i. has (key_at lo i) s) (natural k), refl) w (λ i l. has_bit-word_of (λ i. has (key_at lo i) s) (natural k) i l ∙ wdec_told lo k r i l))

both_ways : (b c : Bool) → (b ≡ true → c ≡ true) → (c ≡ true → b ≡ true) → b ≡ c
both_ways true c f g = sym (f refl)
both_ways false true f g = g refl
both_ways false false f g = refl

module _ (lo k : ℤ) (s : PlainValue) (j : IsSet s) where
  abbrev word : ℤ
  word = pos (word_of (λ i. has (key_at lo i) s) (natural k))

  coded_bit : (i : ℕ) → i < natural k → has (key_at lo i) (rows.wdec (int lo) (int k) (int word)) ≡ has (key_at lo i) s
  coded_bit i l = wdec_told lo k word i l ∙ has_bit-word_of (λ i. has (key_at lo i) s) (natural k) i l

  there : (x : PlainValue) → has x (rows.wdec (int lo) (int k) (int word)) ≡ true → has x s ≡ true
  there x h =
      let found = wdec_only lo k word x h in
      ap (λ z. has z s) found.3 ∙ sym (has_bit-word_of (λ i. has (key_at lo i) s) (natural k) found.0 found.1) ∙ found.2

  back : IsBetween lo k s → (x : PlainValue) → has x s ≡ true → has x (rows.wdec (int lo) (int k) (int word)) ≡ true
  back f x h =
      let found = f x h in
      ap (λ z. has z (rows.wdec (int lo) (int k) (int word))) found.2 ∙ coded_bit found.0 found.1 ∙ ap (λ z. has z s) (sym found.2) ∙ h

  decoded : IsCanonical s → IsBetween lo k s → rows.wdec (int lo) (int k) (int word) ≡ s
  decoded c f = same_sets (rows.wdec (int lo) (int k) (int word)) s tt j (IsCanonical-wdec (int lo) (int k) (int word)) c (λ x. both_ways (has x (rows.wdec (int lo) (int k) (int word))) (has x s) (there x) (back f x))

wdec_wenc : (lo k : ℤ) (s : PlainValue) → IsSet s → IsCanonical s → IsBetween lo k s → rows.wdec (int lo) (int k) (rows.wenc (int lo) (int k) s) ≡ s
wdec_wenc lo k (set vs) j c f = decoded lo k (set vs) j c f
wdec_wenc lo k s j c f = absurd j

-- the bits below any size, since at the size of a word they would unroll
none_below : (n m : ℕ) → ((i : ℕ) → i < n → has_bit m i ≡ false) → bits_below n m ≡ []
none_below n m f = passing-none (has_bit m) 0 n (λ i l h. f i (omega arith))

one_more_below : (n m k i : ℕ) → i < n → has_bit m i ≡ false → has_bit k i ≡ true → ((j : ℕ) → (j ≡ i → ⊥) → has_bit k j ≡ has_bit m j) → pos (length (bits_below n k)) ≡ pos (length (bits_below n m)) +ℤ pos 1
one_more_below n m k i l f t g =
    let more = counted-more (has_bit m) (has_bit k) i g 0 n (omega arith) (omega arith) f t in
    ap pos more ∙ omega (arith, int_rules)

lowest_below : (lo d : ℤ) (n m i : ℕ) → i < n → has_bit m i ≡ true → ((j : ℕ) → j < i → has_bit m j ≡ false) → lowest_or lo (bits_below n m) d ≡ lo +ℤ pos i
lowest_below lo d n m i l t f = lowest-first (has_bit m) lo d i 0 n (omega arith) (omega arith) t f

pub laws : WordLaws
laws =
    record {
      wenc = wenc_told;
      wdec = wdec_told;
      wenc_above = wenc_above;
      wdec_only = wdec_only;
      same = same_words;
      wenc_wdec = wenc_wdec;
      wdec_wenc = wdec_wenc;
      win = λ lo r i. has_bit_at-key lo (natural r) i;
      win_below = λ lo a r l. has_bit_at-below lo a (natural r) l;
      wcard_none = λ r f. ap (λ is. int (pos (length is))) (none_below word_size (natural r) f);
      wcard_with = λ r s i l h. one_more_below word_size (natural r) (natural s) i l h.0 h.1 h.2;
      wcard = λ lo r. card-numbered lo (bits_below word_size (natural r));
      wleast_none = λ lo d r f. ap (λ is. int (lowest_or lo is d)) (none_below word_size (natural r) f);
      wleast_first = λ lo d r i l h. ap int (lowest_below lo d word_size (natural r) i l h.0 h.1);
      wleast = λ lo d r. least-numbered lo d (bits_below word_size (natural r));
      wor = λ r s i l. has_bit-word_of (λ n. has_bit (natural r) n || has_bit (natural s) n) word_size i l;
      wand = λ r s i l. has_bit-word_of (λ n. has_bit (natural r) n && has_bit (natural s) n) word_size i l;
      wnot = λ r s i l. has_bit-word_of (λ n. has_bit (natural r) n && not (has_bit (natural s) n)) word_size i l;
      above = λ r s i l. (
        has_bit-above (λ n. has_bit (natural r) n || has_bit (natural s) n) word_size i l,
        has_bit-above (λ n. has_bit (natural r) n && has_bit (natural s) n) word_size i l,
        has_bit-above (λ n. has_bit (natural r) n && not (has_bit (natural s) n)) word_size i l,
      );
    }
