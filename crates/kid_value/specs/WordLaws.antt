-- Which bits the words have that the operators make, and what is told of their bits.
use Rattle.std.specs.Prelude.{◌≡◌, ℕ, ◌^◌, ℤ, pos, ◌+ℤ◌, ◌<ℤ◌, ◌<◌, ◌≤◌, Bool, true, false, not, ◌||◌, ◌&&◌}
use Rattle.kid_value.specs.Canonical.{IsCanonical}
use Rattle.kid_value.specs.Contents.{IsSet, has}
use Rattle.kid_value.specs.PlainValue.{PlainValue, int}
use Rattle.kid_value.specs.Rows.Kinds.{natural}
use Rattle.kid_value.specs.Rows.Parts.{truth_of, number_of}
use Rattle.kid_value.specs.Rows.Set as set_rows
use Rattle.kid_value.specs.Rows.Word as rows
use Rattle.kid_value.specs.Rows.Word.{has_bit, key_at, word_size}

-- whether the word has the bit
abbrev pub bit_of : ℕ → PlainValue → Bool
bit_of i w = has_bit (natural (number_of w)) i

-- the number is a word of n bits
abbrev pub IsWord : ℕ → ℤ → Type 0
IsWord n r = (m : ℕ) × (m < 2 ^ n) × (r ≡ pos m)

-- each member of the set is one of the k numbers from lo on
abbrev pub IsBetween : ℤ → ℤ → PlainValue → Type 0
IsBetween lo k s = (x : PlainValue) → has x s ≡ true → (i : ℕ) × (i < natural k) × (x ≡ key_at lo i)

-- the word has none of the bits
abbrev pub HasNoBit : ℤ → Type 0
HasNoBit r = (i : ℕ) → i < word_size → bit_of i (int r) ≡ false

-- the bit is the lowest that the word has
abbrev pub IsLowestBit : ℕ → ℤ → Type 0
IsLowestBit i r = (bit_of i (int r) ≡ true) × ((j : ℕ) → j < i → bit_of j (int r) ≡ false)

-- the second word has the bit, which the first lacks, and else the same bits
abbrev pub HasOneMore : ℕ → ℤ → ℤ → Type 0
HasOneMore i r s = (bit_of i (int r) ≡ false) × (bit_of i (int s) ≡ true) × ((j : ℕ) → (j ≡ i → ⊥) → bit_of j (int s) ≡ bit_of j (int r))

pub record WordLaws : Type 0 where
  -- the word of a set has the bits of its members, and the set of a word the members of its bits
  pub wenc : (lo k : ℤ) (s : PlainValue) (i : ℕ) → IsSet s → i < natural k → bit_of i (rows.wenc (int lo) (int k) s) ≡ has (key_at lo i) s
  pub wdec : (lo k r : ℤ) (i : ℕ) → i < natural k → has (key_at lo i) (rows.wdec (int lo) (int k) (int r)) ≡ bit_of i (int r)
  -- and no word has a bit more
  pub wenc_above : (lo k : ℤ) (s : PlainValue) (i : ℕ) → IsSet s → natural k ≤ i → bit_of i (rows.wenc (int lo) (int k) s) ≡ false
  -- and the set of a word has no member more
  pub wdec_only : (lo k r : ℤ) (x : PlainValue) → has x (rows.wdec (int lo) (int k) (int r)) ≡ true → (i : ℕ) × (i < natural k) × (bit_of i (int r) ≡ true) × (x ≡ key_at lo i)
  -- two words of the same bits are one, so that each of a word and its set gives the other back
  pub same : (n : ℕ) (r s : ℤ) → IsWord n r → IsWord n s → ((i : ℕ) → i < n → bit_of i (int r) ≡ bit_of i (int s)) → r ≡ s
  pub wenc_wdec : (lo k r : ℤ) → IsWord (natural k) r → rows.wenc (int lo) (int k) (rows.wdec (int lo) (int k) (int r)) ≡ int r
  pub wdec_wenc : (lo k : ℤ) (s : PlainValue) → IsSet s → IsCanonical s → IsBetween lo k s → rows.wdec (int lo) (int k) (rows.wenc (int lo) (int k) s) ≡ s
  -- win tells whether a number is in the set that the word stands for
  pub win : (lo r : ℤ) (i : ℕ) → truth_of (rows.win (int lo) (key_at lo i) (int r)) ≡ bit_of i (int r)
  pub win_below : (lo a r : ℤ) → a <ℤ lo → truth_of (rows.win (int lo) (int a) (int r)) ≡ false
  -- wcard counts the bits of the word, which are the members of its set
  pub wcard_none : (r : ℤ) → HasNoBit r → rows.wcard (int r) ≡ int (pos 0)
  pub wcard_with : (r s : ℤ) (i : ℕ) → i < word_size → HasOneMore i r s → number_of (rows.wcard (int s)) ≡ number_of (rows.wcard (int r)) +ℤ pos 1
  pub wcard : (lo r : ℤ) → rows.wcard (int r) ≡ set_rows.card (rows.wdec (int lo) (int (pos word_size)) (int r))
  -- wleast gives the number of the lowest bit, which is the least member of the set, and d where there is none
  pub wleast_none : (lo d r : ℤ) → HasNoBit r → rows.wleast (int lo) (int d) (int r) ≡ int d
  pub wleast_first : (lo d r : ℤ) (i : ℕ) → i < word_size → IsLowestBit i r → rows.wleast (int lo) (int d) (int r) ≡ key_at lo i
  pub wleast : (lo d r : ℤ) → rows.wleast (int lo) (int d) (int r) ≡ set_rows.least (rows.wdec (int lo) (int (pos word_size)) (int r)) (int d)
  -- the words of two
  pub wor : (r s : ℤ) (i : ℕ) → i < word_size → bit_of i (rows.wor (int r) (int s)) ≡ (bit_of i (int r) || bit_of i (int s))
  pub wand : (r s : ℤ) (i : ℕ) → i < word_size → bit_of i (rows.wand (int r) (int s)) ≡ (bit_of i (int r) && bit_of i (int s))
  pub wnot : (r s : ℤ) (i : ℕ) → i < word_size → bit_of i (rows.wnot (int r) (int s)) ≡ (bit_of i (int r) && not (bit_of i (int s)))
  pub above : (r s : ℤ) (i : ℕ) → word_size ≤ i → (bit_of i (rows.wor (int r) (int s)) ≡ false) × (bit_of i (rows.wand (int r) (int s)) ≡ false) × (bit_of i (rows.wnot (int r) (int s)) ≡ false)
