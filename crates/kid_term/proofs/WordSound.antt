-- The values of the operators on words have their sorts.
use Rattle.std.proofs.Common.{◌≡◌, ℕ, ◌-◌, ◌^◌, ◌<◌, ◌≤◌, ℤ, ◌+ℤ◌, Bool, true, false, List, [], ◌∷◌, Some, None, Ok, Err, refl, sym, ap, ◌∙◌, cond, subst, arith, length, map}
use Rattle.std.specs.Prelude.{pos, negsuc, ◌-ℤ◌, ◌≤ℤ◌, ◌&&◌, ◌||◌, not, int_le, max}
use Rattle.std.specs.Int.{int_min}
use Rattle.std.proofs.lemmas.Int.{ints as int_rules, clamps}
use Rattle.kid_value.specs.PlainValue.{PlainValue, int, set, items}
use Rattle.kid_value.specs.PlainSort.{PlainSort, never, bools, ints, pairs, sets, seqs, maps, enums, has_sort}
use Rattle.kid_value.specs.SortOrder.{join}
use Rattle.kid_value.specs.Rows.Kinds.{natural, set_from}
use Rattle.kid_value.specs.Rows.Word.{has_bit, word_of, bits_below, word_size, key_at, place_above, has_bit_at, lowest_or}
use Rattle.kid_value.specs.ValueSet.{is_member, Ascends}
use Rattle.kid_value.proofs.RowCanonical.{IsCanonical-wdec}
use Rattle.kid_value.proofs.RowLemmas.{items_row}
use Rattle.kid_value.proofs.RowMeaning.{word_of-below}
use Rattle.kid_value.proofs.SortLemmas.{and_parts}
use Rattle.kid_term.specs.declared.operator.WordOp.{WordOp}
use Rattle.kid_term.specs.declared.operator.WordOp.TheVariants.{Wenc, Wdec, Wor, Wand, Wnot, Wcard, Win, Wleast}
use Rattle.kid_term.specs.WordRows.{word_value}
use Rattle.kid_term.specs.WordSorts.{word_sort, given, count_in, word_bound, two_words, are_keys, with_keys, keys_from, words, bit_count}
use Rattle.kid_term.specs.Written.{Numbers}
use Rattle.kid_term.specs.Sorted.{Sorted, Kind, Bounds, allowed, with_join}
use Rattle.kid_term.specs.Fitting.{IsOfSort, AreOfSorts}
use Rattle.kid_term.proofs.Inversions.{ok, with_one_ok, with_two_ok, with_three_ok, with_ints_ok, with_set_ok, with_join_ok, one_value, two_values, three_values, int_of, none_of}
use Rattle.kid_term.proofs.LogicSound.{Sound, truth_sound}
use Rattle.kid_term.proofs.NumberSound.{within, interval_sound}
use Rattle.kid_term.proofs.Members.{Each, set_sound}
use Rattle.kid_term.proofs.Counting.{set_parts}
use Rattle.kid_term.proofs.JoinedSorts.{allowed_sound, IsOfSort-left, IsOfSort-right}
use Rattle.kid_term.proofs.WordBits.{word_of-within, word_of-counted, bit_reaches, EachPlace, places_below, few_places}
use Rattle.kid_term.proofs.WrittenValues.{AreWritten, given_ok}

at_values : (o : WordOp) (vs ws : List PlainValue) (s : PlainSort) → vs ≡ ws → Sound s (word_value o ws) → Sound s (word_value o vs)
at_values o vs ws s e h = subst (λ z. Sound s (word_value o z)) (sym e) h

-- ---- what the arguments are

pub counted : (most : ℕ) (n : ℤ) (k : ℕ → Sorted) (s : PlainSort) → given Bounds (count_in most n) k ≡ Ok s → k (natural n) ≡ Ok s
counted most n k s p = by (int_le (pos 1) n && int_le n (pos most)) p
  where
    by : (c : Bool) → given Bounds (cond c (Some (natural n)) None) k ≡ ok s → k (natural n) ≡ ok s
    by true q = q
    by false q = cc

pub with_keys_ok : (a : PlainSort) (r : Sorted) (s : PlainSort) → with_keys a r ≡ Ok s → r ≡ Ok s
with_keys_ok a r s p = by (are_keys a) p
  where
    by : (c : Bool) → cond c r (Err Kind) ≡ ok s → r ≡ ok s
    by true q = q
    by false q = cc

-- a word and its upper bound, and what is made of that
record AWord (v : PlainValue) (k : ℤ → Sorted) (s : PlainSort) : Type 0 where
  b : ℤ
  r : ℤ
  is : v ≡ int r
  high : r ≤ℤ b
  low : pos 0 ≤ℤ r
  gives : k b ≡ Ok s

bounded : (t : PlainSort) (b : ℤ) → word_bound t ≡ Some b → (a : ℤ) × (t ≡ ints a b) × (pos 0 ≤ℤ a)
bounded (ints a c) b p = by (int_le (pos 0) a) (int_le c (pos 4611686018427387903)) refl p
  where
    is_le : (m n : ℤ) → int_le m n ≡ true → m ≤ℤ n
    is_le m n h = grind (arith, int_rules)

    same : Some c ≡ Some b → c ≡ b
    same q = cc

    by : (d e : Bool) → int_le (pos 0) a ≡ d → cond (d && e) (Some c) None ≡ Some b → (a' : ℤ) × (ints a c ≡ ints a' b) × (pos 0 ≤ℤ a')
    by true true f q = (a, ap (ints a) (same q), is_le (pos 0) a f)
    by true false f q = cc
    by false e f q = cc
bounded t b p = cc

word_ok : (t : PlainSort) (v : PlainValue) (k : ℤ → Sorted) (s : PlainSort) → given Kind (word_bound t) k ≡ Ok s → IsOfSort t v → AWord v k s
word_ok t v k s p h =
    let g = given_ok Kind (word_bound t) k s p in
    let x = bounded t g.0 g.1 in
    let i = int_of x.0 g.0 v (ap (λ z. has_sort z v) (sym x.1) ∙ h.has) in
    record {
      b = g.0;
      r = i.0;
      is = i.1;
      high = i.3;
      low = omega (arith, int_rules, x.2, i.2);
      gives = g.2;
    }

-- two words and their upper bounds
record TwoWords (vs : List PlainValue) (k : ℤ → ℤ → Sorted) (s : PlainSort) : Type 0 where
  b : ℤ
  d : ℤ
  q : ℤ
  r : ℤ
  are : vs ≡ int q ∷ int r ∷ []
  high : q ≤ℤ b
  high' : r ≤ℤ d
  low : pos 0 ≤ℤ q
  low' : pos 0 ≤ℤ r
  gives : k b d ≡ Ok s

two_words_ok : (ss : List PlainSort) (vs : List PlainValue) (k : ℤ → ℤ → Sorted) (s : PlainSort) → two_words ss k ≡ Ok s → AreOfSorts ss vs → TwoWords vs k s
two_words_ok ss vs k s p h =
    let r = with_two_ok ss (λ t u. given Kind (word_bound t) (λ b. given Kind (word_bound u) (k b))) s p in
    let w = two_values r.0 r.1 vs (subst (λ z. AreOfSorts z vs) r.2 h) in
    let x = word_ok r.0 w.0 (λ b. given Kind (word_bound r.1) (k b)) s r.3 w.3 in
    let y = word_ok r.1 w.1 (k x.b) s x.gives w.4 in
    record {
      b = x.b;
      d = y.b;
      q = x.r;
      r = y.r;
      are = w.2 ∙ (λ o. x.is o ∷ y.is o ∷ []);
      high = x.high;
      high' = y.high;
      low = x.low;
      low' = y.low;
      gives = y.gives;
    }

-- ---- numbers from a lowest one on

natural-le : (r b : ℤ) → r ≤ℤ b → natural r ≤ natural b
natural-le (pos r) (pos b) h = omega (arith, int_rules)
natural-le (pos r) (negsuc b) h = absurd (omega (arith, int_rules))
natural-le (negsuc r) b h = omega arith

natural-at : (r : ℤ) → pos 0 ≤ℤ r → pos (natural r) ≡ r
natural-at (pos r) h = refl
natural-at (negsuc r) h = absurd (omega (arith, int_rules))

pub key_of_sort : (lo : ℤ) (n i : ℕ) → i < n → IsOfSort (keys_from lo n) (key_at lo i)
key_of_sort lo n i h = record { has = within lo ((lo +ℤ pos n) -ℤ pos 1) (lo +ℤ pos i) (omega (arith, int_rules)) (omega (arith, int_rules)); canonical = tt }

Each-keys : (lo : ℤ) (n : ℕ) (is : List ℕ) → EachPlace (λ i. i < n) is → Each (IsOfSort (keys_from lo n)) (map (key_at lo) is)
Each-keys lo n [] h = tt
Each-keys lo n (i ∷ is) h = (key_of_sort lo n i h.0, Each-keys lo n is h.1)

both_true : (b c : Bool) → (b && c) ≡ true → c ≡ true
both_true b c h = (and_parts b c h).1

first_true : (b c : Bool) → (b && c) ≡ true → b ≡ true
first_true b c h = (and_parts b c h).0

-- ---- the operators

below : (m n : ℕ) → m < n → pos m ≤ℤ pos (n - 1)
below m n h = omega (arith, int_rules)

not_negative : (m : ℕ) → pos 0 ≤ℤ pos m
not_negative m = omega (arith, int_rules)

pub wenc_sound : (ns : Numbers) (ss : List PlainSort) (vs : List PlainValue) (s : PlainSort) → word_sort Wenc ns ss ≡ Ok s → AreOfSorts ss vs → AreWritten ns vs → Sound s (word_value Wenc vs)
wenc_sound ns ss vs s p h e =
    let r = with_three_ok ss _ s p in
    let w = three_values r.0 r.1 r.2 vs (subst (λ z. AreOfSorts z vs) r.3 h) in
    let l = given_ok Kind ns.0 _ s r.4 in
    let c = given_ok Kind ns.1 _ s l.2 in
    let x = with_set_ok r.2 _ s c.2 in
    let g = counted word_size c.0 (λ n. allowed (words n)) s (with_keys_ok x.0 _ s x.2) in
    let i = set_parts x.0 w.2 (subst (λ z. IsOfSort z w.2) x.1 w.6) in
    let first = e.first l.0 w.0 (w.1 ∷ w.2 ∷ []) l.1 w.3 in
    let second = e.second c.0 w.0 w.1 (w.2 ∷ []) c.1 w.3 in
    let passes : ℕ → Bool = λ j. is_member (key_at l.0 j) (items i.0) in
    at_values Wenc vs (int l.0 ∷ int c.0 ∷ set i.0 ∷ []) s (w.3 ∙ (λ o. first o ∷ second o ∷ i.1 o ∷ []))
    (interval_sound (pos 0) (pos (2 ^ natural c.0 - 1)) (pos (word_of passes (natural c.0))) s (not_negative (word_of passes (natural c.0)))
    (below (word_of passes (natural c.0)) (2 ^ natural c.0) (word_of-below passes (natural c.0))) g)

pub wdec_sound : (ns : Numbers) (ss : List PlainSort) (vs : List PlainValue) (s : PlainSort) → word_sort Wdec ns ss ≡ Ok s → AreOfSorts ss vs → AreWritten ns vs → Sound s (word_value Wdec vs)
wdec_sound ns ss vs s p h e =
    let r = with_three_ok ss _ s p in
    let w = three_values r.0 r.1 r.2 vs (subst (λ z. AreOfSorts z vs) r.3 h) in
    let l = given_ok Kind ns.0 _ s r.4 in
    let c = given_ok Kind ns.1 _ s l.2 in
    let x = word_ok r.2 w.2 _ s c.2 w.6 in
    let g = counted word_size c.0 (λ n. allowed (sets (keys_from l.0 n))) s x.gives in
    let first = e.first l.0 w.0 (w.1 ∷ w.2 ∷ []) l.1 w.3 in
    let second = e.second c.0 w.0 w.1 (w.2 ∷ []) c.1 w.3 in
    let bits = bits_below (natural c.0) (natural x.r) in
    at_values Wdec vs (int l.0 ∷ int c.0 ∷ int x.r ∷ []) s (w.3 ∙ (λ o. first o ∷ second o ∷ x.is o ∷ []))
    (allowed_sound (sets (keys_from l.0 (natural c.0))) s (set_from (map (key_at l.0) bits))
    (set_sound (keys_from l.0 (natural c.0)) (map (key_at l.0) bits)
    (record {
      each = Each-keys l.0 (natural c.0) bits (places_below (has_bit (natural x.r)) 0 (natural c.0) (natural c.0) (omega arith));
      ascends = subst Ascends (items_row (map (key_at l.0) bits)) (IsCanonical-wdec (int l.0) (int c.0) (int x.r)).0;
    })) g)

pub wor_sound : (ns : Numbers) (ss : List PlainSort) (vs : List PlainValue) (s : PlainSort) → word_sort Wor ns ss ≡ Ok s → AreOfSorts ss vs → Sound s (word_value Wor vs)
wor_sound ns ss vs s p h =
    let x = two_words_ok ss vs (λ b d. allowed (words (bit_count word_size (max (natural b) (natural d))))) s p h in
    let word = word_of (λ i. has_bit (natural x.q) i || has_bit (natural x.r) i) word_size in
    let most = max (natural x.b) (natural x.d) in
    at_values Wor vs (int x.q ∷ int x.r ∷ []) s x.are
    (interval_sound (pos 0) (pos (2 ^ bit_count word_size most - 1)) (pos word) s (not_negative word)
    (below word (2 ^ bit_count word_size most)
    (word_of-counted (λ i. has_bit (natural x.q) i || has_bit (natural x.r) i) word_size most
    (λ i k. either i (natural x.q) (natural x.r) most (omega (arith, natural-le x.q x.b x.high)) (omega (arith, natural-le x.r x.d x.high')) (has_bit (natural x.q) i) refl k))) x.gives)
  where
    either : (i q r most : ℕ) → q ≤ most → r ≤ most → (c : Bool) → has_bit q i ≡ c → (c || has_bit r i) ≡ true → 2 ^ i ≤ most
    either i q r most m n true e k = omega (arith, bit_reaches q i e)
    either i q r most m n false e k = omega (arith, bit_reaches r i k)

pub wand_sound : (ns : Numbers) (ss : List PlainSort) (vs : List PlainValue) (s : PlainSort) → word_sort Wand ns ss ≡ Ok s → AreOfSorts ss vs → Sound s (word_value Wand vs)
wand_sound ns ss vs s p h =
    let x = two_words_ok ss vs (λ b d. allowed (ints (pos 0) (int_min b d))) s p h in
    let passes : ℕ → Bool = λ i. has_bit (natural x.q) i && has_bit (natural x.r) i in
    let word = word_of passes word_size in
    let q = word_of-within passes (natural x.q) word_size (λ i. first_true (has_bit (natural x.q) i) (has_bit (natural x.r) i)) in
    let r = word_of-within passes (natural x.r) word_size (λ i. both_true (has_bit (natural x.q) i) (has_bit (natural x.r) i)) in
    at_values Wand vs (int x.q ∷ int x.r ∷ []) s x.are
    (interval_sound (pos 0) (int_min x.b x.d) (pos word) s (not_negative word) (lesser word x.q x.r x.b x.d q r x.low x.low' x.high x.high') x.gives)
  where
    lesser : (word : ℕ) (q r b d : ℤ) → word ≤ natural q → word ≤ natural r → pos 0 ≤ℤ q → pos 0 ≤ℤ r → q ≤ℤ b → r ≤ℤ d → pos word ≤ℤ int_min b d
    lesser word q r b d m n l k g f = omega (arith, int_rules, clamps, natural-at q l, natural-at r k)

pub wnot_sound : (ns : Numbers) (ss : List PlainSort) (vs : List PlainValue) (s : PlainSort) → word_sort Wnot ns ss ≡ Ok s → AreOfSorts ss vs → Sound s (word_value Wnot vs)
wnot_sound ns ss vs s p h =
    let x = two_words_ok ss vs (λ b d. allowed (ints (pos 0) b)) s p h in
    let passes : ℕ → Bool = λ i. has_bit (natural x.q) i && not (has_bit (natural x.r) i) in
    let word = word_of passes word_size in
    let q = word_of-within passes (natural x.q) word_size (λ i. first_true (has_bit (natural x.q) i) (not (has_bit (natural x.r) i))) in
    at_values Wnot vs (int x.q ∷ int x.r ∷ []) s x.are
    (interval_sound (pos 0) x.b (pos word) s (not_negative word) (within_first word x.q x.b q x.low x.high) x.gives)
  where
    within_first : (word : ℕ) (q b : ℤ) → word ≤ natural q → pos 0 ≤ℤ q → q ≤ℤ b → pos word ≤ℤ b
    within_first word q b m l g = omega (arith, int_rules, natural-at q l)

pub wcard_sound : (ns : Numbers) (ss : List PlainSort) (vs : List PlainValue) (s : PlainSort) → word_sort Wcard ns ss ≡ Ok s → AreOfSorts ss vs → Sound s (word_value Wcard vs)
wcard_sound ns ss vs s p h =
    let r = with_one_ok ss _ s p in
    let w = one_value r.0 vs (subst (λ z. AreOfSorts z vs) r.1 h) in
    let x = word_ok r.0 w.0 (λ b. allowed (ints (pos 0) (pos word_size))) s r.2 w.2 in
    let count = length (bits_below word_size (natural x.r)) in
    at_values Wcard vs (int x.r ∷ []) s (w.1 ∙ (λ o. x.is o ∷ []))
    (interval_sound (pos 0) (pos word_size) (pos count) s (not_negative count) (at_most count word_size (few_places (has_bit (natural x.r)) 0 word_size)) x.gives)
  where
    at_most : (m n : ℕ) → m ≤ n → pos m ≤ℤ pos n
    at_most m n h = omega (arith, int_rules)

pub win_sound : (ns : Numbers) (ss : List PlainSort) (vs : List PlainValue) (s : PlainSort) → word_sort Win ns ss ≡ Ok s → AreOfSorts ss vs → AreWritten ns vs → Sound s (word_value Win vs)
win_sound ns ss vs s p h e =
    let r = with_three_ok ss _ s p in
    let w = three_values r.0 r.1 r.2 vs (subst (λ z. AreOfSorts z vs) r.3 h) in
    let l = given_ok Kind ns.0 _ s r.4 in
    let a = with_ints_ok r.1 _ s l.2 in
    let m = int_of a.0 a.1 w.1 (ap (λ z. has_sort z w.1) (sym a.2) ∙ w.5.has) in
    let x = word_ok r.2 w.2 (λ b. ok bools) s a.3 w.6 in
    let first = e.first l.0 w.0 (w.1 ∷ w.2 ∷ []) l.1 w.3 in
    at_values Win vs (int l.0 ∷ int m.0 ∷ int x.r ∷ []) s (w.3 ∙ (λ o. first o ∷ m.1 o ∷ x.is o ∷ []))
    (truth_sound (has_bit_at (natural x.r) (place_above (m.0 -ℤ l.0))) s x.gives)

-- what may stand for a number is a number
number_of_joined : (lo hi : ℤ) (d e : PlainSort) (v : PlainValue) → join (ints lo hi) d ≡ Some e → IsOfSort d v → (n : ℤ) × (v ≡ int n)
number_of_joined lo hi never e v p h = absurd (none_of v h.has)
number_of_joined lo hi (ints low high) e v p h = let i = int_of low high v h.has in (i.0, i.1)
number_of_joined lo hi bools e v p h = cc
number_of_joined lo hi (pairs a b) e v p h = cc
number_of_joined lo hi (sets a) e v p h = cc
number_of_joined lo hi (seqs a n) e v p h = cc
number_of_joined lo hi (maps a b) e v p h = cc
number_of_joined lo hi (enums ns) e v p h = cc

lowest_of_sort : (e : PlainSort) (lo d : ℤ) (is : List ℕ) → EachPlace (λ i. i < word_size) is → ((i : ℕ) → i < word_size → IsOfSort e (key_at lo i)) → IsOfSort e (int d) → IsOfSort e (int (lowest_or lo is d))
lowest_of_sort e lo d [] h k l = l
lowest_of_sort e lo d (i ∷ is) h k l = k i h.0

pub wleast_sound : (ns : Numbers) (ss : List PlainSort) (vs : List PlainValue) (s : PlainSort) → word_sort Wleast ns ss ≡ Ok s → AreOfSorts ss vs → AreWritten ns vs → Sound s (word_value Wleast vs)
wleast_sound ns ss vs s p h e =
    let r = with_three_ok ss _ s p in
    let w = three_values r.0 r.1 r.2 vs (subst (λ z. AreOfSorts z vs) r.3 h) in
    let l = given_ok Kind ns.0 _ s r.4 in
    let x = word_ok r.2 w.2 (λ b. with_join (join (keys_from l.0 word_size) r.1) allowed) s l.2 w.6 in
    let y = with_join_ok (join (keys_from l.0 word_size) r.1) allowed s x.gives in
    let m = number_of_joined l.0 _ r.1 y.0 w.1 y.1 w.5 in
    let first = e.first l.0 w.0 (w.1 ∷ w.2 ∷ []) l.1 w.3 in
    let bits = bits_below word_size (natural x.r) in
    at_values Wleast vs (int l.0 ∷ int m.0 ∷ int x.r ∷ []) s (w.3 ∙ (λ o. first o ∷ m.1 o ∷ x.is o ∷ []))
    (allowed_sound y.0 s (int (lowest_or l.0 bits m.0))
    (lowest_of_sort y.0 l.0 m.0 bits (places_below (has_bit (natural x.r)) 0 word_size word_size (omega arith))
    (λ i k. IsOfSort-left (keys_from l.0 word_size) r.1 y.0 (key_at l.0 i) y.1 (key_of_sort l.0 word_size i k))
    (IsOfSort-right (keys_from l.0 word_size) r.1 y.0 (int m.0) y.1 (subst (IsOfSort r.1) m.1 w.5))) y.2)
