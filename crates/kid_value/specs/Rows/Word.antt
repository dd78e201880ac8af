-- The operators on words and rows. A word stands for a set of the numbers from lo on by its bits, and a row for a map
-- of such keys by its items, each of which is empty or has the one value.
use Rattle.std.specs.Prelude.{ℕ, zero, suc, ◌+◌, ◌^◌, ℤ, pos, negsuc, ◌+ℤ◌, ◌-ℤ◌, Bool, false, cond, not, ◌&&◌, ◌||◌, List, [], ◌∷◌, Option, Some, None, map, filter, length, set, unwrap_or, nat_eq}
use Rattle.std.specs.Int.{bit_at}
use Rattle.std.specs.List.{range_with_len}
use Rattle.std.specs.Option.{option_and_then}
use Rattle.kid_value.specs.PlainValue.{PlainValue, int, bool, seq, map_of, items, entries}
use Rattle.kid_value.specs.PlainValue as value
use Rattle.kid_value.specs.Rows.Kinds.{wrong_kind, set_from, sequence_from, map_from, natural}
use Rattle.kid_value.specs.ValueMap.{lookup}
use Rattle.kid_value.specs.ValueSet.{is_member}

-- whether a word has the bit
abbrev pub has_bit : ℕ → ℕ → Bool
has_bit r i = nat_eq (bit_at r i) 1

-- the word of n bits that has those that pass
abbrev pub word_of : (ℕ → Bool) → ℕ → ℕ
word_of p zero = 0
word_of p (suc n) = word_of p n + cond (p n) (2 ^ n) 0

-- the bits below n that a word has
abbrev pub bits_below : ℕ → ℕ → List ℕ
bits_below n r = filter (has_bit r) (range_with_len 0 n)

-- the number of bits of a word
abbrev pub word_size : ℕ
word_size = 62

-- the number that stands at a bit or an item
abbrev pub key_at : ℤ → ℕ → PlainValue
key_at lo i = int (lo +ℤ pos i)

-- how far a number is above lo, where it is not below
abbrev pub place_above : ℤ → Option ℕ
place_above (pos n) = Some n
place_above (negsuc n) = None

abbrev pub has_bit_at : ℕ → Option ℕ → Bool
has_bit_at r None = false
has_bit_at r (Some i) = has_bit r i

abbrev pub lowest_or : ℤ → List ℕ → ℤ → ℤ
lowest_or lo [] d = d
lowest_or lo (i ∷ is) d = lo +ℤ pos i

abbrev pub wenc : PlainValue → PlainValue → PlainValue → PlainValue
wenc (int lo) (int k) (value.set vs) = int (pos (word_of (λ i. is_member (key_at lo i) (items vs)) (natural k)))
wenc u v w = wrong_kind

abbrev pub wdec : PlainValue → PlainValue → PlainValue → PlainValue
wdec (int lo) (int k) (int r) = set_from (map (key_at lo) (bits_below (natural k) (natural r)))
wdec u v w = wrong_kind

abbrev pub wor : PlainValue → PlainValue → PlainValue
wor (int r) (int s) = int (pos (word_of (λ i. has_bit (natural r) i || has_bit (natural s) i) word_size))
wor v w = wrong_kind

abbrev pub wand : PlainValue → PlainValue → PlainValue
wand (int r) (int s) = int (pos (word_of (λ i. has_bit (natural r) i && has_bit (natural s) i) word_size))
wand v w = wrong_kind

abbrev pub wnot : PlainValue → PlainValue → PlainValue
wnot (int r) (int s) = int (pos (word_of (λ i. has_bit (natural r) i && not (has_bit (natural s) i)) word_size))
wnot v w = wrong_kind

abbrev pub wcard : PlainValue → PlainValue
wcard (int r) = int (pos (length (bits_below word_size (natural r))))
wcard v = wrong_kind

abbrev pub win : PlainValue → PlainValue → PlainValue → PlainValue
win (int lo) (int a) (int r) = bool (has_bit_at (natural r) (place_above (a -ℤ lo)))
win u v w = wrong_kind

abbrev pub wleast : PlainValue → PlainValue → PlainValue → PlainValue
wleast (int lo) (int d) (int r) = int (lowest_or lo (bits_below word_size (natural r)) d)
wleast u v w = wrong_kind

-- an item of a row, and the value that it has
abbrev pub row_item : Option PlainValue → PlainValue
row_item None = sequence_from []
row_item (Some v) = sequence_from (v ∷ [])

abbrev pub first_of_list : List PlainValue → Option PlainValue
first_of_list [] = None
first_of_list (v ∷ vs) = Some v

abbrev pub item_value : PlainValue → Option PlainValue
item_value (seq vs) = first_of_list (items vs)
item_value v = None

-- the item at a place, counted from 0
abbrev pub item_of : List PlainValue → ℕ → Option PlainValue
item_of [] i = None
item_of (g ∷ gs) zero = Some g
item_of (g ∷ gs) (suc i) = item_of gs i

abbrev pub entry_before : PlainValue → Option PlainValue → List (PlainValue × PlainValue) → List (PlainValue × PlainValue)
entry_before k None es = es
entry_before k (Some v) es = (k, v) ∷ es

abbrev pub row_entries : ℤ → List PlainValue → List (PlainValue × PlainValue)
row_entries lo [] = []
row_entries lo (g ∷ gs) = entry_before (int lo) (item_value g) (row_entries (lo +ℤ pos 1) gs)

abbrev pub item_set : List PlainValue → Option ℕ → PlainValue → List PlainValue
item_set gs None g = gs
item_set gs (Some i) g = set gs i g

abbrev pub renc : PlainValue → PlainValue → PlainValue → PlainValue
renc (int lo) (int n) (map_of m) = sequence_from (map (λ i. row_item (lookup (key_at lo i) (entries m))) (range_with_len 0 (natural n)))
renc u v w = wrong_kind

abbrev pub rdec : PlainValue → PlainValue → PlainValue
rdec (int lo) (seq gs) = map_from (row_entries lo (items gs))
rdec v w = wrong_kind

abbrev pub rget : PlainValue → PlainValue → PlainValue → PlainValue → PlainValue
rget (int lo) (seq gs) (int a) d = unwrap_or (option_and_then item_value (option_and_then (item_of (items gs)) (place_above (a -ℤ lo)))) d
rget u v w d = wrong_kind

abbrev pub rput : PlainValue → PlainValue → PlainValue → PlainValue → PlainValue
rput (int lo) (seq gs) (int a) x = sequence_from (item_set (items gs) (place_above (a -ℤ lo)) (row_item (Some x)))
rput u v w x = wrong_kind

abbrev pub rdrop : PlainValue → PlainValue → PlainValue → PlainValue
rdrop (int lo) (seq gs) (int a) = sequence_from (item_set (items gs) (place_above (a -ℤ lo)) (row_item None))
rdrop u v w = wrong_kind
