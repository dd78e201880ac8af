-- What the operators give of canonical values is canonical.
use Rattle.std.proofs.Common.{◌≡◌, ℕ, ◌+◌, ◌<◌, zero, suc, ℤ, pos, negsuc, ◌+ℤ◌, ◌-ℤ◌, ◌<ℤ◌, Bool, true, false, cond, List, [], ◌∷◌, Option, Some, None, map, refl, sym, ap, subst, arith}
use Rattle.std.specs.Prelude.{not, filter, get_or, set, unwrap_or}
use Rattle.std.specs.List.{range_with_len}
use Rattle.std.specs.Option.{option_and_then}
use Rattle.std.proofs.lemmas.Int.{ints as int_rules}
use Rattle.kid_value.specs.Canonical.{IsCanonical, AreCanonical, EntriesAreCanonical}
use Rattle.kid_value.specs.PlainValue as value
use Rattle.kid_value.specs.PlainValue.{PlainValue, int, bool, PlainValues, PlainEntries, row, table, entries}
use Rattle.kid_value.specs.SortCount.{interval_count}
use Rattle.kid_value.specs.ValueMap.{keys, lookup, put_entry}
use Rattle.kid_value.specs.ValueOrder.{Before}
use Rattle.kid_value.specs.ValueSet as sets
use Rattle.kid_value.specs.ValueSet.{value_eq, is_member, AllAfter, Ascends}
use Rattle.kid_value.specs.Rows.Kinds.{set_from, set_of_all, map_from, natural}
use Rattle.kid_value.specs.Rows.Logic as logic
use Rattle.kid_value.specs.Rows.Pair as pair_rows
use Rattle.kid_value.specs.Rows.Set as set_rows
use Rattle.kid_value.specs.Rows.Set.{numbers, first_or}
use Rattle.kid_value.specs.Rows.Seq as seq_rows
use Rattle.kid_value.specs.Rows.Seq.{item_at}
use Rattle.kid_value.specs.Rows.Map as map_rows
use Rattle.kid_value.specs.Rows.Map.{cut_down}
use Rattle.kid_value.specs.Rows.Word as word_rows
use Rattle.kid_value.specs.Rows.Word.{bits_below, key_at, has_bit, place_above, row_item, item_value, item_of, first_of_list, row_entries, entry_before, item_set}
use Rattle.kid_value.proofs.CanonicalLemmas.{AreCanonical-put, EntriesAreCanonical-put, keys-put_entry, AreCanonical-append}
use Rattle.kid_value.proofs.RowLemmas.{items_row, row_items, entries_table, table_entries}
use Rattle.kid_value.proofs.ValueSetLaws.{Ascends-put, Ascends-union, Ascends-filter}

-- each value of a list is canonical
abbrev pub Each : List PlainValue → Type 0
Each vs = AreCanonical (row vs)

abbrev pub EachEntry : List (PlainValue × PlainValue) → Type 0
EachEntry es = EntriesAreCanonical (table es)

abbrev pub Maybe : Option PlainValue → Type 0
Maybe None = Unit {0}
Maybe (Some v) = IsCanonical v

each : (vs : PlainValues) → AreCanonical vs → Each (value.items vs)
each vs c = subst AreCanonical (sym (row_items vs)) c

each_entry : (es : PlainEntries) → EntriesAreCanonical es → EachEntry (entries es)
each_entry es c = subst EntriesAreCanonical (sym (table_entries es)) c

pub IsCanonical-set_from : (vs : List PlainValue) → Ascends vs → Each vs → IsCanonical (set_from vs)
IsCanonical-set_from vs a c = (subst Ascends (sym (items_row vs)) a, c)

pub IsCanonical-map_from : (es : List (PlainValue × PlainValue)) → Ascends (keys es) → EachEntry es → IsCanonical (map_from es)
IsCanonical-map_from es a c = (subst (λ z. Ascends (keys z)) (sym (entries_table es)) a, c)

Each-filter : (p : PlainValue → Bool) (vs : List PlainValue) → Each vs → Each (filter p vs)
Each-filter p [] c = tt
Each-filter p (v ∷ vs) c = by_cases (p v) (Each-filter p vs c.1)
  where
    by_cases : (b : Bool) → Each (filter p vs) → Each (cond b (v ∷ filter p vs) (filter p vs))
    by_cases true h = (c.0, h)
    by_cases false h = h

Each-union : (vs ws : List PlainValue) → Each vs → Each ws → Each (sets.union vs ws)
Each-union [] ws c d = d
Each-union (v ∷ vs) ws c d = AreCanonical-put v (sets.union vs ws) c.0 (Each-union vs ws c.1 d)

pub IsCanonical-set_of_all : (vs : List PlainValue) → Each vs → IsCanonical (set_of_all vs)
IsCanonical-set_of_all vs c = IsCanonical-set_from (sets.union vs []) (Ascends-union vs [] tt) (Each-union vs [] c tt)

IsCanonical-first_or : (vs : List PlainValue) (d : PlainValue) → Each vs → IsCanonical d → IsCanonical (first_or vs d)
IsCanonical-first_or [] d c e = e
IsCanonical-first_or (v ∷ vs) d c e = c.0

IsCanonical-get_or : (vs : List PlainValue) (n : ℕ) (d : PlainValue) → Each vs → IsCanonical d → IsCanonical (get_or vs n d)
IsCanonical-get_or [] n d c e = e
IsCanonical-get_or (v ∷ vs) zero d c e = c.0
IsCanonical-get_or (v ∷ vs) (suc n) d c e = IsCanonical-get_or vs n d c.1 e

IsCanonical-item_at : (vs : List PlainValue) (i : ℤ) (d : PlainValue) → Each vs → IsCanonical d → IsCanonical (item_at vs i d)
IsCanonical-item_at vs (pos zero) d c e = e
IsCanonical-item_at vs (pos (suc n)) d c e = IsCanonical-get_or vs n d c e
IsCanonical-item_at vs (negsuc n) d c e = e

Each-drop : (n : ℕ) (vs : List PlainValue) → Each vs → Each (Rattle.std.specs.Prelude.drop n vs)
Each-drop zero vs c = c
Each-drop (suc n) [] c = tt
Each-drop (suc n) (v ∷ vs) c = Each-drop n vs c.1

number_before : (a b : ℤ) → a <ℤ b → Before (int a) (int b)
number_before a b h = grind (arith, int_rules)

AllAfter-numbers : (a b : ℤ) (n : ℕ) → a <ℤ b → AllAfter (int a) (numbers b n)
AllAfter-numbers a b zero h = tt
AllAfter-numbers a b (suc n) h = (number_before a b h, AllAfter-numbers a (b +ℤ pos 1) n (omega (arith, int_rules)))

Ascends-numbers : (a : ℤ) (n : ℕ) → Ascends (numbers a n)
Ascends-numbers a zero = tt
Ascends-numbers a (suc n) = (AllAfter-numbers a (a +ℤ pos 1) n (omega (arith, int_rules)), Ascends-numbers (a +ℤ pos 1) n)

Each-numbers : (a : ℤ) (n : ℕ) → Each (numbers a n)
Each-numbers a zero = tt
Each-numbers a (suc n) = (tt, Each-numbers (a +ℤ pos 1) n)

pub IsCanonical-range : (v w : PlainValue) → IsCanonical (set_rows.range v w)
IsCanonical-range (int a) (int b) = IsCanonical-set_from (numbers a (interval_count a b)) (Ascends-numbers a (interval_count a b)) (Each-numbers a (interval_count a b))
IsCanonical-range v w = tt

pub IsCanonical-union : (v w : PlainValue) → IsCanonical v → IsCanonical w → IsCanonical (set_rows.union v w)
IsCanonical-union (value.set vs) (value.set ws) c d =
    IsCanonical-set_from (sets.union (value.items vs) (value.items ws)) (Ascends-union (value.items vs) (value.items ws) d.0) (Each-union (value.items vs) (value.items ws) (each vs c.1) (each ws d.1))
IsCanonical-union v w c d = tt

pub IsCanonical-with : (x v : PlainValue) → IsCanonical x → IsCanonical v → IsCanonical (set_rows.with x v)
IsCanonical-with x (value.set vs) c d = IsCanonical-set_from (sets.put x (value.items vs)) (Ascends-put x (value.items vs) d.0) (AreCanonical-put x (value.items vs) c (each vs d.1))
IsCanonical-with x v c d = tt

-- the members of a set that pass
pub IsCanonical-passing : (p : PlainValue → Bool) (vs : PlainValues) → IsCanonical (value.set vs) → IsCanonical (set_from (filter p (value.items vs)))
IsCanonical-passing p vs c = IsCanonical-set_from (filter p (value.items vs)) (Ascends-filter p (value.items vs) c.0) (Each-filter p (value.items vs) (each vs c.1))

pub IsCanonical-inter : (v w : PlainValue) → IsCanonical v → IsCanonical (set_rows.inter v w)
IsCanonical-inter (value.set vs) (value.set ws) c = IsCanonical-passing (λ x. is_member x (value.items ws)) vs c
IsCanonical-inter v w c = tt

pub IsCanonical-diff : (v w : PlainValue) → IsCanonical v → IsCanonical (set_rows.diff v w)
IsCanonical-diff (value.set vs) (value.set ws) c = IsCanonical-passing (λ x. not (is_member x (value.items ws))) vs c
IsCanonical-diff v w c = tt

pub IsCanonical-without : (x v : PlainValue) → IsCanonical v → IsCanonical (set_rows.without x v)
IsCanonical-without x (value.set vs) c = IsCanonical-passing (λ y. not (value_eq y x)) vs c
IsCanonical-without x v c = tt

pub IsCanonical-least : (v d : PlainValue) → IsCanonical v → IsCanonical d → IsCanonical (set_rows.least v d)
IsCanonical-least (value.set vs) d c e = IsCanonical-first_or (value.items vs) d (each vs c.1) e
IsCanonical-least v d c e = tt

pub IsCanonical-choose : (p x y : PlainValue) → IsCanonical x → IsCanonical y → IsCanonical (logic.choose p x y)
IsCanonical-choose (bool true) x y c d = c
IsCanonical-choose (bool false) x y c d = d
IsCanonical-choose p x y c d = tt

pub IsCanonical-fst : (v : PlainValue) → IsCanonical v → IsCanonical (pair_rows.fst v)
IsCanonical-fst (value.pair x y) c = c.0
IsCanonical-fst v c = tt

pub IsCanonical-snd : (v : PlainValue) → IsCanonical v → IsCanonical (pair_rows.snd v)
IsCanonical-snd (value.pair x y) c = c.1
IsCanonical-snd v c = tt

pub IsCanonical-at : (v w d : PlainValue) → IsCanonical v → IsCanonical d → IsCanonical (seq_rows.at v w d)
IsCanonical-at (value.seq vs) (int i) d c e = IsCanonical-item_at (value.items vs) i d (each vs c) e
IsCanonical-at v w d c e = tt

pub IsCanonical-snoc : (v x : PlainValue) → IsCanonical v → IsCanonical x → IsCanonical (seq_rows.snoc v x)
IsCanonical-snoc (value.seq vs) x c d = AreCanonical-append (value.items vs) x (each vs c) d
IsCanonical-snoc v x c d = tt

pub IsCanonical-rest : (v w : PlainValue) → IsCanonical v → IsCanonical (seq_rows.rest v w)
IsCanonical-rest (value.seq vs) (int i) c = Each-drop (natural i) (value.items vs) (each vs c)
IsCanonical-rest v w c = tt

pub IsCanonical-items : (v : PlainValue) → IsCanonical v → IsCanonical (seq_rows.items v)
IsCanonical-items (value.seq vs) c = IsCanonical-set_of_all (value.items vs) (each vs c)
IsCanonical-items v c = tt

Each-keys : (es : List (PlainValue × PlainValue)) → EachEntry es → Each (keys es)
Each-keys [] c = tt
Each-keys (e ∷ es) c = (c.0, Each-keys es c.2)

Each-values : (es : List (PlainValue × PlainValue)) → EachEntry es → Each (map (λ e. e.1) es)
Each-values [] c = tt
Each-values (e ∷ es) c = (c.1, Each-values es c.2)

pub Maybe-lookup : (k : PlainValue) (es : List (PlainValue × PlainValue)) → EachEntry es → Maybe (lookup k es)
Maybe-lookup k [] c = tt
Maybe-lookup k (e ∷ es) c = by_cases (value_eq k e.0) (Maybe-lookup k es c.2)
  where
    by_cases : (b : Bool) → Maybe (lookup k es) → Maybe (cond b (Some e.1) (lookup k es))
    by_cases true h = c.1
    by_cases false h = h

IsCanonical-unwrap_or : (o : Option PlainValue) (d : PlainValue) → Maybe o → IsCanonical d → IsCanonical (unwrap_or o d)
IsCanonical-unwrap_or None d c e = e
IsCanonical-unwrap_or (Some v) d c e = c

pub IsCanonical-dom : (v : PlainValue) → IsCanonical v → IsCanonical (map_rows.dom v)
IsCanonical-dom (value.map_of m) c = IsCanonical-set_from (keys (entries m)) c.0 (Each-keys (entries m) (each_entry m c.1))
IsCanonical-dom v c = tt

pub IsCanonical-ran : (v : PlainValue) → IsCanonical v → IsCanonical (map_rows.ran v)
IsCanonical-ran (value.map_of m) c = IsCanonical-set_of_all (map (λ e. e.1) (entries m)) (Each-values (entries m) (each_entry m c.1))
IsCanonical-ran v c = tt

pub IsCanonical-get : (v x d : PlainValue) → IsCanonical v → IsCanonical d → IsCanonical (map_rows.get v x d)
IsCanonical-get (value.map_of m) x d c e = IsCanonical-unwrap_or (lookup x (entries m)) d (Maybe-lookup x (entries m) (each_entry m c.1)) e
IsCanonical-get v x d c e = tt

pub IsCanonical-put : (v x y : PlainValue) → IsCanonical v → IsCanonical x → IsCanonical y → IsCanonical (map_rows.put v x y)
IsCanonical-put (value.map_of m) x y c d e =
    IsCanonical-map_from (put_entry x y (entries m)) (subst Ascends (sym (keys-put_entry x y (entries m))) (Ascends-put x (keys (entries m)) c.0)) (EntriesAreCanonical-put x y (entries m) d e (each_entry m c.1))
IsCanonical-put v x y c d e = tt

module _ (p : PlainValue × PlainValue → Bool) where
  EachEntry-filter : (es : List (PlainValue × PlainValue)) → EachEntry es → EachEntry (filter p es)
  EachEntry-filter [] c = tt
  EachEntry-filter (e ∷ es) c = by_cases (p e) (EachEntry-filter es c.2)
    where
      by_cases : (b : Bool) → EachEntry (filter p es) → EachEntry (cond b (e ∷ filter p es) (filter p es))
      by_cases true h = (c.0, c.1, h)
      by_cases false h = h

  AllAfter-kept : (x : PlainValue) (es : List (PlainValue × PlainValue)) → AllAfter x (keys es) → AllAfter x (keys (filter p es))
  AllAfter-kept x [] a = tt
  AllAfter-kept x (e ∷ es) a = by_cases (p e) (AllAfter-kept x es a.1)
    where
      by_cases : (b : Bool) → AllAfter x (keys (filter p es)) → AllAfter x (keys (cond b (e ∷ filter p es) (filter p es)))
      by_cases true h = (a.0, h)
      by_cases false h = h

  Ascends-kept : (es : List (PlainValue × PlainValue)) → Ascends (keys es) → Ascends (keys (filter p es))
  Ascends-kept [] a = tt
  Ascends-kept (e ∷ es) a = by_cases (p e) (Ascends-kept es a.1)
    where
      by_cases : (b : Bool) → Ascends (keys (filter p es)) → Ascends (keys (cond b (e ∷ filter p es) (filter p es)))
      by_cases true h = (AllAfter-kept e.0 es a.0, h)
      by_cases false h = h

pub IsCanonical-drop : (v x : PlainValue) → IsCanonical v → IsCanonical (map_rows.drop v x)
IsCanonical-drop (value.map_of m) x c =
    IsCanonical-map_from (filter (λ e. not (value_eq e.0 x)) (entries m)) (Ascends-kept (λ e. not (value_eq e.0 x)) (entries m) c.0) (EachEntry-filter (λ e. not (value_eq e.0 x)) (entries m) (each_entry m c.1))
IsCanonical-drop v x c = tt

pub keys-filled : (x : PlainValue) (vs : List PlainValue) → keys (map (λ v. (v, x)) vs) ≡ vs
keys-filled x [] = refl
keys-filled x (v ∷ vs) = ap (λ z. v ∷ z) (keys-filled x vs)

EachEntry-filled : (x : PlainValue) (vs : List PlainValue) → IsCanonical x → Each vs → EachEntry (map (λ v. (v, x)) vs)
EachEntry-filled x [] c d = tt
EachEntry-filled x (v ∷ vs) c d = (d.0, c, EachEntry-filled x vs c d.1)

pub IsCanonical-fill : (v x : PlainValue) → IsCanonical v → IsCanonical x → IsCanonical (map_rows.fill v x)
IsCanonical-fill (value.set vs) x c d =
    IsCanonical-map_from (map (λ v. (v, x)) (value.items vs)) (subst Ascends (sym (keys-filled x (value.items vs))) c.0) (EachEntry-filled x (value.items vs) d (each vs c.1))
IsCanonical-fill v x c d = tt

IsCanonical-cut_down : (v : PlainValue) (o : Option PlainValue) → IsCanonical v → IsCanonical (cut_down v o)
IsCanonical-cut_down v None c = c
IsCanonical-cut_down (value.set vs) (Some (value.set ws)) c = IsCanonical-passing (λ x. is_member x (value.items ws)) vs c
IsCanonical-cut_down v (Some w) c = tt

module _ (n : List (PlainValue × PlainValue)) where
  abbrev narrowed : PlainValue × PlainValue → PlainValue × PlainValue
  narrowed e = (e.0, cut_down e.1 (lookup e.0 n))

  pub keys-narrowed : (es : List (PlainValue × PlainValue)) → keys (map narrowed es) ≡ keys es
  keys-narrowed [] = refl
  keys-narrowed (e ∷ es) = ap (λ z. e.0 ∷ z) (keys-narrowed es)

  EachEntry-narrowed : (es : List (PlainValue × PlainValue)) → EachEntry es → EachEntry (map narrowed es)
  EachEntry-narrowed [] c = tt
  EachEntry-narrowed (e ∷ es) c = (c.0, IsCanonical-cut_down e.1 (lookup e.0 n) c.1, EachEntry-narrowed es c.2)

pub IsCanonical-narrow : (v w : PlainValue) → IsCanonical v → IsCanonical (map_rows.narrow v w)
IsCanonical-narrow (value.map_of m) (value.map_of n) c =
    IsCanonical-map_from (map (narrowed (entries n)) (entries m)) (subst Ascends (sym (keys-narrowed (entries n) (entries m))) c.0) (EachEntry-narrowed (entries n) (entries m) (each_entry m c.1))
IsCanonical-narrow v w c = tt

-- numbers that stand for the bits of a word
pub key_before : (lo : ℤ) (i j : ℕ) → i < j → Before (key_at lo i) (key_at lo j)
key_before lo i j h = number_before (lo +ℤ pos i) (lo +ℤ pos j) (omega (arith, int_rules))

module _ (lo : ℤ) (p : ℕ → Bool) where
  pub AllAfter-bits : (i a n : ℕ) → i < a → AllAfter (key_at lo i) (map (key_at lo) (filter p (range_with_len a n)))
  AllAfter-bits i a zero h = tt
  AllAfter-bits i a (suc n) h = by_cases (p a) (AllAfter-bits i (a + 1) n (omega arith))
    where
      by_cases : (b : Bool) → AllAfter (key_at lo i) (map (key_at lo) (filter p (range_with_len (a + 1) n))) → AllAfter (key_at lo i) (map (key_at lo) (cond b (a ∷ filter p (range_with_len (a + 1) n)) (filter p (range_with_len (a + 1) n))))
      by_cases true g = (key_before lo i a h, g)
      by_cases false g = g

  Ascends-bits : (a n : ℕ) → Ascends (map (key_at lo) (filter p (range_with_len a n)))
  Ascends-bits a zero = tt
  Ascends-bits a (suc n) = by_cases (p a) (Ascends-bits (a + 1) n)
    where
      by_cases : (b : Bool) → Ascends (map (key_at lo) (filter p (range_with_len (a + 1) n))) → Ascends (map (key_at lo) (cond b (a ∷ filter p (range_with_len (a + 1) n)) (filter p (range_with_len (a + 1) n))))
      by_cases true g = (AllAfter-bits a (a + 1) n (omega arith), g)
      by_cases false g = g

Each-numbered : (lo : ℤ) (is : List ℕ) → Each (map (key_at lo) is)
Each-numbered lo [] = tt
Each-numbered lo (i ∷ is) = (tt, Each-numbered lo is)

pub IsCanonical-wdec : (u v w : PlainValue) → IsCanonical (word_rows.wdec u v w)
IsCanonical-wdec (int lo) (int k) (int r) =
    IsCanonical-set_from (map (key_at lo) (bits_below (natural k) (natural r))) (Ascends-bits lo (has_bit (natural r)) 0 (natural k)) (Each-numbered lo (bits_below (natural k) (natural r)))
IsCanonical-wdec u v w = tt

IsCanonical-row_item : (o : Option PlainValue) → Maybe o → IsCanonical (row_item o)
IsCanonical-row_item None c = tt
IsCanonical-row_item (Some v) c = (c, tt)

Each-renc : (lo : ℤ) (es : List (PlainValue × PlainValue)) (is : List ℕ) → EachEntry es → Each (map (λ i. row_item (lookup (key_at lo i) es)) is)
Each-renc lo es [] c = tt
Each-renc lo es (i ∷ is) c = (IsCanonical-row_item (lookup (key_at lo i) es) (Maybe-lookup (key_at lo i) es c), Each-renc lo es is c)

pub IsCanonical-renc : (u v w : PlainValue) → IsCanonical w → IsCanonical (word_rows.renc u v w)
IsCanonical-renc (int lo) (int n) (value.map_of m) c = Each-renc lo (entries m) (range_with_len 0 (natural n)) (each_entry m c.1)
IsCanonical-renc u v w c = tt

Maybe-first : (vs : List PlainValue) → Each vs → Maybe (first_of_list vs)
Maybe-first [] c = tt
Maybe-first (v ∷ vs) c = c.0

Maybe-item_value : (v : PlainValue) → IsCanonical v → Maybe (item_value v)
Maybe-item_value (value.seq vs) c = Maybe-first (value.items vs) (each vs c)
Maybe-item_value v c = tt

AllAfter-row_entries : (a lo : ℤ) (gs : List PlainValue) → a <ℤ lo → AllAfter (int a) (keys (row_entries lo gs))
AllAfter-row_entries a lo [] h = tt
AllAfter-row_entries a lo (g ∷ gs) h = by_cases (item_value g) (AllAfter-row_entries a (lo +ℤ pos 1) gs (omega (arith, int_rules)))
  where
    by_cases : (o : Option PlainValue) → AllAfter (int a) (keys (row_entries (lo +ℤ pos 1) gs)) → AllAfter (int a) (keys (entry_before (int lo) o (row_entries (lo +ℤ pos 1) gs)))
    by_cases None k = k
    by_cases (Some v) k = (number_before a lo h, k)

pub Ascends-row_entries : (lo : ℤ) (gs : List PlainValue) → Ascends (keys (row_entries lo gs))
Ascends-row_entries lo [] = tt
Ascends-row_entries lo (g ∷ gs) = by_cases (item_value g) (Ascends-row_entries (lo +ℤ pos 1) gs)
  where
    by_cases : (o : Option PlainValue) → Ascends (keys (row_entries (lo +ℤ pos 1) gs)) → Ascends (keys (entry_before (int lo) o (row_entries (lo +ℤ pos 1) gs)))
    by_cases None k = k
    by_cases (Some v) k = (AllAfter-row_entries lo (lo +ℤ pos 1) gs (omega (arith, int_rules)), k)

EachEntry-row_entries : (lo : ℤ) (gs : List PlainValue) → Each gs → EachEntry (row_entries lo gs)
EachEntry-row_entries lo [] c = tt
EachEntry-row_entries lo (g ∷ gs) c = by_cases (item_value g) (Maybe-item_value g c.0) (EachEntry-row_entries (lo +ℤ pos 1) gs c.1)
  where
    by_cases : (o : Option PlainValue) → Maybe o → EachEntry (row_entries (lo +ℤ pos 1) gs) → EachEntry (entry_before (int lo) o (row_entries (lo +ℤ pos 1) gs))
    by_cases None d k = k
    by_cases (Some v) d k = (tt, d, k)

pub IsCanonical-rdec : (v w : PlainValue) → IsCanonical w → IsCanonical (word_rows.rdec v w)
IsCanonical-rdec (int lo) (value.seq gs) c =
    IsCanonical-map_from (row_entries lo (value.items gs)) (Ascends-row_entries lo (value.items gs)) (EachEntry-row_entries lo (value.items gs) (each gs c))
IsCanonical-rdec v w c = tt

Maybe-item_of : (gs : List PlainValue) (i : ℕ) → Each gs → Maybe (item_of gs i)
Maybe-item_of [] i c = tt
Maybe-item_of (g ∷ gs) zero c = c.0
Maybe-item_of (g ∷ gs) (suc i) c = Maybe-item_of gs i c.1

Maybe-value_at : (gs : List PlainValue) (o : Option ℕ) → Each gs → Maybe (option_and_then item_value (option_and_then (item_of gs) o))
Maybe-value_at gs None c = tt
Maybe-value_at gs (Some i) c = of_item (item_of gs i) (Maybe-item_of gs i c)
  where
    of_item : (o : Option PlainValue) → Maybe o → Maybe (option_and_then item_value o)
    of_item None d = tt
    of_item (Some g) d = Maybe-item_value g d

pub IsCanonical-rget : (u v w d : PlainValue) → IsCanonical v → IsCanonical d → IsCanonical (word_rows.rget u v w d)
IsCanonical-rget (int lo) (value.seq gs) (int a) d c e = IsCanonical-unwrap_or _ d (Maybe-value_at (value.items gs) (place_above (a -ℤ lo)) (each gs c)) e
IsCanonical-rget u v w d c e = tt

Each-set : (gs : List PlainValue) (i : ℕ) (g : PlainValue) → Each gs → IsCanonical g → Each (set gs i g)
Each-set [] i g c d = tt
Each-set (h ∷ gs) zero g c d = (d, c.1)
Each-set (h ∷ gs) (suc i) g c d = (c.0, Each-set gs i g c.1 d)

Each-item_set : (gs : List PlainValue) (o : Option ℕ) (g : PlainValue) → Each gs → IsCanonical g → Each (item_set gs o g)
Each-item_set gs None g c d = c
Each-item_set gs (Some i) g c d = Each-set gs i g c d

pub IsCanonical-rput : (u v w x : PlainValue) → IsCanonical v → IsCanonical x → IsCanonical (word_rows.rput u v w x)
IsCanonical-rput (int lo) (value.seq gs) (int a) x c d = Each-item_set (value.items gs) (place_above (a -ℤ lo)) (row_item (Some x)) (each gs c) (d, tt)
IsCanonical-rput u v w x c d = tt

pub IsCanonical-rdrop : (u v w : PlainValue) → IsCanonical v → IsCanonical (word_rows.rdrop u v w)
IsCanonical-rdrop (int lo) (value.seq gs) (int a) c = Each-item_set (value.items gs) (place_above (a -ℤ lo)) (row_item None) (each gs c) tt
IsCanonical-rdrop u v w c = tt
