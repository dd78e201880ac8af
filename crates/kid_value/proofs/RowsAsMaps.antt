-- Rows by the maps that they stand for.
use Rattle.std.proofs.Common.{◌≡◌, ℕ, ◌+◌, ◌<◌, ◌≤◌, zero, suc, ℤ, pos, negsuc, ◌+ℤ◌, ◌-ℤ◌, ◌<ℤ◌, Bool, true, false, cond, List, [], ◌∷◌, Option, Some, None, map, length, refl, sym, ap, ◌∙◌, arith, inl, inr}
use Rattle.std.specs.List.{range_with_len}
use Rattle.std.specs.Option.{option_and_then}
use Rattle.std.specs.Ordering.{is_eq}
use Rattle.std.specs.Prelude.{set, unwrap_or}
use Rattle.std.proofs.lemmas.Bool.{cases_lt}
use Rattle.std.proofs.lemmas.Int.{ints as int_rules}
use Rattle.kid_value.specs.Canonical.{IsCanonical}
use Rattle.kid_value.specs.Contents.{IsSequence, IsMap, value_at}
use Rattle.kid_value.specs.Entries.{IsMapOf}
use Rattle.kid_value.specs.PlainValue.{PlainValue, int, seq, map_of, row, items, entries}
use Rattle.kid_value.specs.RowLaws.{map_of_row, HasKeysBetween, RowLaws}
use Rattle.kid_value.specs.Rows.Kinds.{natural}
use Rattle.kid_value.specs.Rows.Map as map_rows
use Rattle.kid_value.specs.Rows.Parts.{items_of}
use Rattle.kid_value.specs.Rows.Word as rows
use Rattle.kid_value.specs.Rows.Word.{key_at, place_above, row_item, item_value, item_of, entry_before, row_entries, item_set}
use Rattle.kid_value.specs.ValueMap.{lookup}
use Rattle.kid_value.specs.ValueOrder.{Before}
use Rattle.kid_value.specs.ValueSet.{value_eq}
use Rattle.kid_value.proofs.LookupLemmas.{none_some}
use Rattle.kid_value.proofs.MapMeaning.{same_maps}
use Rattle.kid_value.proofs.RowCanonical.{IsCanonical-rdec, IsCanonical-renc}
use Rattle.kid_value.proofs.RowLemmas.{items_row, entries_table}
use Rattle.kid_value.proofs.ValueSetLaws.{value_eq-true, value_eq-itself}

before : (a b : ℤ) → a <ℤ b → Before (int a) (int b)
before a b h = grind (arith, int_rules)

apart : (a b : ℤ) → a <ℤ b → value_eq (int a) (int b) ≡ false
apart a b h = ap is_eq (before a b h)

first_key : (lo : ℤ) → key_at lo 0 ≡ int lo
first_key lo = let e : lo +ℤ pos 0 ≡ lo = omega (arith, int_rules) in ap int e

next_key : (lo : ℤ) (i : ℕ) → key_at (lo +ℤ pos 1) i ≡ key_at lo (suc i)
next_key lo i = let e : (lo +ℤ pos 1) +ℤ pos i ≡ lo +ℤ pos (suc i) = omega (arith, int_rules) in ap int e

-- another key than that of the first item is looked up behind it
later : (k : PlainValue) (lo : ℤ) (g : PlainValue) (gs : List PlainValue) → value_eq k (int lo) ≡ false → lookup k (row_entries lo (g ∷ gs)) ≡ lookup k (row_entries (lo +ℤ pos 1) gs)
later k lo g gs n = by (item_value g)
  where
    by : (o : Option PlainValue) → lookup k (entry_before (int lo) o (row_entries (lo +ℤ pos 1) gs)) ≡ lookup k (row_entries (lo +ℤ pos 1) gs)
    by None = refl
    by (Some v) = ap (λ c. cond c (Some v) (lookup k (row_entries (lo +ℤ pos 1) gs))) n

below : (a lo : ℤ) (gs : List PlainValue) → a <ℤ lo → lookup (int a) (row_entries lo gs) ≡ None
below a lo [] l = refl
below a lo (g ∷ gs) l = later (int a) lo g gs (apart a lo l) ∙ below a (lo +ℤ pos 1) gs (omega (arith, int_rules))

-- and at that of the first there is its value
first : (lo : ℤ) (g : PlainValue) (gs : List PlainValue) → lookup (int lo) (row_entries lo (g ∷ gs)) ≡ item_value g
first lo g gs = by (item_value g)
  where
    by : (o : Option PlainValue) → lookup (int lo) (entry_before (int lo) o (row_entries (lo +ℤ pos 1) gs)) ≡ o
    by None = below lo (lo +ℤ pos 1) gs (omega (arith, int_rules))
    by (Some v) = ap (λ c. cond c (Some v) (lookup (int lo) (row_entries (lo +ℤ pos 1) gs))) (value_eq-itself (int lo))

-- what there is at a place
at_place : (lo : ℤ) (gs : List PlainValue) (i : ℕ) → lookup (key_at lo i) (row_entries lo gs) ≡ option_and_then item_value (item_of gs i)
at_place lo [] i = refl
at_place lo (g ∷ gs) zero = ap (λ k. lookup k (row_entries lo (g ∷ gs))) (first_key lo) ∙ first lo g gs
at_place lo (g ∷ gs) (suc i) =
    let n : value_eq (key_at lo (suc i)) (int lo) ≡ false = grind (arith, int_rules) in
    later (key_at lo (suc i)) lo g gs n
    ∙ ap (λ k. lookup k (row_entries (lo +ℤ pos 1) gs)) (sym (next_key lo i))
    ∙ at_place (lo +ℤ pos 1) gs i

at_number : (lo a : ℤ) (gs : List PlainValue) → option_and_then item_value (option_and_then (item_of gs) (place_above (a -ℤ lo))) ≡ lookup (int a) (row_entries lo gs)
at_number lo a gs = by (a -ℤ lo) refl
  where
    by : (z : ℤ) → a -ℤ lo ≡ z → option_and_then item_value (option_and_then (item_of gs) (place_above z)) ≡ lookup (int a) (row_entries lo gs)
    by (pos n) e = let f : lo +ℤ pos n ≡ a = omega (arith, int_rules, e) in sym (at_place lo gs n) ∙ ap (λ z. lookup (int z) (row_entries lo gs)) f
    by (negsuc n) e = sym (below a lo gs (omega (arith, int_rules, e)))

-- a key stands at a place
only : (lo : ℤ) (gs : List PlainValue) (k v : PlainValue) → lookup k (row_entries lo gs) ≡ Some v → (i : ℕ) × (i < length gs) × (k ≡ key_at lo i)
only lo [] k v h = cc
only lo (g ∷ gs) k v h = by (value_eq k (int lo)) refl (only (lo +ℤ pos 1) gs k v)
  where
    by : (b : Bool) → value_eq k (int lo) ≡ b → (lookup k (row_entries (lo +ℤ pos 1) gs) ≡ Some v → (i : ℕ) × (i < length gs) × (k ≡ key_at (lo +ℤ pos 1) i)) → (i : ℕ) × (i < length (g ∷ gs)) × (k ≡ key_at lo i)
    by true e ih = (0, omega arith, value_eq-true k (int lo) e ∙ sym (first_key lo))
    by false e ih =
        let found = ih (sym (later k lo g gs e) ∙ h) in
        (suc found.0, omega (arith, found.1), found.2 ∙ next_key lo found.0)

-- another item at a place
module _ (k item : PlainValue) where
  at_set : (lo : ℤ) (gs : List PlainValue) (i : ℕ) → i < length gs → lookup k (row_entries lo (set gs i item)) ≡ cond (value_eq k (key_at lo i)) (item_value item) (lookup k (row_entries lo gs))
  at_set lo [] i l = absurd (omega arith)
  at_set lo (g ∷ gs) zero l = by (value_eq k (int lo)) refl ∙ ap (λ z. cond (value_eq k z) (item_value item) (lookup k (row_entries lo (g ∷ gs)))) (sym (first_key lo))
    where
      by : (b : Bool) → value_eq k (int lo) ≡ b → lookup k (row_entries lo (item ∷ gs)) ≡ cond (value_eq k (int lo)) (item_value item) (lookup k (row_entries lo (g ∷ gs)))
      by true e =
          ap (λ z. lookup z (row_entries lo (item ∷ gs))) (value_eq-true k (int lo) e)
          ∙ first lo item gs
          ∙ sym (ap (λ c. cond c (item_value item) (lookup k (row_entries lo (g ∷ gs)))) e)
      by false e =
          later k lo item gs e
          ∙ sym (later k lo g gs e)
          ∙ sym (ap (λ c. cond c (item_value item) (lookup k (row_entries lo (g ∷ gs)))) e)
  at_set lo (g ∷ gs) (suc i) l = by (value_eq k (int lo)) refl (at_set (lo +ℤ pos 1) gs i (omega arith))
    where
      by : (b : Bool) → value_eq k (int lo) ≡ b
          → lookup k (row_entries (lo +ℤ pos 1) (set gs i item)) ≡ cond (value_eq k (key_at (lo +ℤ pos 1) i)) (item_value item) (lookup k (row_entries (lo +ℤ pos 1) gs))
          → lookup k (row_entries lo (g ∷ set gs i item)) ≡ cond (value_eq k (key_at lo (suc i))) (item_value item) (lookup k (row_entries lo (g ∷ gs)))
      by true e ih =
          let is : k ≡ int lo = value_eq-true k (int lo) e in
          let n : value_eq (int lo) (key_at lo (suc i)) ≡ false = apart lo (lo +ℤ pos (suc i)) (omega (arith, int_rules)) in
          ap (λ z. lookup z (row_entries lo (g ∷ set gs i item))) is
          ∙ first lo g (set gs i item)
          ∙ sym (first lo g gs)
          ∙ ap (λ z. lookup z (row_entries lo (g ∷ gs))) (sym is)
          ∙ sym (ap (λ z. cond (value_eq z (key_at lo (suc i))) (item_value item) (lookup k (row_entries lo (g ∷ gs)))) is ∙ ap (λ c. cond c (item_value item) (lookup k (row_entries lo (g ∷ gs)))) n)
      by false e ih =
          later k lo g (set gs i item) e
          ∙ ih
          ∙ ap (λ z. cond (value_eq k z) (item_value item) (lookup k (row_entries (lo +ℤ pos 1) gs))) (next_key lo i)
          ∙ ap (λ o. cond (value_eq k (key_at lo (suc i))) (item_value item) o) (sym (later k lo g gs e))

-- the items of a map's row
module _ (f : ℕ → PlainValue) where
  item_there : (a n i : ℕ) → i < n → item_of (map f (range_with_len a n)) i ≡ Some (f (a + i))
  item_there a zero i l = absurd (omega arith)
  item_there a (suc n) zero l = let e : a ≡ a + 0 = omega arith in ap (λ z. Some (f z)) e
  item_there a (suc n) (suc i) l = let e : (a + 1) + i ≡ a + suc i = omega arith in item_there (a + 1) n i (omega arith) ∙ ap (λ z. Some (f z)) e

  item_past : (a n i : ℕ) → n ≤ i → item_of (map f (range_with_len a n)) i ≡ None
  item_past a zero i l = refl
  item_past a (suc n) zero l = absurd (omega arith)
  item_past a (suc n) (suc i) l = item_past (a + 1) n i (omega arith)

value_of_item : (o : Option PlainValue) → item_value (row_item o) ≡ o
value_of_item None = refl
value_of_item (Some v) = refl

-- ---- the laws

-- what the map has that is made of the items
value_of_row : (k : PlainValue) (lo : ℤ) (gs : List PlainValue) → value_at k (map_of_row lo (seq (row gs))) ≡ lookup k (row_entries lo gs)
value_of_row k lo gs = ap (lookup k) (entries_table (row_entries lo (items (row gs)))) ∙ ap (λ z. lookup k (row_entries lo z)) (items_row gs)

is_map : (lo : ℤ) (g : PlainValue) → IsSequence g → IsMap (map_of_row lo g)
is_map lo (seq gs) s = tt
is_map lo g s = absurd s

rdec_only : (lo : ℤ) (g k v : PlainValue) → IsSequence g → value_at k (map_of_row lo g) ≡ Some v → (i : ℕ) × (i < length (items_of g)) × (k ≡ key_at lo i)
rdec_only lo (seq gs) k v s h = only lo (items gs) k v (sym (ap (lookup k) (entries_table (row_entries lo (items gs)))) ∙ h)
rdec_only lo g k v s h = absurd s

rget_told : (lo a : ℤ) (g d : PlainValue) → IsSequence g → rows.rget (int lo) g (int a) d ≡ map_rows.get (map_of_row lo g) (int a) d
rget_told lo a (seq gs) d s =
    ap (λ o. unwrap_or o d) (at_number lo a (items gs))
    ∙ ap (λ es. unwrap_or (lookup (int a) es) d) (sym (entries_table (row_entries lo (items gs))))
rget_told lo a g d s = absurd s

renc_told : (lo n : ℤ) (m : PlainValue) (i : ℕ) → IsMap m → i < natural n → value_at (key_at lo i) (map_of_row lo (rows.renc (int lo) (int n) m)) ≡ value_at (key_at lo i) m
renc_told lo n (map_of m) i s l =
    value_of_row (key_at lo i) lo (map (λ j. row_item (lookup (key_at lo j) (entries m))) (range_with_len 0 (natural n)))
    ∙ at_place lo (map (λ j. row_item (lookup (key_at lo j) (entries m))) (range_with_len 0 (natural n))) i
    ∙ ap (option_and_then item_value) (item_there (λ j. row_item (lookup (key_at lo j) (entries m))) 0 (natural n) i l)
    ∙ value_of_item (lookup (key_at lo (0 + i)) (entries m))
    ∙ ap (λ z. lookup (key_at lo z) (entries m)) (omega arith)
renc_told lo n m i s l = absurd s

renc_above : (lo n : ℤ) (m : PlainValue) (i : ℕ) → IsMap m → natural n ≤ i → value_at (key_at lo i) (map_of_row lo (rows.renc (int lo) (int n) m)) ≡ None
renc_above lo n (map_of m) i s l =
    value_of_row (key_at lo i) lo (map (λ j. row_item (lookup (key_at lo j) (entries m))) (range_with_len 0 (natural n)))
    ∙ at_place lo (map (λ j. row_item (lookup (key_at lo j) (entries m))) (range_with_len 0 (natural n))) i
    ∙ ap (option_and_then item_value) (item_past (λ j. row_item (lookup (key_at lo j) (entries m))) 0 (natural n) i l)
renc_above lo n m i s l = absurd s

-- a map and its row
one_option : (o p : Option PlainValue) → ((v : PlainValue) → o ≡ Some v → o ≡ p) → ((v : PlainValue) → p ≡ Some v → o ≡ p) → o ≡ p
one_option None None f g = refl
one_option (Some v) p f g = f v refl
one_option None (Some v) f g = g v refl

module _ (lo n : ℤ) (m : PlainValue) (j : IsMap m) where
  abbrev decoded : PlainValue
  decoded = map_of_row lo (rows.renc (int lo) (int n) m)

  at_key : (k : PlainValue) (i : ℕ) → k ≡ key_at lo i → i < natural n → value_at k decoded ≡ value_at k m
  at_key k i e l = ap (λ z. value_at z decoded) e ∙ renc_told lo n m i j l ∙ ap (λ z. value_at z m) (sym e)

  was_there : IsSequence (rows.renc (int lo) (int n) m) → (k v : PlainValue) → value_at k decoded ≡ Some v → value_at k decoded ≡ value_at k m
  was_there s k v h =
      let found = rdec_only lo (rows.renc (int lo) (int n) m) k v s h in
      elim (cases_lt found.0 (natural n)) [
        | inl l ↦ at_key k found.0 found.2 l
        | inr g ↦ absurd (none_some (value_at k decoded) v h (ap (λ z. value_at z decoded) found.2 ∙ renc_above lo n m found.0 j g))
      ]

  same_values : IsSequence (rows.renc (int lo) (int n) m) → HasKeysBetween lo n m → (k : PlainValue) → value_at k decoded ≡ value_at k m
  same_values s f k =
      one_option (value_at k decoded) (value_at k m) (was_there s k) (λ v h. let found = f k v h in at_key k found.0 found.2 found.1)

rdec_renc : (lo n : ℤ) (m : PlainValue) → IsMap m → IsCanonical m → HasKeysBetween lo n m → map_of_row lo (rows.renc (int lo) (int n) m) ≡ m
rdec_renc lo n (map_of m) j c f =
    same_maps (map_of_row lo (rows.renc (int lo) (int n) (map_of m))) (map_of m) tt j
    (IsCanonical-rdec (int lo) (rows.renc (int lo) (int n) (map_of m)) (IsCanonical-renc (int lo) (int n) (map_of m) c))
    c
    (same_values lo n (map_of m) j tt f)
rdec_renc lo n m j c f = absurd j

-- a row with another item at a number
set_told : (lo : ℤ) (i : ℕ) (gs : List PlainValue) (item k : PlainValue) → i < length gs
    → value_at k (map_of_row lo (seq (row (item_set gs (place_above ((lo +ℤ pos i) -ℤ lo)) item)))) ≡ cond (value_eq k (key_at lo i)) (item_value item) (lookup k (row_entries lo gs))
set_told lo i gs item k l =
    let e : (lo +ℤ pos i) -ℤ lo ≡ pos i = omega (arith, int_rules) in
    ap (λ z. value_at k (map_of_row lo (seq (row (item_set gs (place_above z) item))))) e
    ∙ value_of_row k lo (set gs i item)
    ∙ at_set k item lo gs i l

rput_told : (lo : ℤ) (i : ℕ) (g x : PlainValue) → IsSequence g → i < length (items_of g) → IsMapOf (λ k. cond (value_eq k (key_at lo i)) (Some x) (value_at k (map_of_row lo g))) (map_of_row lo (rows.rput (int lo) g (key_at lo i) x))
rput_told lo i (seq gs) x s l = (tt, λ k. set_told lo i (items gs) (row_item (Some x)) k l ∙ ap (λ es. cond (value_eq k (key_at lo i)) (Some x) (lookup k es)) (sym (entries_table (row_entries lo (items gs)))))
rput_told lo i g x s l = absurd s

rdrop_told : (lo : ℤ) (i : ℕ) (g : PlainValue) → IsSequence g → i < length (items_of g) → IsMapOf (λ k. cond (value_eq k (key_at lo i)) None (value_at k (map_of_row lo g))) (map_of_row lo (rows.rdrop (int lo) g (key_at lo i)))
rdrop_told lo i (seq gs) s l = (tt, λ k. set_told lo i (items gs) (row_item None) k l ∙ ap (λ es. cond (value_eq k (key_at lo i)) None (lookup k es)) (sym (entries_table (row_entries lo (items gs)))))
rdrop_told lo i g s l = absurd s

pub laws : RowLaws
laws =
    record {
      rdec = is_map;
      rdec_only = rdec_only;
      rget = rget_told;
      renc = renc_told;
      renc_above = renc_above;
      rdec_renc = rdec_renc;
      rput = rput_told;
      rdrop = rdrop_told;
    }
