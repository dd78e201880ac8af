-- The tree of a value reads back to it.
use Rattle.std.proofs.Common.{◌≡◌, ℕ, ℤ, Bool, true, false, List, [], ◌∷◌, ◌++◌, Option, Some, None, refl, sym, ap, ◌∙◌, subst, append_assoc, append-nil}
use Rattle.std.specs.Prelude.{◌&&◌, ◌||◌, option_map, if◌then◌else◌, codes}
use Rattle.std.specs.declared.cmp.Ordering.{Ordering}
use Rattle.std.specs.Fmt.{signed_decimal}
use Rattle.std.specs.Ordering.{is_eq}
use Rattle.std.specs.Str.{bytes_eq}
use Rattle.kid_value.specs.Canonical.{IsCanonical, AreCanonical, EntriesAreCanonical}
use Rattle.kid_value.specs.SortOrder.{both}
use Rattle.kid_value.specs.SortLimits.{in_limits}
use Rattle.kid_value.specs.PlainValue.{PlainValue, int, bool, pair, set, seq, map_of, tag, PlainValues, none, more, PlainEntries, no_entry, entry, items, entries, row}
use Rattle.kid_value.specs.ValueMap.{put_entry, put_entry_by, keys}
use Rattle.kid_value.specs.ValueOrder.{Before}
use Rattle.kid_value.specs.ValueSet.{Ascends, AllAfter, is_member, put, put_by, set_of}
use Rattle.kid_value.proofs.PlaceLemmas.{greater-before}
use Rattle.kid_value.proofs.RowLemmas.{row_items, table_entries}
use Rattle.kid_value.proofs.SortLemmas.{and_parts}
use Rattle.kid_codec.specs.Name.{starts_with_letter}
use Rattle.kid_codec.specs.NameSpelling.{is_tag, tag_name}
use Rattle.kid_codec.specs.Reading.{◌>>=◌}
use Rattle.kid_value.specs.Rows.Kinds.{set_of_all, sequence_from, map_from}
use Rattle.kid_codec.specs.ValueSpelling.{value_spelling, value_spellings, entry_spellings, is_spelled_value, are_spelled_values, are_spelled_entries, with_entry, with_entries, distinct_entries, spelled_value, spelled_values, spelled_entries}
use Rattle.kid_codec.proofs.Numbers.{number_of-decimal, bytes_eq-true, no_letter, no_tag}
use Rattle.kid_codec.proofs.NameLemmas.{tag_read}

put-first : (x : PlainValue) (xs : List PlainValue) → AllAfter x xs → put x xs ≡ x ∷ xs
put-first x [] h = refl
put-first x (y ∷ ys) h = ap (λ (o : Ordering). put_by o x y ys (put x ys)) h.0

pub set_of-ascends : (xs : List PlainValue) → Ascends xs → set_of xs ≡ xs
set_of-ascends [] h = refl
set_of-ascends (x ∷ xs) h = ap (put x) (set_of-ascends xs h.1) ∙ put-first x xs h.0

-- each key of the map is before another
abbrev EndsAt : PlainValue → List (PlainValue × PlainValue) → Type 0
EndsAt k [] = Unit {0}
EndsAt k (e ∷ es) = Before e.0 k × EndsAt k es

after_at : (x : PlainValue) (ds : List (PlainValue × PlainValue)) (e : PlainValue × PlainValue) (es : List (PlainValue × PlainValue)) → AllAfter x (keys (ds ++ e ∷ es)) → Before x e.0
after_at x [] e es h = h.0
after_at x (d ∷ ds) e es h = after_at x ds e es h.1

ends : (known : List (PlainValue × PlainValue)) (e : PlainValue × PlainValue) (es : List (PlainValue × PlainValue)) → Ascends (keys (known ++ e ∷ es)) → EndsAt e.0 known
ends [] e es up = tt
ends (d ∷ ds) e es up = (after_at d.0 ds e es up.0, ends ds e es up.1)

last_put : (k v : PlainValue) (known : List (PlainValue × PlainValue)) → EndsAt k known → put_entry k v known ≡ known ++ (k, v) ∷ []
last_put k v [] h = refl
last_put k v (e ∷ es) h =
    ap (λ (o : Ordering). put_entry_by o k v e es (put_entry k v es)) (greater-before e.0 k h.0) ∙ ap (λ (l : List (PlainValue × PlainValue)). e ∷ l) (last_put k v es h.1)

last_new : (k : PlainValue) (known : List (PlainValue × PlainValue)) → EndsAt k known → is_member k (keys known) ≡ false
last_new k [] h = refl
last_new k (e ∷ es) h = ap (λ (o : Ordering). is_eq o || is_member k (keys es)) (greater-before e.0 k h.0) ∙ last_new k es h.1

last_entry : (known : List (PlainValue × PlainValue)) (e : PlainValue × PlainValue) → EndsAt e.0 known → with_entry known e ≡ Some (known ++ e ∷ [])
last_entry known e h =
    ap (λ (b : Bool). if b then None else Some (put_entry e.0 e.1 known)) (last_new e.0 known h) ∙ ap Some (last_put e.0 e.1 known h)

pub entries_kept : (known es : List (PlainValue × PlainValue)) → Ascends (keys (known ++ es)) → with_entries known es ≡ Some (known ++ es)
entries_kept known [] up = ap Some (sym (append-nil known))
entries_kept known (e ∷ es) up =
    let same = append_assoc known (e ∷ []) es in
    ap (λ (o : Option (List (PlainValue × PlainValue))). o >>= λ l. with_entries l es) (last_entry known e (ends known e es up))
    ∙ entries_kept (known ++ e ∷ []) es (subst (λ (l : List (PlainValue × PlainValue)). Ascends (keys l)) (sym same) up) ∙ ap Some same

not_word : (n : ℤ) (w : List ℕ) → in_limits n ≡ true → starts_with_letter w ≡ true → (b : Bool) → bytes_eq (signed_decimal n) w ≡ b → b ≡ false
not_word n w h l true p = absurd (no_letter n h (ap starts_with_letter (bytes_eq-true (signed_decimal n) w p) ∙ l))
not_word n w h l false p = refl

-- the decimal text of a number is no word
pub number_no_word : (n : ℤ) (w : List ℕ) → in_limits n ≡ true → starts_with_letter w ≡ true → bytes_eq (signed_decimal n) w ≡ false
number_no_word n w h l = not_word n w h l (bytes_eq (signed_decimal n) w) refl

not_tag : (n : ℤ) → in_limits n ≡ true → (b : Bool) → is_tag (signed_decimal n) ≡ b → b ≡ false
not_tag n h true p = absurd (no_tag n h p)
not_tag n h false p = refl

-- nor a tag
pub number_no_tag : (n : ℤ) → in_limits n ≡ true → is_tag (signed_decimal n) ≡ false
number_no_tag n h = not_tag n h (is_tag (signed_decimal n)) refl

mutual
  pub value_back : (v : PlainValue) → IsCanonical v → is_spelled_value v ≡ true → spelled_value (value_spelling v) ≡ Some v
  value_back (int n) c h =
      let p = number_no_word n (codes "true") h refl in
      let q = number_no_word n (codes "false") h refl in
      let c = number_no_tag n h in
      let r = number_of-decimal n h in
      λ i. if p i then Some (bool true) else (if q i then Some (bool false) else (if c i then Some (tag (tag_name (signed_decimal n))) else option_map int (r i)))
  value_back (bool true) c h = refl
  value_back (bool false) c h = refl
  value_back (pair a b) c h =
      let r = and_parts (is_spelled_value a) (is_spelled_value b) h in
      let p = value_back a c.0 r.0 in
      let q = value_back b c.1 r.1 in
      λ i. both pair (p i) (q i)
  value_back (set vs) c h =
      ap (option_map set_of_all) (values_back vs c.1 h) ∙ ap (λ (l : List PlainValue). Some (set (row l))) (set_of-ascends (items vs) c.0) ∙ ap (λ (l : PlainValues). Some (set l)) (row_items vs)
  value_back (seq vs) c h = ap (option_map sequence_from) (values_back vs c h) ∙ ap (λ (l : PlainValues). Some (seq l)) (row_items vs)
  value_back (map_of es) c h =
      ap (λ (o : Option (List (PlainValue × PlainValue))). option_map map_from (distinct_entries o)) (entries_back es c.1 h)
      ∙ ap (option_map map_from) (entries_kept [] (entries es) c.0) ∙ ap (λ (l : PlainEntries). Some (map_of l)) (table_entries es)
  value_back (tag n) c h = tag_read n h

  pub values_back : (vs : PlainValues) → AreCanonical vs → are_spelled_values vs ≡ true → spelled_values (value_spellings vs) ≡ Some (items vs)
  values_back none c h = refl
  values_back (more v vs) c h =
      let r = and_parts (is_spelled_value v) (are_spelled_values vs) h in
      let p = value_back v c.0 r.0 in
      let q = values_back vs c.1 r.1 in
      λ i. p i >>= λ x. option_map (λ xs. x ∷ xs) (q i)

  pub entries_back : (es : PlainEntries) → EntriesAreCanonical es → are_spelled_entries es ≡ true → spelled_entries (entry_spellings es) ≡ Some (entries es)
  entries_back no_entry c h = refl
  entries_back (entry k v es) c h =
      let r = and_parts (is_spelled_value k && is_spelled_value v) (are_spelled_entries es) h in
      let s = and_parts (is_spelled_value k) (is_spelled_value v) r.0 in
      let p = value_back k c.0 s.0 in
      let q = value_back v c.1 s.1 in
      let u = entries_back es c.2 r.1 in
      λ i. both (λ x y. (x, y)) (p i) (q i) >>= λ e. option_map (λ l. e ∷ l) (u i)
