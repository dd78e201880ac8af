-- What is read from a tree is a value that it spells.
use Rattle.std.proofs.Common.{◌≡◌, inl, inr, ℕ, true, false, List, [], ◌∷◌, Option, Some, None, refl, sym, ap, ◌∙◌, subst}
use Rattle.std.specs.Prelude.{◌||◌, option_map, if◌then◌else◌, codes}
use Rattle.std.specs.Str.{bytes_eq}
use Rattle.kid_sexp.specs.Plain as tree
use Rattle.kid_sexp.specs.Plain.{Plain, Plains, atom, list}
use Rattle.kid_value.specs.PlainValue.{PlainValue, int, bool, pair, tag, items, entries, row, table}
use Rattle.kid_value.specs.Rows.Kinds.{set_of_all, sequence_from, map_from}
use Rattle.kid_value.specs.SortOrder.{both}
use Rattle.kid_value.specs.ValueMap.{keys, lookup, put_entry}
use Rattle.kid_value.specs.ValueSet.{Ascends, value_eq, is_member, set_of}
use Rattle.kid_value.proofs.RowLemmas.{items_row, entries_table}
use Rattle.kid_value.proofs.RowMeaning.{is_member-set_of}
use Rattle.kid_value.proofs.ValueSetLaws.{Ascends-union, value_eq-itself, value_eq-true}
use Rattle.kid_codec.specs.NameSpelling.{is_tag, tag_name}
use Rattle.kid_codec.specs.Number.{number_of}
use Rattle.kid_codec.specs.SpelledValue.{WordSpells, Spells, ListSpells, SpellTwo, SpellInOrder, EachSpellsMember, SomeSpells, SpellsEntry, EachSpellsEntry, SomeSpellsEntry, KeysDiffer}
use Rattle.kid_codec.specs.ValueSpelling.{atom_value, with_entries, distinct_entries, value_of_parts, spelled_value, spelled_list, spelled_pair, spelled_values, spelled_entry, key_and_value, spelled_entries}
use Rattle.kid_codec.proofs.Found.{same_some, either_true, or_true, if_some, if_else, mapped, both_some, bind_some, number_from}
use Rattle.kid_codec.proofs.JoinedMaps.{HasEntry, not_known, AreNew, put_at, new_key, are_new, joined}
use Rattle.kid_codec.proofs.Numbers.{bytes_eq-true}
use Rattle.kid_codec.proofs.NameLemmas.{tag_told}
use Rattle.kid_codec.proofs.SpelledRead.{entry_is_read}

word_told : (w : List ℕ) (v : PlainValue) → atom_value w ≡ Some v → WordSpells w v
word_told w v p =
    let m = option_map int (number_of w) in
    let n = if is_tag w then Some (tag (tag_name w)) else m in
    elim (if_else (bytes_eq w (codes "true")) (Some (bool true)) (if bytes_eq w (codes "false") then Some (bool false) else n) v p) [
      | inl r ↦ subst (WordSpells w) (same_some (bool true) v r.1) (bytes_eq-true w (codes "true") r.0)
      | inr r ↦ elim (if_else (bytes_eq w (codes "false")) (Some (bool false)) n v r.1) [
        | inl q ↦ subst (WordSpells w) (same_some (bool false) v q.1) (bytes_eq-true w (codes "false") q.0)
        | inr q ↦ elim (if_else (is_tag w) (Some (tag (tag_name w))) m v q.1) [
          | inl o ↦ subst (WordSpells w) (same_some (tag (tag_name w)) v o.1) (tag_told w o.0)
          | inr o ↦ let f = mapped int (number_of w) v o.1 in subst (WordSpells w) f.2 (number_from w f.0 f.1)
        ]
      ]
    ]

-- ---- trees that spell values one by one

each_member : (ts : Plains) (vs xs : List PlainValue) → SpellInOrder ts (row vs) → ((x : PlainValue) → is_member x vs ≡ true → is_member x xs ≡ true) → EachSpellsMember ts xs
each_member tree.none vs xs h within = tt
each_member (tree.more t ts) [] xs h within = absurd h
each_member (tree.more t ts) (v ∷ vs) xs h within = (
  (v, h.0, within v (ap (λ b. b || is_member v vs) (value_eq-itself v))),
  each_member ts vs xs h.1 (λ x p. within x (or_true (value_eq x v) (is_member x vs) p)),
)

some_member : (ts : Plains) (vs : List PlainValue) (x : PlainValue) → SpellInOrder ts (row vs) → is_member x vs ≡ true → SomeSpells ts x
some_member tree.none [] x h p = cc
some_member tree.none (v ∷ vs) x h p = absurd h
some_member (tree.more t ts) [] x h p = absurd h
some_member (tree.more t ts) (v ∷ vs) x h p =
    elim (either_true (value_eq x v) (is_member x vs) p) [
      | inl e ↦ inl (subst (Spells t) (sym (value_eq-true x v e)) h.0)
      | inr q ↦ inr (some_member ts vs x h.1 q)
    ]

set_told : (w : List ℕ) (ts : Plains) (vs : List PlainValue) → w ≡ codes "set" → SpellInOrder ts (row vs) → ListSpells (tree.more (atom w) ts) (set_of_all vs)
set_told w ts vs p h =
    let is : set_of vs ≡ items (row (set_of vs)) = sym (items_row (set_of vs)) in (
      p,
      subst Ascends is (Ascends-union vs [] tt),
      each_member ts vs (items (row (set_of vs))) h (λ x q. ap (is_member x) (sym is) ∙ is_member-set_of x vs ∙ q),
      λ x q. some_member ts vs x h (sym (is_member-set_of x vs) ∙ ap (is_member x) is ∙ q),
    )

-- ---- trees that spell entries one by one

abbrev EntriesInOrder : Plains → List (PlainValue × PlainValue) → Type 0
EntriesInOrder tree.none [] = Unit {0}
EntriesInOrder (tree.more t ts) (e ∷ es) = SpellsEntry t e.0 e.1 × EntriesInOrder ts es
EntriesInOrder ts es = ⊥

each_entry : (ts : Plains) (es m : List (PlainValue × PlainValue)) → EntriesInOrder ts es → ((k v : PlainValue) → HasEntry k v es → lookup k m ≡ Some v) → EachSpellsEntry ts m
each_entry tree.none es m h within = tt
each_entry (tree.more t ts) [] m h within = absurd h
each_entry (tree.more t ts) (e ∷ es) m h within = ((e.0, e.1, h.0, within e.0 e.1 (inl refl)), each_entry ts es m h.1 (λ k v p. within k v (inr p)))

some_entry : (ts : Plains) (es : List (PlainValue × PlainValue)) (k v : PlainValue) → EntriesInOrder ts es → HasEntry k v es → SomeSpellsEntry ts k v
some_entry tree.none [] k v h p = p
some_entry tree.none (e ∷ es) k v h p = absurd h
some_entry (tree.more t ts) [] k v h p = absurd h
some_entry (tree.more t ts) (e ∷ es) k v h p =
    elim p [
      | inl q ↦ inl (subst (λ (x : PlainValue × PlainValue). SpellsEntry t x.0 x.1) q h.0)
      | inr q ↦ inr (some_entry ts es k v h.1 q)
    ]

one_entry : (t : Plain) (e : PlainValue × PlainValue) (k v : PlainValue) → SpellsEntry t e.0 e.1 → SpellsEntry t k v → e ≡ (k, v)
one_entry t e k v p q = same_some e (k, v) (sym (entry_is_read t e.0 e.1 p) ∙ entry_is_read t k v q)

entry_found : (ts : Plains) (es : List (PlainValue × PlainValue)) (k v : PlainValue) → EntriesInOrder ts es → SomeSpellsEntry ts k v → HasEntry k v es
entry_found tree.none es k v h p = absurd p
entry_found (tree.more t ts) [] k v h p = absurd h
entry_found (tree.more t ts) (e ∷ es) k v h p = elim p [ inl q ↦ inl (one_entry t e k v h.0 q) | inr q ↦ inr (entry_found ts es k v h.1 q) ]

two_values : (o : Option PlainValue) (v : PlainValue) → o ≡ None → o ≡ Some v → ⊥
two_values o v p q = cc

keys_differ : (ts : Plains) (known es : List (PlainValue × PlainValue)) → EntriesInOrder ts es → AreNew known es → KeysDiffer ts
keys_differ tree.none known es h n = tt
keys_differ (tree.more t ts) known [] h n = absurd h
keys_differ (tree.more t ts) known (e ∷ es) h n = (
  λ k v w p q. two_values (lookup k (put_entry e.0 e.1 known)) v (new_key k w (put_entry e.0 e.1 known) es n.1 (entry_found ts es k w h.1 q)) (put_at k v e known (one_entry t e k v h.0 p)),
  keys_differ ts (put_entry e.0 e.1 known) es h.1 n.1,
)

map_told : (w : List ℕ) (ts : Plains) (es m : List (PlainValue × PlainValue)) → w ≡ codes "map" → EntriesInOrder ts es → with_entries [] es ≡ Some m → ListSpells (tree.more (atom w) ts) (map_from m)
map_told w ts es m p h q =
    let n = are_new [] es m q in
    let j = joined [] es n tt in
    let is : j.whole ≡ entries (table m) = same_some j.whole m (sym j.made ∙ q) ∙ sym (entries_table m) in (
      p,
      subst (λ (l : List (PlainValue × PlainValue)). Ascends (keys l)) is j.up,
      each_entry ts es (entries (table m)) h (λ k v r. ap (lookup k) (sym is) ∙ j.holds k v r),
      λ k v r. some_entry ts es k v h (not_known k v es (j.has k v (ap (lookup k) is ∙ r))),
      keys_differ ts [] es h n,
    )

-- ---- trees

abbrev Told : Plain → Type 0
Told t = (v : PlainValue) → spelled_value t ≡ Some v → Spells t v

abbrev Two : Plains → PlainValue → Type 0
Two ts v = (a : PlainValue) × (b : PlainValue) × (pair a b ≡ v) × SpellTwo ts a b

abbrev PairTold : Plains → Type 0
PairTold ts = (v : PlainValue) → spelled_pair ts ≡ Some v → Two ts v

abbrev ValuesTold : Plains → Type 0
ValuesTold ts = (vs : List PlainValue) → spelled_values ts ≡ Some vs → SpellInOrder ts (row vs)

abbrev EntriesTold : Plains → Type 0
EntriesTold ts = (es : List (PlainValue × PlainValue)) → spelled_entries ts ≡ Some es → EntriesInOrder ts es

parts_told : (w : List ℕ) (ts : Plains) (v : PlainValue) → PairTold ts → ValuesTold ts → EntriesTold ts
    → value_of_parts w (spelled_pair ts) (spelled_values ts) (spelled_entries ts) ≡ Some v → ListSpells (tree.more (atom w) ts) v
parts_told w ts v f g h p =
    let j = option_map set_of_all (spelled_values ts) in
    let l = option_map sequence_from (spelled_values ts) in
    let n = option_map map_from (distinct_entries (spelled_entries ts)) in
    elim (if_else (bytes_eq w (codes "pair")) (spelled_pair ts) (if bytes_eq w (codes "set") then j else (if bytes_eq w (codes "seq") then l else (if bytes_eq w (codes "map") then n else None))) v p) [
      | inl r ↦ let m = f v r.1 in subst (ListSpells (tree.more (atom w) ts)) m.2 (bytes_eq-true w (codes "pair") r.0, m.3)
      | inr r ↦ elim (if_else (bytes_eq w (codes "set")) j (if bytes_eq w (codes "seq") then l else (if bytes_eq w (codes "map") then n else None)) v r.1) [
        | inl q ↦ let m = mapped set_of_all (spelled_values ts) v q.1 in subst (ListSpells (tree.more (atom w) ts)) m.2 (set_told w ts m.0 (bytes_eq-true w (codes "set") q.0) (g m.0 m.1))
        | inr q ↦ elim (if_else (bytes_eq w (codes "seq")) l (if bytes_eq w (codes "map") then n else None) v q.1) [
          | inl o ↦ let m = mapped sequence_from (spelled_values ts) v o.1 in subst (ListSpells (tree.more (atom w) ts)) m.2 (bytes_eq-true w (codes "seq") o.0, g m.0 m.1)
          | inr o ↦
              let i = if_some (bytes_eq w (codes "map")) n v o.1 in
              let m = mapped map_from (distinct_entries (spelled_entries ts)) v i.1 in
              let b = bind_some (spelled_entries ts) (with_entries []) m.0 m.1 in
              subst (ListSpells (tree.more (atom w) ts)) m.2 (map_told w ts b.0 m.0 (bytes_eq-true w (codes "map") i.0) (h b.0 b.1) b.2)
        ]
      ]
    ]

both_told : (s t : Plain) (v : PlainValue) → Told s → Told t → both pair (spelled_value s) (spelled_value t) ≡ Some v → Two (tree.more s (tree.more t tree.none)) v
both_told s t v f g p = let m = both_some pair (spelled_value s) (spelled_value t) v p in (m.0, m.1, m.4, (f m.0 m.2, g m.1 m.3))

couple_told : (s t : Plain) (e : PlainValue × PlainValue) → Told s → Told t → both (λ k v. (k, v)) (spelled_value s) (spelled_value t) ≡ Some e → SpellTwo (tree.more s (tree.more t tree.none)) e.0 e.1
couple_told s t e f g p =
    let joins : PlainValue → PlainValue → PlainValue × PlainValue = λ k v. (k, v) in
    let m = both_some joins (spelled_value s) (spelled_value t) e p in
    subst (λ (x : PlainValue × PlainValue). SpellTwo (tree.more s (tree.more t tree.none)) x.0 x.1) m.4 (f m.0 m.2, g m.1 m.3)

more_told : (t : Plain) (ts : Plains) (vs : List PlainValue) → Told t → ValuesTold ts → spelled_values (tree.more t ts) ≡ Some vs → SpellInOrder (tree.more t ts) (row vs)
more_told t ts vs f g p =
    let m = bind_some (spelled_value t) (λ (v : PlainValue). option_map (λ (l : List PlainValue). v ∷ l) (spelled_values ts)) vs p in
    let x : PlainValue = m.0 in
    let n = mapped (λ (l : List PlainValue). x ∷ l) (spelled_values ts) vs m.2 in
    subst (λ (l : List PlainValue). SpellInOrder (tree.more t ts) (row l)) n.2 (f x m.1, g n.0 n.1)

abbrev EntryTold : Plain → Type 0
EntryTold t = (e : PlainValue × PlainValue) → spelled_entry t ≡ Some e → SpellsEntry t e.0 e.1

more_entries_told : (t : Plain) (ts : Plains) (es : List (PlainValue × PlainValue)) → EntryTold t → EntriesTold ts → spelled_entries (tree.more t ts) ≡ Some es → EntriesInOrder (tree.more t ts) es
more_entries_told t ts es f g p =
    let m = bind_some (spelled_entry t) (λ (v : PlainValue × PlainValue). option_map (λ (l : List (PlainValue × PlainValue)). v ∷ l) (spelled_entries ts)) es p in
    let x : PlainValue × PlainValue = m.0 in
    let n = mapped (λ (l : List (PlainValue × PlainValue)). x ∷ l) (spelled_entries ts) es m.2 in
    subst (EntriesInOrder (tree.more t ts)) n.2 (f x m.1, g n.0 n.1)

mutual
  pub value_told : (t : Plain) (v : PlainValue) → spelled_value t ≡ Some v → Spells t v
  value_told (atom w) v p = word_told w v p
  value_told (list ts) v p = list_told ts v p

  list_told : (ts : Plains) (v : PlainValue) → spelled_list ts ≡ Some v → ListSpells ts v
  list_told tree.none v p = cc
  list_told (tree.more (list us) ts) v p = cc
  list_told (tree.more (atom w) ts) v p = parts_told w ts v (λ x q. pair_told ts x q) (λ x q. values_told ts x q) (λ x q. entries_told ts x q) p

  pair_told : (ts : Plains) (v : PlainValue) → spelled_pair ts ≡ Some v → Two ts v
  pair_told tree.none v p = cc
  pair_told (tree.more s tree.none) v p = cc
  pair_told (tree.more s (tree.more t tree.none)) v p = both_told s t v (λ x q. value_told s x q) (λ x q. value_told t x q) p
  pair_told (tree.more s (tree.more t (tree.more u ts))) v p = cc

  values_told : (ts : Plains) (vs : List PlainValue) → spelled_values ts ≡ Some vs → SpellInOrder ts (row vs)
  values_told tree.none vs p = subst (λ (l : List PlainValue). SpellInOrder tree.none (row l)) (same_some [] vs p) tt
  values_told (tree.more t ts) vs p = more_told t ts vs (λ x q. value_told t x q) (λ x q. values_told ts x q) p

  entry_told : (t : Plain) (e : PlainValue × PlainValue) → spelled_entry t ≡ Some e → SpellsEntry t e.0 e.1
  entry_told (atom w) e p = cc
  entry_told (list ts) e p = key_told ts e p

  key_told : (ts : Plains) (e : PlainValue × PlainValue) → key_and_value ts ≡ Some e → SpellTwo ts e.0 e.1
  key_told tree.none e p = cc
  key_told (tree.more s tree.none) e p = cc
  key_told (tree.more s (tree.more t tree.none)) e p = couple_told s t e (λ x q. value_told s x q) (λ x q. value_told t x q) p
  key_told (tree.more s (tree.more t (tree.more u ts))) e p = cc

  entries_told : (ts : Plains) (es : List (PlainValue × PlainValue)) → spelled_entries ts ≡ Some es → EntriesInOrder ts es
  entries_told tree.none es p = subst (EntriesInOrder tree.none) (same_some [] es p) tt
  entries_told (tree.more t ts) es p = more_entries_told t ts es (λ x q. entry_told t x q) (λ x q. entries_told ts x q) p
