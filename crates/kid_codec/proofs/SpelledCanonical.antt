-- What a tree spells is canonical.
use Rattle.std.proofs.Common.{◌≡◌, inl, inr, ℕ, true, List, Some, ap}
use Rattle.std.specs.Prelude.{◌||◌}
use Rattle.kid_sexp.specs.Plain as tree
use Rattle.kid_sexp.specs.Plain.{Plain, Plains, atom, list}
use Rattle.kid_value.specs.Canonical.{IsCanonical, AreCanonical, EntriesAreCanonical}
use Rattle.kid_value.specs.PlainValue.{PlainValue, int, bool, pair, set, seq, map_of, tag, PlainValues, none, more, PlainEntries, no_entry, entry, items, entries}
use Rattle.kid_value.specs.ValueMap.{keys, lookup}
use Rattle.kid_value.specs.ValueSet.{Ascends, value_eq, is_member}
use Rattle.kid_value.proofs.ValueSetLaws.{value_eq-itself}
use Rattle.kid_codec.specs.SpelledValue.{WordSpells, Spells, ListSpells, SpellTwo, SpellInOrder, SomeSpells, SpellsEntry, SomeSpellsEntry}
use Rattle.kid_codec.proofs.Found.{or_true}
use Rattle.kid_codec.proofs.JoinedMaps.{lookup-first, lookup-behind}

word_canonical : (w : List ℕ) (v : PlainValue) → WordSpells w v → IsCanonical v
word_canonical w (int n) h = tt
word_canonical w (bool b) h = tt
word_canonical w (tag n) h = tt
word_canonical w (pair a b) h = absurd h
word_canonical w (set vs) h = absurd h
word_canonical w (seq vs) h = absurd h
word_canonical w (map_of es) h = absurd h

all_canonical : (vs : PlainValues) → ((x : PlainValue) → is_member x (items vs) ≡ true → IsCanonical x) → AreCanonical vs
all_canonical none f = tt
all_canonical (more v vs) f = (f v (ap (λ b. b || is_member v (items vs)) (value_eq-itself v)), all_canonical vs (λ x p. f x (or_true (value_eq x v) (is_member x (items vs)) p)))

entries_canonical : (es : PlainEntries) → Ascends (keys (entries es)) → ((k v : PlainValue) → lookup k (entries es) ≡ Some v → IsCanonical k × IsCanonical v) → EntriesAreCanonical es
entries_canonical no_entry up f = tt
entries_canonical (entry k v es) up f =
    let r = f k v (lookup-first (k, v) (entries es)) in
    (r.0, r.1, entries_canonical es up.1 (λ x y p. f x y (lookup-behind (k, v) (entries es) x y up.0 p)))

mutual
  pub canonical : (t : Plain) (v : PlainValue) → Spells t v → IsCanonical v
  canonical (atom w) v h = word_canonical w v h
  canonical (list ts) v h = list_canonical ts v h

  list_canonical : (ts : Plains) (v : PlainValue) → ListSpells ts v → IsCanonical v
  list_canonical tree.none v h = absurd h
  list_canonical (tree.more (list us) ts) v h = absurd h
  list_canonical (tree.more (atom w) ts) (pair a b) h = two_canonical ts a b h.1
  list_canonical (tree.more (atom w) ts) (seq vs) h = order_canonical ts vs h.1
  list_canonical (tree.more (atom w) ts) (set vs) h = (h.1, all_canonical vs (λ x p. some_canonical ts x (h.3 x p)))
  list_canonical (tree.more (atom w) ts) (map_of es) h = (h.1, entries_canonical es h.1 (λ k v p. some_entry_canonical ts k v (h.3 k v p)))
  list_canonical (tree.more (atom w) ts) (bool b) h = absurd h
  list_canonical (tree.more (atom w) ts) (int n) h = absurd h
  list_canonical (tree.more (atom w) ts) (tag n) h = absurd h

  two_canonical : (ts : Plains) (a b : PlainValue) → SpellTwo ts a b → IsCanonical a × IsCanonical b
  two_canonical tree.none a b h = absurd h
  two_canonical (tree.more s tree.none) a b h = absurd h
  two_canonical (tree.more s (tree.more t tree.none)) a b h = (canonical s a h.0, canonical t b h.1)
  two_canonical (tree.more s (tree.more t (tree.more u ts))) a b h = absurd h

  order_canonical : (ts : Plains) (vs : PlainValues) → SpellInOrder ts vs → AreCanonical vs
  order_canonical tree.none none h = tt
  order_canonical tree.none (more v vs) h = absurd h
  order_canonical (tree.more t ts) none h = absurd h
  order_canonical (tree.more t ts) (more v vs) h = (canonical t v h.0, order_canonical ts vs h.1)

  some_canonical : (ts : Plains) (v : PlainValue) → SomeSpells ts v → IsCanonical v
  some_canonical tree.none v h = absurd h
  some_canonical (tree.more t ts) v h = elim h [ inl p ↦ canonical t v p | inr q ↦ some_canonical ts v q ]

  entry_canonical : (t : Plain) (k v : PlainValue) → SpellsEntry t k v → IsCanonical k × IsCanonical v
  entry_canonical (atom w) k v h = absurd h
  entry_canonical (list ts) k v h = two_canonical ts k v h

  some_entry_canonical : (ts : Plains) (k v : PlainValue) → SomeSpellsEntry ts k v → IsCanonical k × IsCanonical v
  some_entry_canonical tree.none k v h = absurd h
  some_entry_canonical (tree.more t ts) k v h = elim h [ inl p ↦ entry_canonical t k v p | inr q ↦ some_entry_canonical ts k v q ]
