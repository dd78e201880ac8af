-- The value that a tree spells is the one that is read from it.
use Rattle.std.proofs.Common.{◌≡◌, inl, inr, ℕ, Bool, true, false, List, [], ◌∷◌, Option, Some, None, refl, sym, ap, ◌∙◌, subst}
use Rattle.std.specs.Prelude.{◌||◌, option_map, codes}
use Rattle.kid_sexp.specs.Plain as tree
use Rattle.kid_sexp.specs.Plain.{Plain, Plains, atom, list}
use Rattle.kid_value.specs.PlainValue.{PlainValue, int, bool, pair, set, seq, map_of, tag, PlainValues, none, more, PlainEntries, items, entries, row, table}
use Rattle.kid_value.specs.Rows.Kinds.{set_of_all, sequence_from, map_from}
use Rattle.kid_value.specs.SortOrder.{both}
use Rattle.kid_value.specs.ValueMap.{keys, lookup, put_entry}
use Rattle.kid_value.specs.ValueSet.{Ascends, value_eq, is_member, set_of}
use Rattle.kid_value.proofs.RowLemmas.{row_items, table_entries}
use Rattle.kid_value.proofs.RowMeaning.{is_member-set_of}
use Rattle.kid_value.proofs.ValueSetLaws.{Ascends-union, same_members, value_eq-itself, value_eq-true}
use Rattle.kid_codec.specs.Reading.{◌>>=◌}
use Rattle.kid_codec.specs.SpelledValue.{WordSpells, Spells, ListSpells, SpellTwo, SpellInOrder, EachSpellsMember, SomeSpells, SpellsEntry, EachSpellsEntry, SomeSpellsEntry, KeysDiffer}
use Rattle.kid_codec.specs.ValueSpelling.{atom_value, distinct_entries, value_of_parts, spelled_value, spelled_list, spelled_pair, spelled_values, spelled_entry, key_and_value, spelled_entries}
use Rattle.kid_codec.proofs.Found.{same_some, either_true, or_true}
use Rattle.kid_codec.proofs.JoinedMaps.{same_lookups, HasEntry, not_known, AreNew, put_away, joined}
use Rattle.kid_codec.proofs.NameLemmas.{tag_read}
use Rattle.kid_codec.proofs.ValueBack.{value_back}

word_read : (w : List ℕ) (v : PlainValue) → WordSpells w v → atom_value w ≡ Some v
word_read w (bool true) h = ap atom_value h
word_read w (bool false) h = ap atom_value h
word_read w (int n) h = ap atom_value h.0 ∙ value_back (int n) tt h.1
word_read w (tag n) h = ap atom_value h.0 ∙ tag_read n h.1
word_read w (pair a b) h = absurd h
word_read w (set vs) h = absurd h
word_read w (seq vs) h = absurd h
word_read w (map_of es) h = absurd h

same_truth : (b c : Bool) → (b ≡ true → c ≡ true) → (c ≡ true → b ≡ true) → b ≡ c
same_truth true c f g = sym (f refl)
same_truth false true f g = g refl
same_truth false false f g = refl

-- what trees were read as that each spell a member
record MembersRead (ts : Plains) (xs : List PlainValue) : Type 0 where
  values : List PlainValue
  read : spelled_values ts ≡ Some values
  within : (x : PlainValue) → is_member x values ≡ true → is_member x xs ≡ true
  back : (x : PlainValue) → SomeSpells ts x → is_member x values ≡ true

one_member : (t : Plain) (ts : Plains) (xs : List PlainValue) (v : PlainValue) → ((x : PlainValue) → Spells t x → spelled_value t ≡ Some x) → Spells t v → is_member v xs ≡ true → MembersRead ts xs
    → MembersRead (tree.more t ts) xs
one_member t ts xs v reads h m r = record {
  values = v ∷ r.values;
  read = let p = reads v h in let q = r.read in λ i. p i >>= λ x. option_map (λ (l : List PlainValue). x ∷ l) (q i);
  within = λ x p. elim (either_true (value_eq x v) (is_member x r.values) p) [
    | inl e ↦ ap (λ y. is_member y xs) (value_eq-true x v e) ∙ m
    | inr q ↦ r.within x q
  ];
  back = λ x s. elim s [
    | inl e ↦ ap (λ y. value_eq x y || is_member x r.values) (same_some v x (sym (reads v h) ∙ reads x e)) ∙ ap (λ b. b || is_member x r.values) (value_eq-itself x)
    | inr q ↦ or_true (value_eq x v) (is_member x r.values) (r.back x q)
  ];
}

set_read : (ts : Plains) (xs : List PlainValue) → Ascends xs → ((x : PlainValue) → is_member x xs ≡ true → SomeSpells ts x) → MembersRead ts xs → option_map set_of_all (spelled_values ts) ≡ Some (set (row xs))
set_read ts xs up some r =
    let same : set_of r.values ≡ xs
    = same_members (set_of r.values) xs (Ascends-union r.values [] tt) up
    (λ x. is_member-set_of x r.values ∙ same_truth (is_member x r.values) (is_member x xs) (r.within x) (λ p. r.back x (some x p)))
    in ap (option_map set_of_all) r.read ∙ ap (λ (l : List PlainValue). Some (set (row l))) same

-- what trees were read as that each spell an entry
record EntriesRead (ts : Plains) (m : List (PlainValue × PlainValue)) : Type 0 where
  found : List (PlainValue × PlainValue)
  read : spelled_entries ts ≡ Some found
  within : (k v : PlainValue) → HasEntry k v found → lookup k m ≡ Some v
  told : (k v : PlainValue) → HasEntry k v found → SomeSpellsEntry ts k v
  back : (k v : PlainValue) → SomeSpellsEntry ts k v → HasEntry k v found
  new : KeysDiffer ts → (known : List (PlainValue × PlainValue)) → ((k v : PlainValue) → HasEntry k v found → lookup k known ≡ None) → AreNew known found

one_entry : (t : Plain) (ts : Plains) (m : List (PlainValue × PlainValue)) (e : PlainValue × PlainValue) → ((k v : PlainValue) → SpellsEntry t k v → spelled_entry t ≡ Some (k, v)) → SpellsEntry t e.0 e.1 → lookup e.0 m ≡ Some e.1
    → EntriesRead ts m → EntriesRead (tree.more t ts) m
one_entry t ts m e reads h p r = record {
  found = e ∷ r.found;
  read = let a = reads e.0 e.1 h in let b = r.read in λ i. a i >>= λ x. option_map (λ (l : List (PlainValue × PlainValue)). x ∷ l) (b i);
  within = λ k v s. elim s [
    | inl q ↦ ap (λ (x : PlainValue × PlainValue). lookup x.0 m) (sym q) ∙ p ∙ ap (λ (x : PlainValue × PlainValue). Some x.1) q
    | inr q ↦ r.within k v q
  ];
  told = λ k v s. elim s [
    | inl q ↦ inl (subst (λ (x : PlainValue × PlainValue). SpellsEntry t x.0 x.1) q h)
    | inr q ↦ inr (r.told k v q)
  ];
  back = λ k v s. elim s [
    | inl q ↦ inl (same_some e (k, v) (sym (reads e.0 e.1 h) ∙ reads k v q))
    | inr q ↦ inr (r.back k v q)
  ];
  new = λ d known away. (
    away e.0 e.1 (inl refl),
    r.new d.1 (put_entry e.0 e.1 known)
        (λ k v q. put_away k e known (away k v (inr q)) (λ same. d.0 k e.1 v (subst (λ x. SpellsEntry t x e.1) (sym same) h) (r.told k v q))),
  );
}

map_read : (ts : Plains) (m : List (PlainValue × PlainValue)) → Ascends (keys m) → ((k v : PlainValue) → lookup k m ≡ Some v → SomeSpellsEntry ts k v) → KeysDiffer ts → EntriesRead ts m
    → option_map map_from (distinct_entries (spelled_entries ts)) ≡ Some (map_of (table m))
map_read ts m up some differ r =
    let j = joined [] r.found (r.new differ [] (λ k v q. refl)) tt in
    let same : j.whole ≡ m
    = same_lookups j.whole m j.up up (λ k v p. r.within k v (not_known k v r.found (j.has k v p))) (λ k v p. j.holds k v (r.back k v (some k v p))) in
    ap (λ (o : Option (List (PlainValue × PlainValue))). option_map map_from (distinct_entries o)) r.read
    ∙ ap (option_map map_from) j.made ∙ ap (λ (l : List (PlainValue × PlainValue)). Some (map_of (table l))) same

word_chosen : (w word : List ℕ) (ts : Plains) → w ≡ word → spelled_list (tree.more (atom w) ts) ≡ value_of_parts word (spelled_pair ts) (spelled_values ts) (spelled_entries ts)
word_chosen w word ts p = ap (λ (x : List ℕ). value_of_parts x (spelled_pair ts) (spelled_values ts) (spelled_entries ts)) p

mutual
  pub value_read : (t : Plain) (v : PlainValue) → Spells t v → spelled_value t ≡ Some v
  value_read (atom w) v h = word_read w v h
  value_read (list ts) v h = list_read ts v h

  list_read : (ts : Plains) (v : PlainValue) → ListSpells ts v → spelled_list ts ≡ Some v
  list_read tree.none v h = absurd h
  list_read (tree.more (list us) ts) v h = absurd h
  list_read (tree.more (atom w) ts) (pair a b) h = word_chosen w (codes "pair") ts h.0 ∙ two_read ts a b h.1
  list_read (tree.more (atom w) ts) (seq vs) h =
      word_chosen w (codes "seq") ts h.0 ∙ ap (option_map sequence_from) (order_read ts vs h.1) ∙ ap (λ (l : PlainValues). Some (seq l)) (row_items vs)
  list_read (tree.more (atom w) ts) (set vs) h =
      word_chosen w (codes "set") ts h.0 ∙ set_read ts (items vs) h.1 h.3 (members_read ts (items vs) h.2) ∙ ap (λ (l : PlainValues). Some (set l)) (row_items vs)
  list_read (tree.more (atom w) ts) (map_of es) h =
      word_chosen w (codes "map") ts h.0 ∙ map_read ts (entries es) h.1 h.3 h.4 (entries_read ts (entries es) h.2) ∙ ap (λ (l : PlainEntries). Some (map_of l)) (table_entries es)
  list_read (tree.more (atom w) ts) (bool b) h = absurd h
  list_read (tree.more (atom w) ts) (int n) h = absurd h
  list_read (tree.more (atom w) ts) (tag n) h = absurd h

  two_read : (ts : Plains) (a b : PlainValue) → SpellTwo ts a b → spelled_pair ts ≡ Some (pair a b)
  two_read tree.none a b h = absurd h
  two_read (tree.more s tree.none) a b h = absurd h
  two_read (tree.more s (tree.more t tree.none)) a b h = let p = value_read s a h.0 in let q = value_read t b h.1 in λ i. both pair (p i) (q i)
  two_read (tree.more s (tree.more t (tree.more u ts))) a b h = absurd h

  order_read : (ts : Plains) (vs : PlainValues) → SpellInOrder ts vs → spelled_values ts ≡ Some (items vs)
  order_read tree.none none h = refl
  order_read tree.none (more v vs) h = absurd h
  order_read (tree.more t ts) none h = absurd h
  order_read (tree.more t ts) (more v vs) h =
      let p = value_read t v h.0 in let q = order_read ts vs h.1 in λ i. p i >>= λ x. option_map (λ (l : List PlainValue). x ∷ l) (q i)

  members_read : (ts : Plains) (xs : List PlainValue) → EachSpellsMember ts xs → MembersRead ts xs
  members_read tree.none xs h = record { values = []; read = refl; within = λ x p. cc; back = λ x s. absurd s }
  members_read (tree.more t ts) xs h = one_member t ts xs h.0.0 (λ x s. value_read t x s) h.0.1 h.0.2 (members_read ts xs h.1)

  entry_read : (t : Plain) (k v : PlainValue) → SpellsEntry t k v → spelled_entry t ≡ Some (k, v)
  entry_read (atom w) k v h = absurd h
  entry_read (list ts) k v h = key_read ts k v h

  key_read : (ts : Plains) (k v : PlainValue) → SpellTwo ts k v → key_and_value ts ≡ Some (k, v)
  key_read tree.none k v h = absurd h
  key_read (tree.more s tree.none) k v h = absurd h
  key_read (tree.more s (tree.more t tree.none)) k v h = let p = value_read s k h.0 in let q = value_read t v h.1 in λ i. both (λ x y. (x, y)) (p i) (q i)
  key_read (tree.more s (tree.more t (tree.more u ts))) k v h = absurd h

  entries_read : (ts : Plains) (m : List (PlainValue × PlainValue)) → EachSpellsEntry ts m → EntriesRead ts m
  entries_read tree.none m h = record { found = []; read = refl; within = λ k v p. absurd p; told = λ k v p. absurd p; back = λ k v p. absurd p; new = λ d known away. tt }
  entries_read (tree.more t ts) m h = one_entry t ts m (h.0.0, h.0.1) (λ k v s. entry_read t k v s) h.0.2 h.0.3 (entries_read ts m h.1)

-- an entry as the tree spells it is the one that is read
pub entry_is_read : (t : Plain) (k v : PlainValue) → SpellsEntry t k v → spelled_entry t ≡ Some (k, v)
entry_is_read t k v h = entry_read t k v h

-- a tree spells one value at most
pub spelled_once : (t : Plain) (v w : PlainValue) → Spells t v → Spells t w → v ≡ w
spelled_once t v w p q = same_some v w (sym (value_read t v p) ∙ value_read t w q)
