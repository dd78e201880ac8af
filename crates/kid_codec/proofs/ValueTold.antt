-- What a tree spells has a spelling.
use Rattle.std.proofs.Common.{◌≡◌, inl, inr, ℕ, Bool, true, false, List, [], ◌∷◌, Some, None, refl, sym, ap, ◌∙◌}
use Rattle.std.specs.Prelude.{◌&&◌, option_map, if◌then◌else◌, codes}
use Rattle.std.specs.declared.cmp.Ordering.{Ordering}
use Rattle.std.specs.declared.cmp.Ordering.TheVariants.{Less, Equal, Greater}
use Rattle.std.specs.Str.{bytes_eq}
use Rattle.kid_sexp.specs.Plain as tree
use Rattle.kid_sexp.specs.Plain.{Plain, Plains, atom, list}
use Rattle.kid_value.specs.SortOrder.{both}
use Rattle.kid_value.specs.PlainValue.{PlainValue, int, bool, pair, tag, row, table}
use Rattle.kid_value.specs.ValueMap.{put_entry, put_entry_by}
use Rattle.kid_value.specs.ValueOrder.{value_cmp}
use Rattle.kid_value.specs.ValueSet.{put, put_by, set_of}
use Rattle.kid_value.proofs.SortLemmas.{and_parts, and_both}
use Rattle.kid_codec.specs.NameSpelling.{is_tag, tag_name}
use Rattle.kid_codec.specs.Number.{number_of}
use Rattle.kid_value.specs.Rows.Kinds.{set_of_all, sequence_from, map_from}
use Rattle.kid_codec.specs.ValueSpelling.{is_spelled_value, are_spelled_values, are_spelled_entries, atom_value, with_entry, with_entries, distinct_entries, value_of_parts, spelled_value, spelled_list, spelled_pair, spelled_values, spelled_entry, key_and_value, spelled_entries}
use Rattle.kid_codec.proofs.NameLemmas.{tag_told}
use Rattle.kid_codec.proofs.Found.{same_some, if_some, if_else, mapped, both_some, bind_some, number_from}

abbrev is_spelled_entry : PlainValue × PlainValue → Bool
is_spelled_entry e = is_spelled_value e.0 && is_spelled_value e.1

put_by_spelled : (o : Ordering) (v w : PlainValue) (vs more : List PlainValue) → is_spelled_value v ≡ true → is_spelled_value w ≡ true → are_spelled_values (row vs) ≡ true → are_spelled_values (row more) ≡ true
    → are_spelled_values (row (put_by o v w vs more)) ≡ true
put_by_spelled Less v w vs more a b c d = and_both (is_spelled_value v) (are_spelled_values (row (w ∷ vs))) a (and_both (is_spelled_value w) (are_spelled_values (row vs)) b c)
put_by_spelled Equal v w vs more a b c d = and_both (is_spelled_value w) (are_spelled_values (row vs)) b c
put_by_spelled Greater v w vs more a b c d = and_both (is_spelled_value w) (are_spelled_values (row more)) b d

put_spelled : (v : PlainValue) (vs : List PlainValue) → is_spelled_value v ≡ true → are_spelled_values (row vs) ≡ true → are_spelled_values (row (put v vs)) ≡ true
put_spelled v [] a b = and_both (is_spelled_value v) true a refl
put_spelled v (w ∷ vs) a b =
    let r = and_parts (is_spelled_value w) (are_spelled_values (row vs)) b in
    put_by_spelled (value_cmp v w) v w vs (put v vs) a r.0 r.1 (put_spelled v vs a r.1)

set_spelled : (vs : List PlainValue) → are_spelled_values (row vs) ≡ true → are_spelled_values (row (set_of vs)) ≡ true
set_spelled [] h = refl
set_spelled (v ∷ vs) h = let r = and_parts (is_spelled_value v) (are_spelled_values (row vs)) h in put_spelled v (set_of vs) r.0 (set_spelled vs r.1)

put_entry_by_spelled : (o : Ordering) (k v : PlainValue) (e : PlainValue × PlainValue) (es more : List (PlainValue × PlainValue)) → is_spelled_entry (k, v) ≡ true → is_spelled_entry e ≡ true → are_spelled_entries (table es) ≡ true
    → are_spelled_entries (table more) ≡ true → are_spelled_entries (table (put_entry_by o k v e es more)) ≡ true
put_entry_by_spelled Less k v e es more a b c d = and_both (is_spelled_entry (k, v)) (are_spelled_entries (table (e ∷ es))) a (and_both (is_spelled_entry e) (are_spelled_entries (table es)) b c)
put_entry_by_spelled Equal k v e es more a b c d = and_both (is_spelled_entry (k, v)) (are_spelled_entries (table es)) a c
put_entry_by_spelled Greater k v e es more a b c d = and_both (is_spelled_entry e) (are_spelled_entries (table more)) b d

put_entry_spelled : (k v : PlainValue) (es : List (PlainValue × PlainValue)) → is_spelled_entry (k, v) ≡ true → are_spelled_entries (table es) ≡ true → are_spelled_entries (table (put_entry k v es)) ≡ true
put_entry_spelled k v [] a b = and_both (is_spelled_entry (k, v)) true a refl
put_entry_spelled k v (e ∷ es) a b =
    let r = and_parts (is_spelled_entry e) (are_spelled_entries (table es)) b in
    put_entry_by_spelled (value_cmp k e.0) k v e es (put_entry k v es) a r.0 r.1 (put_entry_spelled k v es a r.1)

chosen : {A : Type 0} (b : Bool) (x z : A) → (if b then None else Some x) ≡ Some z → x ≡ z
chosen true x z p = cc
chosen false x z p = same_some x z p

entries_kept : (known es more : List (PlainValue × PlainValue)) → are_spelled_entries (table known) ≡ true → are_spelled_entries (table es) ≡ true → with_entries known es ≡ Some more → are_spelled_entries (table more) ≡ true
entries_kept known [] more a b p = ap (λ (l : List (PlainValue × PlainValue)). are_spelled_entries (table l)) (sym (same_some known more p)) ∙ a
entries_kept known (e ∷ es) more a b p =
    let m = bind_some (with_entry known e) (λ (l : List (PlainValue × PlainValue)). with_entries l es) more p in
    let r = and_parts (is_spelled_entry e) (are_spelled_entries (table es)) b in
    let is = chosen _ (put_entry e.0 e.1 known) m.0 m.1 in
    entries_kept m.0 es more (ap (λ (l : List (PlainValue × PlainValue)). are_spelled_entries (table l)) (sym is) ∙ put_entry_spelled e.0 e.1 known r.0 a) r.1 m.2

atom_spelled : (w : List ℕ) (v : PlainValue) → atom_value w ≡ Some v → is_spelled_value v ≡ true
atom_spelled w v p =
    let m = option_map int (number_of w) in
    let n = if is_tag w then Some (tag (tag_name w)) else m in
    elim (if_else (bytes_eq w (codes "true")) (Some (bool true)) (if bytes_eq w (codes "false") then Some (bool false) else n) v p) [
      | inl r ↦ ap is_spelled_value (sym (same_some (bool true) v r.1))
      | inr r ↦ elim (if_else (bytes_eq w (codes "false")) (Some (bool false)) n v r.1) [
        | inl q ↦ ap is_spelled_value (sym (same_some (bool false) v q.1))
        | inr q ↦ elim (if_else (is_tag w) (Some (tag (tag_name w))) m v q.1) [
          | inl o ↦ ap is_spelled_value (sym (same_some (tag (tag_name w)) v o.1)) ∙ (tag_told w o.0).1
          | inr o ↦ let f = mapped int (number_of w) v o.1 in ap is_spelled_value (sym f.2) ∙ (number_from w f.0 f.1).1
        ]
      ]
    ]

abbrev Spelled : Plain → Type 0
Spelled t = (v : PlainValue) → spelled_value t ≡ Some v → is_spelled_value v ≡ true

abbrev PairSpelled : Plains → Type 0
PairSpelled ts = (v : PlainValue) → spelled_pair ts ≡ Some v → is_spelled_value v ≡ true

abbrev ValuesSpelled : Plains → Type 0
ValuesSpelled ts = (vs : List PlainValue) → spelled_values ts ≡ Some vs → are_spelled_values (row vs) ≡ true

abbrev EntriesSpelled : Plains → Type 0
EntriesSpelled ts = (es : List (PlainValue × PlainValue)) → spelled_entries ts ≡ Some es → are_spelled_entries (table es) ≡ true

parts_spelled : (w : List ℕ) (ts : Plains) (v : PlainValue) → PairSpelled ts → ValuesSpelled ts → EntriesSpelled ts
    → value_of_parts w (spelled_pair ts) (spelled_values ts) (spelled_entries ts) ≡ Some v → is_spelled_value v ≡ true
parts_spelled w ts v f g k p =
    let j = option_map set_of_all (spelled_values ts) in
    let l = option_map sequence_from (spelled_values ts) in
    let n = option_map map_from (distinct_entries (spelled_entries ts)) in
    elim (if_else (bytes_eq w (codes "pair")) (spelled_pair ts) (if bytes_eq w (codes "set") then j else (if bytes_eq w (codes "seq") then l else (if bytes_eq w (codes "map") then n else None))) v p) [
      | inl r ↦ f v r.1
      | inr r ↦ elim (if_else (bytes_eq w (codes "set")) j (if bytes_eq w (codes "seq") then l else (if bytes_eq w (codes "map") then n else None)) v r.1) [
        | inl q ↦ let m = mapped set_of_all (spelled_values ts) v q.1 in ap is_spelled_value (sym m.2) ∙ set_spelled m.0 (g m.0 m.1)
        | inr q ↦ elim (if_else (bytes_eq w (codes "seq")) l (if bytes_eq w (codes "map") then n else None) v q.1) [
          | inl o ↦ let m = mapped sequence_from (spelled_values ts) v o.1 in ap is_spelled_value (sym m.2) ∙ g m.0 m.1
          | inr o ↦
              let i = if_some (bytes_eq w (codes "map")) n v o.1 in
              let m = mapped map_from (distinct_entries (spelled_entries ts)) v i.1 in
              let b = bind_some (spelled_entries ts) (with_entries []) m.0 m.1 in
              ap is_spelled_value (sym m.2) ∙ entries_kept [] b.0 m.0 refl (k b.0 b.1) b.2
        ]
      ]
    ]

both_spelled : (s t : Plain) (v : PlainValue) → Spelled s → Spelled t → both pair (spelled_value s) (spelled_value t) ≡ Some v → is_spelled_value v ≡ true
both_spelled s t v f g p =
    let m = both_some pair (spelled_value s) (spelled_value t) v p in
    ap is_spelled_value (sym m.4) ∙ and_both (is_spelled_value m.0) (is_spelled_value m.1) (f m.0 m.2) (g m.1 m.3)

couple_spelled : (s t : Plain) (e : PlainValue × PlainValue) → Spelled s → Spelled t → both (λ k v. (k, v)) (spelled_value s) (spelled_value t) ≡ Some e → is_spelled_entry e ≡ true
couple_spelled s t e f g p =
    let joins : PlainValue → PlainValue → PlainValue × PlainValue = λ k v. (k, v) in
    let m = both_some joins (spelled_value s) (spelled_value t) e p in
    ap is_spelled_entry (sym m.4) ∙ and_both (is_spelled_value m.0) (is_spelled_value m.1) (f m.0 m.2) (g m.1 m.3)

more_spelled : (t : Plain) (ts : Plains) (vs : List PlainValue) → Spelled t → ValuesSpelled ts → spelled_values (tree.more t ts) ≡ Some vs → are_spelled_values (row vs) ≡ true
more_spelled t ts vs f g p =
    let m = bind_some (spelled_value t) (λ (v : PlainValue). option_map (λ (l : List PlainValue). v ∷ l) (spelled_values ts)) vs p in
    let x : PlainValue = m.0 in
    let n = mapped (λ (l : List PlainValue). x ∷ l) (spelled_values ts) vs m.2 in
    let xs : List PlainValue = n.0 in
    let is : x ∷ xs ≡ vs = n.2 in
    ap (λ (l : List PlainValue). are_spelled_values (row l)) (sym is) ∙ and_both (is_spelled_value x) (are_spelled_values (row xs)) (f x m.1) (g xs n.1)

abbrev EntrySpelled : Plain → Type 0
EntrySpelled t = (e : PlainValue × PlainValue) → spelled_entry t ≡ Some e → is_spelled_entry e ≡ true

more_entries_spelled : (t : Plain) (ts : Plains) (vs : List (PlainValue × PlainValue)) → EntrySpelled t → EntriesSpelled ts → spelled_entries (tree.more t ts) ≡ Some vs → are_spelled_entries (table vs) ≡ true
more_entries_spelled t ts vs f g p =
    let m = bind_some (spelled_entry t) (λ (v : PlainValue × PlainValue). option_map (λ (l : List (PlainValue × PlainValue)). v ∷ l) (spelled_entries ts)) vs p in
    let x : PlainValue × PlainValue = m.0 in
    let n = mapped (λ (l : List (PlainValue × PlainValue)). x ∷ l) (spelled_entries ts) vs m.2 in
    let xs : List (PlainValue × PlainValue) = n.0 in
    let is : x ∷ xs ≡ vs = n.2 in
    ap (λ (l : List (PlainValue × PlainValue)). are_spelled_entries (table l)) (sym is) ∙ and_both (is_spelled_entry x) (are_spelled_entries (table xs)) (f x m.1) (g xs n.1)

mutual
  pub value_spelled : (t : Plain) (v : PlainValue) → spelled_value t ≡ Some v → is_spelled_value v ≡ true
  value_spelled (atom w) v p = atom_spelled w v p
  value_spelled (list ts) v p = list_spelled ts v p

  list_spelled : (ts : Plains) (v : PlainValue) → spelled_list ts ≡ Some v → is_spelled_value v ≡ true
  list_spelled tree.none v p = cc
  list_spelled (tree.more (list us) ts) v p = cc
  list_spelled (tree.more (atom w) ts) v p = parts_spelled w ts v (λ x q. pair_spelled ts x q) (λ x q. values_spelled ts x q) (λ x q. entries_spelled ts x q) p

  pair_spelled : (ts : Plains) (v : PlainValue) → spelled_pair ts ≡ Some v → is_spelled_value v ≡ true
  pair_spelled tree.none v p = cc
  pair_spelled (tree.more s tree.none) v p = cc
  pair_spelled (tree.more s (tree.more t tree.none)) v p = both_spelled s t v (λ x q. value_spelled s x q) (λ x q. value_spelled t x q) p
  pair_spelled (tree.more s (tree.more t (tree.more u ts))) v p = cc

  values_spelled : (ts : Plains) (vs : List PlainValue) → spelled_values ts ≡ Some vs → are_spelled_values (row vs) ≡ true
  values_spelled tree.none vs p = ap (λ (l : List PlainValue). are_spelled_values (row l)) (sym (same_some [] vs p))
  values_spelled (tree.more t ts) vs p = more_spelled t ts vs (λ x q. value_spelled t x q) (λ x q. values_spelled ts x q) p

  entry_spelled : (t : Plain) (e : PlainValue × PlainValue) → spelled_entry t ≡ Some e → is_spelled_entry e ≡ true
  entry_spelled (atom w) e p = cc
  entry_spelled (list ts) e p = parts_of_entry ts e p

  parts_of_entry : (ts : Plains) (e : PlainValue × PlainValue) → key_and_value ts ≡ Some e → is_spelled_entry e ≡ true
  parts_of_entry tree.none e p = cc
  parts_of_entry (tree.more s tree.none) e p = cc
  parts_of_entry (tree.more s (tree.more t tree.none)) e p = couple_spelled s t e (λ x q. value_spelled s x q) (λ x q. value_spelled t x q) p
  parts_of_entry (tree.more s (tree.more t (tree.more u ts))) e p = cc

  entries_spelled : (ts : Plains) (es : List (PlainValue × PlainValue)) → spelled_entries ts ≡ Some es → are_spelled_entries (table es) ≡ true
  entries_spelled tree.none es p = ap (λ (l : List (PlainValue × PlainValue)). are_spelled_entries (table l)) (sym (same_some [] es p))
  entries_spelled (tree.more t ts) es p = more_entries_spelled t ts es (λ x q. entry_spelled t x q) (λ x q. entries_spelled ts x q) p
