-- The values of the operators on rows have their sorts, and so have those of all operators on words and rows.
use Rattle.std.proofs.Common.{◌≡◌, ℕ, zero, suc, ◌≤◌, ℤ, ◌+ℤ◌, Bool, true, false, List, [], ◌∷◌, Option, Some, None, Ok, refl, sym, ap, ◌∙◌, cond, subst, arith, length, map}
use Rattle.std.specs.Prelude.{pos, ◌-ℤ◌, ◌≤ℤ◌, ◌&&◌, nat_le, unwrap_or, set}
use Rattle.std.specs.List.{range_with_len}
use Rattle.std.specs.Option.{option_and_then}
use Rattle.std.proofs.lemmas.Bool.Decides.{nat_tests}
use Rattle.std.proofs.lemmas.Int.{ints as int_rules}
use Rattle.std.proofs.lemmas.List.{length-set}
use Rattle.std.proofs.lemmas.List.FromFn.{length-map-range_with_len}
use Rattle.kid_value.specs.PlainValue.{PlainValue, int, seq, map_of, PlainValues, items, entries}
use Rattle.kid_value.specs.PlainSort.{PlainSort, ints, seqs, maps, has_sort}
use Rattle.kid_value.specs.SortOrder.{is_subsort, join}
use Rattle.kid_value.specs.Rows.Kinds.{natural, sequence_from, map_from}
use Rattle.kid_value.specs.Rows.Word.{key_at, place_above, row_item, first_of_list, item_value, item_of, entry_before, row_entries, item_set}
use Rattle.kid_value.specs.ValueMap.{lookup}
use Rattle.kid_value.proofs.RowCanonical.{IsCanonical-rdec}
use Rattle.kid_value.proofs.SortLemmas.{and_both}
use Rattle.kid_term.specs.declared.operator.WordOp.{WordOp}
use Rattle.kid_term.specs.declared.operator.WordOp.TheVariants.{Wenc, Wdec, Wor, Wand, Wnot, Wcard, Win, Wleast, Renc, Rdec, Rget, Rput, Rdrop}
use Rattle.kid_term.specs.WordRows.{word_value}
use Rattle.kid_term.specs.WordSorts.{word_sort, row_size, given, row_parts, keys_from, rows}
use Rattle.kid_term.specs.Written.{Numbers}
use Rattle.kid_term.specs.Sorted.{Sorted, Kind, allowed, with_ints, with_join}
use Rattle.kid_term.specs.Fitting.{IsOfSort, AreOfSorts}
use Rattle.kid_term.proofs.Inversions.{ok, with_two_ok, with_three_ok, with_four_ok, with_ints_ok, with_join_ok, two_values, three_values, four_values, int_of}
use Rattle.kid_term.proofs.LogicSound.{Sound, IsOfSort-subsort}
use Rattle.kid_term.proofs.NumberSound.{within}
use Rattle.kid_term.proofs.Members.{Each}
use Rattle.kid_term.proofs.Counting.{seq_parts}
use Rattle.kid_term.proofs.JoinedSorts.{allowed_sound, joined, IsOfSort-left, IsOfSort-right, Each-weaker}
use Rattle.kid_term.proofs.SeqSound.{sequence_sound}
use Rattle.kid_term.proofs.MapSound.{Perhaps, EachEntry, found, unwrapped, entries_sound, mapped_ok}
use Rattle.kid_term.proofs.WordSound.{counted, with_keys_ok, wenc_sound, wdec_sound, wor_sound, wand_sound, wnot_sound, wcard_sound, win_sound, wleast_sound}
use Rattle.kid_term.proofs.WrittenValues.{AreWritten, given_ok}

at_values : (o : WordOp) (vs ws : List PlainValue) (s : PlainSort) → vs ≡ ws → Sound s (word_value o ws) → Sound s (word_value o vs)
at_values o vs ws s e h = subst (λ z. Sound s (word_value o z)) (sym e) h

-- ---- what the arguments are

-- a row, and what is made of its sort
record ARow (t : PlainSort) (v : PlainValue) (k : PlainSort × ℕ → Sorted) (s : PlainSort) : Type 0 where
  b : PlainSort
  m : ℕ
  n : ℕ
  gs : PlainValues
  of : t ≡ seqs (seqs b m) n
  is : v ≡ seq gs
  each : Each (IsOfSort (seqs b m)) (items gs)
  few : length (items gs) ≤ n
  short : nat_le m 1 ≡ true
  gives : k (b, n) ≡ Ok s

shaped : (t : PlainSort) (p : PlainSort × ℕ) → row_parts t ≡ Some p → (m : ℕ) × (t ≡ seqs (seqs p.0 m) p.1) × (nat_le m 1 ≡ true)
shaped (seqs (seqs b m) n) p q = by (nat_le m 1) (nat_le 1 n) refl q
  where
    same : Some (b, n) ≡ Some p → (b, n) ≡ p
    same e = cc

    by : (c d : Bool) → nat_le m 1 ≡ c → cond (c && d) (Some (b, n)) None ≡ Some p → (m' : ℕ) × (seqs (seqs b m) n ≡ seqs (seqs p.0 m') p.1) × (nat_le m' 1 ≡ true)
    by true true f e = (m, ap (λ (z : PlainSort × ℕ). seqs (seqs z.0 m) z.1) (same e), f)
    by true false f e = cc
    by false d f e = cc
shaped t p q = cc

row_ok : (t : PlainSort) (v : PlainValue) (k : PlainSort × ℕ → Sorted) (s : PlainSort) → given Kind (row_parts t) k ≡ Ok s → IsOfSort t v → ARow t v k s
row_ok t v k s p h =
    let g = given_ok Kind (row_parts t) k s p in
    let x = shaped t g.0 g.1 in
    let i = seq_parts (seqs g.0.0 x.0) g.0.1 v (subst (λ q. IsOfSort q v) x.1 h) in
    record {
      b = g.0.0;
      m = x.0;
      n = g.0.1;
      gs = i.0;
      of = x.1;
      is = i.1;
      each = i.2;
      few = i.3;
      short = x.2;
      gives = g.2;
    }

-- ---- the items of a row

is_le : (m n : ℕ) → nat_le m n ≡ true → m ≤ n
is_le m n h = grind (arith, nat_tests)

item_empty : (b : PlainSort) (m : ℕ) → IsOfSort (seqs b m) (row_item None)
item_empty b m = sequence_sound b m [] tt (omega arith)

item_sound : (b : PlainSort) (o : Option PlainValue) → Perhaps (IsOfSort b) o → IsOfSort (seqs b 1) (row_item o)
item_sound b None h = item_empty b 1
item_sound b (Some v) h = sequence_sound b 1 (v ∷ []) (h, tt) (omega arith)

first_found : (b : PlainSort) (vs : List PlainValue) → Each (IsOfSort b) vs → Perhaps (IsOfSort b) (first_of_list vs)
first_found b [] h = tt
first_found b (v ∷ vs) h = h.0

value_found : (b : PlainSort) (m : ℕ) (g : PlainValue) → IsOfSort (seqs b m) g → Perhaps (IsOfSort b) (item_value g)
value_found b m g h = let i = seq_parts b m g h in subst (λ z. Perhaps (IsOfSort b) (item_value z)) (sym i.1) (first_found b (items i.0) i.2)

module _ (P : PlainValue → Type 0) where
  item_found : (gs : List PlainValue) (i : ℕ) → Each P gs → Perhaps P (item_of gs i)
  item_found [] i h = tt
  item_found (g ∷ gs) zero h = h.0
  item_found (g ∷ gs) (suc i) h = item_found gs i h.1

  Each-set : (gs : List PlainValue) (i : ℕ) (g : PlainValue) → Each P gs → P g → Each P (set gs i g)
  Each-set [] i g h k = tt
  Each-set (x ∷ gs) zero g h k = (k, h.1)
  Each-set (x ∷ gs) (suc i) g h k = (h.0, Each-set gs i g h.1 k)

  Each-item_set : (gs : List PlainValue) (o : Option ℕ) (g : PlainValue) → Each P gs → P g → Each P (item_set gs o g)
  Each-item_set gs None g h k = h
  Each-item_set gs (Some i) g h k = Each-set gs i g h k

length-item_set : (gs : List PlainValue) (o : Option ℕ) (g : PlainValue) (n : ℕ) → length gs ≤ n → length (item_set gs o g) ≤ n
length-item_set gs None g n h = h
length-item_set gs (Some i) g n h = omega (arith, length-set gs i g)

at_place : (b : PlainSort) (m : ℕ) (gs : List PlainValue) (o : Option ℕ) → Each (IsOfSort (seqs b m)) gs → Perhaps (IsOfSort b) (option_and_then item_value (option_and_then (item_of gs) o))
at_place b m gs None h = tt
at_place b m gs (Some i) h = by (item_of gs i) (item_found (IsOfSort (seqs b m)) gs i h)
  where
    by : (o : Option PlainValue) → Perhaps (IsOfSort (seqs b m)) o → Perhaps (IsOfSort b) (option_and_then item_value o)
    by None k = tt
    by (Some g) k = value_found b m g k

-- the entries of a row whose keys reach no further than hi
row_entries_sound : (b : PlainSort) (m : ℕ) (low hi lo : ℤ) (gs : List PlainValue) → low ≤ℤ lo → (lo +ℤ pos (length gs)) ≤ℤ (hi +ℤ pos 1) → Each (IsOfSort (seqs b m)) gs
    → EachEntry (IsOfSort (ints low hi)) (IsOfSort b) (row_entries lo gs)
row_entries_sound b m low hi lo [] p q h = tt
row_entries_sound b m low hi lo (g ∷ gs) p q h =
    by (item_value g) (value_found b m g h.0) (row_entries_sound b m low hi (lo +ℤ pos 1) gs (omega (arith, int_rules)) (omega (arith, int_rules)) h.1)
  where
    by : (o : Option PlainValue) → Perhaps (IsOfSort b) o → EachEntry (IsOfSort (ints low hi)) (IsOfSort b) (row_entries (lo +ℤ pos 1) gs)
        → EachEntry (IsOfSort (ints low hi)) (IsOfSort b) (entry_before (int lo) o (row_entries (lo +ℤ pos 1) gs))
    by None k l = l
    by (Some v) k l = (record { has = within low hi lo (omega (arith, int_rules)) (omega (arith, int_rules)); canonical = tt }, k, l)

Each-looked_up : (a b : PlainSort) (lo : ℤ) (es : List (PlainValue × PlainValue)) (is : List ℕ) → EachEntry (IsOfSort a) (IsOfSort b) es → Each (IsOfSort (seqs b 1)) (map (λ i. row_item (lookup (key_at lo i) es)) is)
Each-looked_up a b lo es [] h = tt
Each-looked_up a b lo es (i ∷ is) h = (item_sound b (lookup (key_at lo i) es) (found (IsOfSort a) (IsOfSort b) (key_at lo i) es h), Each-looked_up a b lo es is h)

-- ---- the operators

renc_sound : (ns : Numbers) (ss : List PlainSort) (vs : List PlainValue) (s : PlainSort) → word_sort Renc ns ss ≡ Ok s → AreOfSorts ss vs → AreWritten ns vs → Sound s (word_value Renc vs)
renc_sound ns ss vs s p h e =
    let r = with_three_ok ss _ s p in
    let w = three_values r.0 r.1 r.2 vs (subst (λ z. AreOfSorts z vs) r.3 h) in
    let l = given_ok Kind ns.0 _ s r.4 in
    let c = given_ok Kind ns.1 _ s l.2 in
    let q = mapped_ok r.2 w.2 _ s c.2 w.6 in
    let g = counted row_size c.0 (λ n. allowed (rows q.b n)) s (with_keys_ok q.a _ s q.gives) in
    let first = e.first l.0 w.0 (w.1 ∷ w.2 ∷ []) l.1 w.3 in
    let second = e.second c.0 w.0 w.1 (w.2 ∷ []) c.1 w.3 in
    let made = map (λ i. row_item (lookup (key_at l.0 i) (entries q.es))) (range_with_len 0 (natural c.0)) in
    let exactly = length-map-range_with_len (λ i. row_item (lookup (key_at l.0 i) (entries q.es))) 0 (natural c.0) in
    at_values Renc vs (int l.0 ∷ int c.0 ∷ map_of q.es ∷ []) s (w.3 ∙ (λ o. first o ∷ second o ∷ q.is o ∷ []))
    (allowed_sound (rows q.b (natural c.0)) s (sequence_from made)
    (sequence_sound (seqs q.b 1) (natural c.0) made (Each-looked_up q.a q.b l.0 (entries q.es) (range_with_len 0 (natural c.0)) q.each) (omega (arith, exactly))) g)

rdec_sound : (ns : Numbers) (ss : List PlainSort) (vs : List PlainValue) (s : PlainSort) → word_sort Rdec ns ss ≡ Ok s → AreOfSorts ss vs → AreWritten ns vs → Sound s (word_value Rdec vs)
rdec_sound ns ss vs s p h e =
    let r = with_two_ok ss _ s p in
    let w = two_values r.0 r.1 vs (subst (λ z. AreOfSorts z vs) r.2 h) in
    let l = given_ok Kind ns.0 _ s r.3 in
    let x = row_ok r.1 w.1 (λ g. allowed (maps (keys_from l.0 g.1) g.0)) s l.2 w.4 in
    let first = e.first l.0 w.0 (w.1 ∷ []) l.1 w.2 in
    let canonical = IsCanonical-rdec (int l.0) (seq x.gs) (subst (λ z. IsOfSort r.1 z) x.is w.4).canonical in
    at_values Rdec vs (int l.0 ∷ seq x.gs ∷ []) s (w.2 ∙ (λ o. first o ∷ x.is o ∷ []))
    (allowed_sound (maps (keys_from l.0 x.n) x.b) s (map_from (row_entries l.0 (items x.gs)))
    (entries_sound (keys_from l.0 x.n) x.b (row_entries l.0 (items x.gs))
    (row_entries_sound x.b x.m l.0 ((l.0 +ℤ pos x.n) -ℤ pos 1) l.0 (items x.gs) (omega (arith, int_rules)) (fits l.0 (length (items x.gs)) x.n x.few) x.each) canonical) x.gives)
  where
    fits : (lo : ℤ) (m n : ℕ) → m ≤ n → (lo +ℤ pos m) ≤ℤ (((lo +ℤ pos n) -ℤ pos 1) +ℤ pos 1)
    fits lo m n h = omega (arith, int_rules)

rget_sound : (ns : Numbers) (ss : List PlainSort) (vs : List PlainValue) (s : PlainSort) → word_sort Rget ns ss ≡ Ok s → AreOfSorts ss vs → AreWritten ns vs → Sound s (word_value Rget vs)
rget_sound ns ss vs s p h e =
    let r = with_four_ok ss _ s p in
    let w = four_values r.0 r.1 r.2 r.3 vs (subst (λ z. AreOfSorts z vs) r.4 h) in
    let l = given_ok Kind ns.0 _ s r.5 in
    let x = row_ok r.1 w.1 (λ g. with_ints r.2 (λ low high. with_join (join g.0 r.3) allowed)) s l.2 w.6 in
    let a = with_ints_ok r.2 (λ low high. with_join (join x.b r.3) allowed) s x.gives in
    let m = int_of a.0 a.1 w.2 (ap (λ z. has_sort z w.2) (sym a.2) ∙ w.7.has) in
    let y = with_join_ok (join x.b r.3) allowed s a.3 in
    let first = e.first l.0 w.0 (w.1 ∷ w.2 ∷ w.3 ∷ []) l.1 w.4 in
    let place = place_above (m.0 -ℤ l.0) in
    let o = option_and_then item_value (option_and_then (item_of (items x.gs)) place) in
    at_values Rget vs (int l.0 ∷ seq x.gs ∷ int m.0 ∷ w.3 ∷ []) s (w.4 ∙ (λ j. first j ∷ x.is j ∷ m.1 j ∷ w.3 ∷ []))
    (allowed_sound y.0 s (unwrap_or o w.3)
    (unwrapped (IsOfSort y.0) o w.3 (weaker o (λ v. IsOfSort-left x.b r.3 y.0 v y.1) (at_place x.b x.m (items x.gs) place x.each)) (IsOfSort-right x.b r.3 y.0 w.3 y.1 w.8)) y.2)
  where
    weaker : {P Q : PlainValue → Type 0} (o : Option PlainValue) → ((v : PlainValue) → P v → Q v) → Perhaps P o → Perhaps Q o
    weaker None k h = tt
    weaker (Some v) k h = k v h

rput_sound : (ns : Numbers) (ss : List PlainSort) (vs : List PlainValue) (s : PlainSort) → word_sort Rput ns ss ≡ Ok s → AreOfSorts ss vs → AreWritten ns vs → Sound s (word_value Rput vs)
rput_sound ns ss vs s p h e =
    let r = with_four_ok ss _ s p in
    let w = four_values r.0 r.1 r.2 r.3 vs (subst (λ z. AreOfSorts z vs) r.4 h) in
    let l = given_ok Kind ns.0 _ s r.5 in
    let x = row_ok r.1 w.1 (λ g. with_ints r.2 (λ low high. with_join (join g.0 r.3) (λ t. allowed (rows t g.1)))) s l.2 w.6 in
    let a = with_ints_ok r.2 (λ low high. with_join (join x.b r.3) (λ t. allowed (rows t x.n))) s x.gives in
    let m = int_of a.0 a.1 w.2 (ap (λ z. has_sort z w.2) (sym a.2) ∙ w.7.has) in
    let y = with_join_ok (join x.b r.3) (λ t. allowed (rows t x.n)) s a.3 in
    let first = e.first l.0 w.0 (w.1 ∷ w.2 ∷ w.3 ∷ []) l.1 w.4 in
    let place = place_above (m.0 -ℤ l.0) in
    let item = item_sound y.0 (Some w.3) (IsOfSort-right x.b r.3 y.0 w.3 y.1 w.8) in
    let wider = and_both (is_subsort x.b y.0) (nat_le x.m 1) (joined x.b r.3 y.0 y.1).0 x.short in
    let each = Each-weaker (IsOfSort (seqs x.b x.m)) (IsOfSort (seqs y.0 1)) (λ v. IsOfSort-subsort (seqs x.b x.m) (seqs y.0 1) v wider) (items x.gs) x.each in
    at_values Rput vs (int l.0 ∷ seq x.gs ∷ int m.0 ∷ w.3 ∷ []) s (w.4 ∙ (λ j. first j ∷ x.is j ∷ m.1 j ∷ w.3 ∷ []))
    (allowed_sound (rows y.0 x.n) s (sequence_from (item_set (items x.gs) place (row_item (Some w.3))))
    (sequence_sound (seqs y.0 1) x.n (item_set (items x.gs) place (row_item (Some w.3))) (Each-item_set (IsOfSort (seqs y.0 1)) (items x.gs) place (row_item (Some w.3)) each item)
    (length-item_set (items x.gs) place (row_item (Some w.3)) x.n x.few)) y.2)

rdrop_sound : (ns : Numbers) (ss : List PlainSort) (vs : List PlainValue) (s : PlainSort) → word_sort Rdrop ns ss ≡ Ok s → AreOfSorts ss vs → AreWritten ns vs → Sound s (word_value Rdrop vs)
rdrop_sound ns ss vs s p h e =
    let r = with_three_ok ss _ s p in
    let w = three_values r.0 r.1 r.2 vs (subst (λ z. AreOfSorts z vs) r.3 h) in
    let l = given_ok Kind ns.0 _ s r.4 in
    let x = row_ok r.1 w.1 (λ g. with_ints r.2 (λ low high. allowed r.1)) s l.2 w.5 in
    let a = with_ints_ok r.2 (λ low high. allowed r.1) s x.gives in
    let m = int_of a.0 a.1 w.2 (ap (λ z. has_sort z w.2) (sym a.2) ∙ w.6.has) in
    let first = e.first l.0 w.0 (w.1 ∷ w.2 ∷ []) l.1 w.3 in
    let place = place_above (m.0 -ℤ l.0) in
    at_values Rdrop vs (int l.0 ∷ seq x.gs ∷ int m.0 ∷ []) s (w.3 ∙ (λ j. first j ∷ x.is j ∷ m.1 j ∷ []))
    (allowed_sound (seqs (seqs x.b x.m) x.n) s (sequence_from (item_set (items x.gs) place (row_item None)))
    (sequence_sound (seqs x.b x.m) x.n (item_set (items x.gs) place (row_item None)) (Each-item_set (IsOfSort (seqs x.b x.m)) (items x.gs) place (row_item None) x.each (item_empty x.b x.m))
    (length-item_set (items x.gs) place (row_item None) x.n x.few)) (subst (λ t. allowed t ≡ ok s) x.of a.3))

pub word_sound : (o : WordOp) (ns : Numbers) (ss : List PlainSort) (vs : List PlainValue) (s : PlainSort) → word_sort o ns ss ≡ Ok s → AreOfSorts ss vs → AreWritten ns vs → Sound s (word_value o vs)
word_sound Wenc ns ss vs s p h e = wenc_sound ns ss vs s p h e
word_sound Wdec ns ss vs s p h e = wdec_sound ns ss vs s p h e
word_sound Wor ns ss vs s p h e = wor_sound ns ss vs s p h
word_sound Wand ns ss vs s p h e = wand_sound ns ss vs s p h
word_sound Wnot ns ss vs s p h e = wnot_sound ns ss vs s p h
word_sound Wcard ns ss vs s p h e = wcard_sound ns ss vs s p h
word_sound Win ns ss vs s p h e = win_sound ns ss vs s p h e
word_sound Wleast ns ss vs s p h e = wleast_sound ns ss vs s p h e
word_sound Renc ns ss vs s p h e = renc_sound ns ss vs s p h e
word_sound Rdec ns ss vs s p h e = rdec_sound ns ss vs s p h e
word_sound Rget ns ss vs s p h e = rget_sound ns ss vs s p h e
word_sound Rput ns ss vs s p h e = rput_sound ns ss vs s p h e
word_sound Rdrop ns ss vs s p h e = rdrop_sound ns ss vs s p h e
