-- The values of the operators on sequences have their sorts, and the sums of a sequence stay small.
use Rattle.std.proofs.Common.{◌≡◌, ℕ, zero, suc, ◌≤◌, ℤ, true, List, [], ◌∷◌, ◌++◌, Ok, refl, sym, ap, ◌∙◌, subst, arith, length}
use Rattle.std.specs.Prelude.{pos, negsuc, ◌&&◌, nat_le, get_or, drop}
use Rattle.std.specs.List.{list_all}
use Rattle.std.proofs.lemmas.Int.{ints as int_rules}
use Rattle.std.proofs.lemmas.Bool.Decides.{nat_tests}
use Rattle.std.proofs.lemmas.List.{length-append, length-drop}
use Rattle.kid_value.specs.PlainValue.{PlainValue, int, seq, PlainValues, items}
use Rattle.kid_value.specs.PlainSort.{PlainSort, bools, ints, sets, seqs, has_sort}
use Rattle.kid_value.specs.SortOrder.{join}
use Rattle.kid_value.specs.Rows.Kinds.{sequence_from, natural, set_of_all}
use Rattle.kid_value.specs.Rows.Seq.{item_at, is_prefix}
use Rattle.kid_value.specs.ValueSet.{set_of}
use Rattle.kid_value.proofs.RowLemmas.{items_row}
use Rattle.kid_value.proofs.SortLemmas.{and_both}
use Rattle.kid_value.proofs.ValueSetLaws.{Ascends-union}
use Rattle.kid_term.specs.declared.operator.SeqOp.{SeqOp}
use Rattle.kid_term.specs.declared.operator.SeqOp.TheVariants.{Seq, Len, At, Snoc, Rest, Items, Total, Prefix}
use Rattle.kid_term.specs.SeqRows.{seq_value}
use Rattle.kid_term.specs.SeqSorts.{seq_sort}
use Rattle.kid_term.specs.Small.{items_small}
use Rattle.kid_term.specs.Sorted.{Sorted, allowed, with_seq, with_ints, with_join, join_all}
use Rattle.kid_term.specs.SumSort.{sum_sort}
use Rattle.kid_term.specs.Fitting.{IsOfSort, AreOfSorts}
use Rattle.kid_term.proofs.Inversions.{ok, with_one_ok, with_two_ok, with_three_ok, with_ints_ok, with_join_ok, one_value, two_values, three_values, int_of}
use Rattle.kid_term.proofs.LogicSound.{Sound, truth_sound}
use Rattle.kid_term.proofs.NumberSound.{interval_sound}
use Rattle.kid_term.proofs.Members.{Each, Each-union, list_all-Each, AreCanonical-row, set_sound}
use Rattle.kid_term.proofs.Counting.{seq_parts}
use Rattle.kid_term.proofs.BinderSound.{Evaluates, summed}
use Rattle.kid_term.proofs.JoinedSorts.{allowed_sound, IsOfSort-left, IsOfSort-right, Each-weaker, Each-join_all, AreOfSorts-length}

at_values : (o : SeqOp) (vs ws : List PlainValue) (s : PlainSort) → vs ≡ ws → Sound s (seq_value o ws) → Sound s (seq_value o vs)
at_values o vs ws s e h = subst (λ z. Sound s (seq_value o z)) (sym e) h

with_seq_ok : (t : PlainSort) (k : PlainSort → ℕ → Sorted) (s : PlainSort) → with_seq t k ≡ Ok s → (a : PlainSort) × (n : ℕ) × (t ≡ seqs a n) × (k a n ≡ Ok s)
with_seq_ok (seqs a n) k s p = (a, n, refl, p)
with_seq_ok t k s p = cc

-- a value of a sequence sort, and what is made of that
record Sequence (v : PlainValue) (k : PlainSort → ℕ → Sorted) (s : PlainSort) : Type 0 where
  a : PlainSort
  n : ℕ
  xs : PlainValues
  is : v ≡ seq xs
  each : Each (IsOfSort a) (items xs)
  few : length (items xs) ≤ n
  gives : k a n ≡ Ok s

sequence_ok : (t : PlainSort) (v : PlainValue) (k : PlainSort → ℕ → Sorted) (s : PlainSort) → with_seq t k ≡ Ok s → IsOfSort t v → Sequence v k s
sequence_ok t v k s p h =
    let x = with_seq_ok t k s p in
    let i = seq_parts x.0 x.1 v (subst (λ z. IsOfSort z v) x.2 h) in
    record {
      a = x.0;
      n = x.1;
      xs = i.0;
      is = i.1;
      each = i.2;
      few = i.3;
      gives = x.3;
    }

-- at most n values of a sort make a sequence
pub sequence_sound : (a : PlainSort) (n : ℕ) (vs : List PlainValue) → Each (IsOfSort a) vs → length vs ≤ n → IsOfSort (seqs a n) (sequence_from vs)
sequence_sound a n vs h q =
    record {
      has = subst (λ z. (nat_le (length z) n && list_all (has_sort a) z) ≡ true) (sym (items_row vs))
          (and_both (nat_le (length vs) n) (list_all (has_sort a) vs) (holds (length vs) n q) (list_all-Each (IsOfSort a) (has_sort a) (λ v k. k.has) vs h));
      canonical = AreCanonical-row a vs h;
    }
  where
    holds : (m n : ℕ) → m ≤ n → nat_le m n ≡ true
    holds m n h = grind (arith, nat_tests)

module _ (P : PlainValue → Type 0) where
  got : (vs : List PlainValue) (n : ℕ) (d : PlainValue) → Each P vs → P d → P (get_or vs n d)
  got [] n d h k = k
  got (v ∷ vs) zero d h k = h.0
  got (v ∷ vs) (suc n) d h k = got vs n d h.1 k

  item : (vs : List PlainValue) (i : ℤ) (d : PlainValue) → Each P vs → P d → P (item_at vs i d)
  item vs (pos zero) d h k = k
  item vs (pos (suc n)) d h k = got vs n d h k
  item vs (negsuc n) d h k = k

  Each-drop : (n : ℕ) (vs : List PlainValue) → Each P vs → Each P (drop n vs)
  Each-drop zero vs h = h
  Each-drop (suc n) [] h = tt
  Each-drop (suc n) (v ∷ vs) h = Each-drop n vs h.1

  Each-append : (vs : List PlainValue) (x : PlainValue) → Each P vs → P x → Each P (vs ++ x ∷ [])
  Each-append [] x h k = (k, tt)
  Each-append (v ∷ vs) x h k = (h.0, Each-append vs x h.1 k)

item_sound : (ss : List PlainSort) (vs : List PlainValue) (s : PlainSort) → seq_sort At ss ≡ Ok s → AreOfSorts ss vs → Sound s (seq_value At vs)
item_sound ss vs s p h =
    let r = with_three_ok ss (λ v i d. with_seq v (λ a n. with_ints i (λ lo hi. with_join (join a d) allowed))) s p in
    let w = three_values r.0 r.1 r.2 vs (subst (λ z. AreOfSorts z vs) r.3 h) in
    let q = sequence_ok r.0 w.0 (λ a n. with_ints r.1 (λ lo hi. with_join (join a r.2) allowed)) s r.4 w.4 in
    let x = with_ints_ok r.1 (λ lo hi. with_join (join q.a r.2) allowed) s q.gives in
    let m = int_of x.0 x.1 w.1 (ap (λ z. has_sort z w.1) (sym x.2) ∙ w.5.has) in
    let y = with_join_ok (join q.a r.2) allowed s x.3 in
    let each = Each-weaker (IsOfSort q.a) (IsOfSort y.0) (λ v k. IsOfSort-left q.a r.2 y.0 v y.1 k) (items q.xs) q.each in
    at_values At vs (seq q.xs ∷ int m.0 ∷ w.2 ∷ []) s (w.3 ∙ (λ o. q.is o ∷ m.1 o ∷ w.2 ∷ []))
    (allowed_sound y.0 s (item_at (items q.xs) m.0 w.2) (item (IsOfSort y.0) (items q.xs) m.0 w.2 each (IsOfSort-right q.a r.2 y.0 w.2 y.1 w.6)) y.2)

snoc_sound : (ss : List PlainSort) (vs : List PlainValue) (s : PlainSort) → seq_sort Snoc ss ≡ Ok s → AreOfSorts ss vs → Sound s (seq_value Snoc vs)
snoc_sound ss vs s p h =
    let r = with_two_ok ss (λ v x. with_seq v (λ a n. with_join (join a x) (λ e. allowed (seqs e (suc n))))) s p in
    let w = two_values r.0 r.1 vs (subst (λ z. AreOfSorts z vs) r.2 h) in
    let q = sequence_ok r.0 w.0 (λ a n. with_join (join a r.1) (λ e. allowed (seqs e (suc n)))) s r.3 w.3 in
    let y = with_join_ok (join q.a r.1) (λ e. allowed (seqs e (suc q.n))) s q.gives in
    let each = Each-weaker (IsOfSort q.a) (IsOfSort y.0) (λ v k. IsOfSort-left q.a r.1 y.0 v y.1 k) (items q.xs) q.each in
    let last = IsOfSort-right q.a r.1 y.0 w.1 y.1 w.4 in
    at_values Snoc vs (seq q.xs ∷ w.1 ∷ []) s (w.2 ∙ (λ o. q.is o ∷ w.1 ∷ []))
    (allowed_sound (seqs y.0 (suc q.n)) s (sequence_from (items q.xs ++ w.1 ∷ []))
    (sequence_sound y.0 (suc q.n) (items q.xs ++ w.1 ∷ []) (Each-append (IsOfSort y.0) (items q.xs) w.1 each last) (longer (items q.xs) w.1 q.n q.few)) y.2)
  where
    longer : (vs : List PlainValue) (x : PlainValue) (n : ℕ) → length vs ≤ n → length (vs ++ x ∷ []) ≤ suc n
    longer vs x n q = omega (arith, length-append vs (x ∷ []))

rest_sound : (ss : List PlainSort) (vs : List PlainValue) (s : PlainSort) → seq_sort Rest ss ≡ Ok s → AreOfSorts ss vs → Sound s (seq_value Rest vs)
rest_sound ss vs s p h =
    let r = with_two_ok ss (λ v i. with_seq v (λ a n. with_ints i (λ lo hi. allowed (seqs a n)))) s p in
    let w = two_values r.0 r.1 vs (subst (λ z. AreOfSorts z vs) r.2 h) in
    let q = sequence_ok r.0 w.0 (λ a n. with_ints r.1 (λ lo hi. allowed (seqs a n))) s r.3 w.3 in
    let x = with_ints_ok r.1 (λ lo hi. allowed (seqs q.a q.n)) s q.gives in
    let m = int_of x.0 x.1 w.1 (ap (λ z. has_sort z w.1) (sym x.2) ∙ w.4.has) in
    at_values Rest vs (seq q.xs ∷ int m.0 ∷ []) s (w.2 ∙ (λ o. q.is o ∷ m.1 o ∷ []))
    (allowed_sound (seqs q.a q.n) s (sequence_from (drop (natural m.0) (items q.xs)))
    (sequence_sound q.a q.n (drop (natural m.0) (items q.xs)) (Each-drop (IsOfSort q.a) (natural m.0) (items q.xs) q.each) (shorter (natural m.0) (items q.xs) q.n q.few)) x.3)
  where
    shorter : (i : ℕ) (vs : List PlainValue) (n : ℕ) → length vs ≤ n → length (drop i vs) ≤ n
    shorter i vs n q = omega (arith, length-drop i vs)

total_evaluates : (ss : List PlainSort) (vs : List PlainValue) (s : PlainSort) → seq_sort Total ss ≡ Ok s → AreOfSorts ss vs → Evaluates s (seq_value Total vs) (items_small vs)
total_evaluates ss vs s p h =
    let r = with_one_ok ss (λ v. with_seq v (λ a n. sum_sort n a)) s p in
    let w = one_value r.0 vs (subst (λ z. AreOfSorts z vs) r.1 h) in
    let q = sequence_ok r.0 w.0 (λ a n. sum_sort n a) s r.2 w.2 in
    let e = summed q.n q.a s (items q.xs) q.gives q.each q.few in
    subst (λ z. Evaluates s (seq_value Total z) (items_small z)) (sym (w.1 ∙ (λ o. q.is o ∷ []))) e

-- the sum of a sequence stays small, with each sum on the way
pub total_small : (ss : List PlainSort) (vs : List PlainValue) (s : PlainSort) → seq_sort Total ss ≡ Ok s → AreOfSorts ss vs → items_small vs ≡ true
total_small ss vs s p h = (total_evaluates ss vs s p h).stays

pub seq_sound : (o : SeqOp) (ss : List PlainSort) (vs : List PlainValue) (s : PlainSort) → seq_sort o ss ≡ Ok s → AreOfSorts ss vs → Sound s (seq_value o vs)
seq_sound Seq ss vs s p h =
    let y = with_join_ok (join_all ss) (λ a. allowed (seqs a (length ss))) s p in
    allowed_sound (seqs y.0 (length ss)) s (sequence_from vs) (sequence_sound y.0 (length ss) vs (Each-join_all ss vs y.0 y.1 h) (omega (arith, AreOfSorts-length ss vs h))) y.2
seq_sound Len ss vs s p h =
    let r = with_one_ok ss (λ v. with_seq v (λ a n. allowed (ints (pos 0) (pos n)))) s p in
    let w = one_value r.0 vs (subst (λ z. AreOfSorts z vs) r.1 h) in
    let q = sequence_ok r.0 w.0 (λ a n. allowed (ints (pos 0) (pos n))) s r.2 w.2 in
    at_values Len vs (seq q.xs ∷ []) s (w.1 ∙ (λ o. q.is o ∷ []))
    (interval_sound (pos 0) (pos q.n) (pos (length (items q.xs))) s (omega (arith, int_rules)) (omega (arith, int_rules, q.few)) q.gives)
seq_sound At ss vs s p h = item_sound ss vs s p h
seq_sound Snoc ss vs s p h = snoc_sound ss vs s p h
seq_sound Rest ss vs s p h = rest_sound ss vs s p h
seq_sound Items ss vs s p h =
    let r = with_one_ok ss (λ v. with_seq v (λ a n. allowed (sets a))) s p in
    let w = one_value r.0 vs (subst (λ z. AreOfSorts z vs) r.1 h) in
    let q = sequence_ok r.0 w.0 (λ a n. allowed (sets a)) s r.2 w.2 in
    at_values Items vs (seq q.xs ∷ []) s (w.1 ∙ (λ o. q.is o ∷ []))
    (allowed_sound (sets q.a) s (set_of_all (items q.xs))
    (set_sound q.a (set_of (items q.xs)) (record { each = Each-union (IsOfSort q.a) (items q.xs) [] q.each tt; ascends = Ascends-union (items q.xs) [] tt })) q.gives)
seq_sound Total ss vs s p h = (total_evaluates ss vs s p h).sound
seq_sound Prefix ss vs s p h =
    let r = with_two_ok ss (λ v w. with_seq v (λ a n. with_seq w (λ b m. with_join (join a b) (λ _. ok bools)))) s p in
    let w = two_values r.0 r.1 vs (subst (λ z. AreOfSorts z vs) r.2 h) in
    let q = sequence_ok r.0 w.0 (λ a n. with_seq r.1 (λ b m. with_join (join a b) (λ _. ok bools))) s r.3 w.3 in
    let t = sequence_ok r.1 w.1 (λ b m. with_join (join q.a b) (λ _. ok bools)) s q.gives w.4 in
    let y = with_join_ok (join q.a t.a) (λ _. ok bools) s t.gives in
    at_values Prefix vs (seq q.xs ∷ seq t.xs ∷ []) s (w.2 ∙ (λ o. q.is o ∷ t.is o ∷ []))
    (truth_sound (is_prefix (items q.xs) (items t.xs)) s y.2)
