-- The values of the operators on sets have their sorts, and their sums stay small.
use Rattle.std.proofs.Common.{◌≡◌, ℕ, zero, suc, ◌+◌, ℤ, ◌+ℤ◌, Bool, true, false, List, [], ◌∷◌, Ok, refl, sym, ap, ◌∙◌, cond, subst, arith, length}
use Rattle.std.specs.Prelude.{pos, negsuc, ◌≤ℤ◌, ◌<ℤ◌, not, int_le, filter}
use Rattle.std.specs.List.{list_all}
use Rattle.std.specs.Int.{int_gap}
use Rattle.std.proofs.lemmas.Int.{ints as int_rules}
use Rattle.kid_value.specs.PlainValue.{PlainValue, int, set, PlainValues, items}
use Rattle.kid_value.specs.PlainSort.{PlainSort, never, bools, ints, sets, has_sort}
use Rattle.kid_value.specs.SortOrder.{join}
use Rattle.kid_value.specs.SortLimits.{is_allowed}
use Rattle.kid_value.specs.SortCount.{count_of, interval_count}
use Rattle.kid_value.specs.ValueSet as sets_of
use Rattle.kid_value.specs.ValueSet.{value_eq, is_member, is_subset, put, set_of}
use Rattle.kid_value.specs.Rows.Set.{numbers, first_or}
use Rattle.kid_value.specs.Rows.Kinds.{set_from}
use Rattle.kid_value.proofs.RowLemmas.{items_row}
use Rattle.kid_value.proofs.RowCanonical.{IsCanonical-range}
use Rattle.kid_value.proofs.SortLemmas.{and_parts, and_both}
use Rattle.kid_value.proofs.ValueSetLaws.{Ascends-put, Ascends-union, Ascends-filter}
use Rattle.kid_term.specs.declared.operator.Op.TheVariants as operator
use Rattle.kid_term.specs.declared.operator.SetOp.{SetOp}
use Rattle.kid_term.specs.declared.operator.SetOp.TheVariants.{Set, Range, In, Subset, Union, With, Inter, Diff, Without, Card, Sum, Least}
use Rattle.kid_term.specs.SetRows.{set_value}
use Rattle.kid_term.specs.Small.{members_small, op_small}
use Rattle.kid_term.specs.Sorted.{Sorted, allowed, with_one, with_set, with_join, join_all}
use Rattle.kid_term.specs.SumSort.{sum_sort}
use Rattle.kid_term.specs.SetSorts.{set_sort, two_sets, value_and_set, range_sort}
use Rattle.kid_term.specs.Fitting.{IsOfSort, AreOfSorts}
use Rattle.kid_term.proofs.Inversions.{ok, ok_same, with_one_ok, with_two_ok, with_set_ok, with_join_ok, one_value, two_values, two_ints_ok}
use Rattle.kid_term.proofs.LogicSound.{Sound, truth_sound}
use Rattle.kid_term.proofs.NumberSound.{within, interval_sound}
use Rattle.kid_term.proofs.Members.{Each, Each-filter, Each-put, Each-union, AreMembers, set_sound as set_made}
use Rattle.kid_term.proofs.Counting.{set_parts, members_counted}
use Rattle.kid_term.proofs.JoinedSorts.{allowed_sound, IsOfSort-left, IsOfSort-right, Each-weaker, Each-join_all}
use Rattle.kid_term.proofs.BinderSound.{Evaluates, summed}

at_values : (o : SetOp) (vs ws : List PlainValue) (s : PlainSort) → vs ≡ ws → Sound s (set_value o ws) → Sound s (set_value o vs)
at_values o vs ws s e h = subst (λ z. Sound s (set_value o z)) (sym e) h

-- ---- sets of members of a sort

AreMembers-weaker : (a e : PlainSort) (vs : List PlainValue) → ((v : PlainValue) → IsOfSort a v → IsOfSort e v) → AreMembers a vs → AreMembers e vs
AreMembers-weaker a e vs k h = record { each = Each-weaker (IsOfSort a) (IsOfSort e) k vs h.each; ascends = h.ascends }

AreMembers-filter : (a : PlainSort) (q : PlainValue → Bool) (vs : List PlainValue) → AreMembers a vs → AreMembers a (filter q vs)
AreMembers-filter a q vs h = record { each = Each-filter (IsOfSort a) q vs h.each; ascends = Ascends-filter q vs h.ascends }

AreMembers-union : (e : PlainSort) (vs ws : List PlainValue) → Each (IsOfSort e) vs → AreMembers e ws → AreMembers e (sets_of.union vs ws)
AreMembers-union e vs ws h k = record { each = Each-union (IsOfSort e) vs ws h k.each; ascends = Ascends-union vs ws k.ascends }

AreMembers-put : (e : PlainSort) (v : PlainValue) (ws : List PlainValue) → IsOfSort e v → AreMembers e ws → AreMembers e (put v ws)
AreMembers-put e v ws h k = record { each = Each-put (IsOfSort e) v ws h k.each; ascends = Ascends-put v ws k.ascends }

-- members make a set of a sort that is allowed
made : (e s : PlainSort) (vs : List PlainValue) → allowed (sets e) ≡ Ok s → AreMembers e vs → Sound s (set_from vs)
made e s vs p h = allowed_sound (sets e) s (set_from vs) (set_made e vs h) p

-- ---- what the arguments are

-- a set, and what is made of it
record OneSet (vs : List PlainValue) (k : PlainSort → Sorted) (s : PlainSort) : Type 0 where
  pub a : PlainSort
  pub us : PlainValues
  pub are : vs ≡ set us ∷ []
  pub members : AreMembers a (items us)
  pub set_allowed : is_allowed (sets a) ≡ true
  pub gives : k a ≡ Ok s

one_set_ok : (ss : List PlainSort) (vs : List PlainValue) (k : PlainSort → Sorted) (s : PlainSort) → with_one ss (λ t. with_set t k) ≡ Ok s → list_all is_allowed ss ≡ true → AreOfSorts ss vs → OneSet vs k s
one_set_ok ss vs k s p q h =
    let r = with_one_ok ss (λ t. with_set t k) s p in
    let x = with_set_ok r.0 k s r.2 in
    let w = one_value r.0 vs (subst (λ z. AreOfSorts z vs) r.1 h) in
    let i = set_parts x.0 w.0 (subst (λ z. IsOfSort z w.0) x.1 w.2) in
    let b = and_parts (is_allowed r.0) true (subst (λ z. list_all is_allowed z ≡ true) r.1 q) in
    record {
      a = x.0;
      us = i.0;
      are = w.1 ∙ (λ o. i.1 o ∷ []);
      members = record { each = i.2; ascends = i.3 };
      set_allowed = subst (λ z. is_allowed z ≡ true) x.1 b.0;
      gives = x.2;
    }

-- two sets whose members have a common sort
record TwoSets (vs : List PlainValue) (k : PlainSort → PlainSort → Sorted) (s : PlainSort) : Type 0 where
  pub a : PlainSort
  pub e : PlainSort
  pub us : PlainValues
  pub ws : PlainValues
  pub are : vs ≡ set us ∷ set ws ∷ []
  pub of_first : AreMembers a (items us)
  pub first : AreMembers e (items us)
  pub second : AreMembers e (items ws)
  pub gives : k a e ≡ Ok s

two_sets_ok : (ss : List PlainSort) (vs : List PlainValue) (k : PlainSort → PlainSort → Sorted) (s : PlainSort) → two_sets ss k ≡ Ok s → AreOfSorts ss vs → TwoSets vs k s
two_sets_ok ss vs k s p h =
    let r = with_two_ok ss (λ s t. with_set s (λ a. with_set t (λ b. with_join (join a b) (k a)))) s p in
    let x = with_set_ok r.0 (λ a. with_set r.1 (λ b. with_join (join a b) (k a))) s r.3 in
    let y = with_set_ok r.1 (λ b. with_join (join x.0 b) (k x.0)) s x.2 in
    let z = with_join_ok (join x.0 y.0) (k x.0) s y.2 in
    let w = two_values r.0 r.1 vs (subst (λ z. AreOfSorts z vs) r.2 h) in
    let i = set_parts x.0 w.0 (subst (λ z. IsOfSort z w.0) x.1 w.3) in
    let l = set_parts y.0 w.1 (subst (λ z. IsOfSort z w.1) y.1 w.4) in
    let m : AreMembers x.0 (items i.0) = record { each = i.2; ascends = i.3 } in
    record {
      a = x.0;
      e = z.0;
      us = i.0;
      ws = l.0;
      are = w.2 ∙ (λ o. i.1 o ∷ l.1 o ∷ []);
      of_first = m;
      first = AreMembers-weaker x.0 z.0 (items i.0) (λ v. IsOfSort-left x.0 y.0 z.0 v z.1) m;
      second = AreMembers-weaker y.0 z.0 (items l.0) (λ v. IsOfSort-right x.0 y.0 z.0 v z.1) (record { each = l.2; ascends = l.3 });
      gives = z.2;
    }

-- a value and a set that have a common sort
record ValueAndSet (vs : List PlainValue) (k : PlainSort → PlainSort → Sorted) (s : PlainSort) : Type 0 where
  pub a : PlainSort
  pub e : PlainSort
  pub x : PlainValue
  pub us : PlainValues
  pub are : vs ≡ x ∷ set us ∷ []
  pub value : IsOfSort e x
  pub of_set : AreMembers a (items us)
  pub members : AreMembers e (items us)
  pub gives : k a e ≡ Ok s

value_and_set_ok : (ss : List PlainSort) (vs : List PlainValue) (k : PlainSort → PlainSort → Sorted) (s : PlainSort) → value_and_set ss k ≡ Ok s → AreOfSorts ss vs → ValueAndSet vs k s
value_and_set_ok ss vs k s p h =
    let r = with_two_ok ss (λ x s. with_set s (λ a. with_join (join x a) (k a))) s p in
    let x = with_set_ok r.1 (λ a. with_join (join r.0 a) (k a)) s r.3 in
    let z = with_join_ok (join r.0 x.0) (k x.0) s x.2 in
    let w = two_values r.0 r.1 vs (subst (λ z. AreOfSorts z vs) r.2 h) in
    let i = set_parts x.0 w.1 (subst (λ z. IsOfSort z w.1) x.1 w.4) in
    let m : AreMembers x.0 (items i.0) = record { each = i.2; ascends = i.3 } in
    record {
      a = x.0;
      e = z.0;
      x = w.0;
      us = i.0;
      are = w.2 ∙ (λ o. w.0 ∷ i.1 o ∷ []);
      value = IsOfSort-left r.0 x.0 z.0 w.0 z.1 w.3;
      of_set = m;
      members = AreMembers-weaker x.0 z.0 (items i.0) (λ v. IsOfSort-right r.0 x.0 z.0 v z.1) m;
      gives = z.2;
    }

-- ---- ranges

numbers_pass : (q : PlainValue → Bool) (m : ℤ) (c : ℕ) → ((k : ℤ) → m ≤ℤ k → k <ℤ (m +ℤ pos c) → q (int k) ≡ true) → list_all q (numbers m c) ≡ true
numbers_pass q m zero f = refl
numbers_pass q m (suc c) f =
    and_both (q (int m)) (list_all q (numbers (m +ℤ pos 1) c)) (f m (omega (arith, int_rules)) (omega (arith, int_rules)))
    (numbers_pass q (m +ℤ pos 1) c (λ k l u. f k (omega (arith, int_rules, l)) (omega (arith, int_rules, u))))

gap_reaches : (m n : ℤ) → m ≤ℤ n → m +ℤ pos (int_gap m n) ≡ n
gap_reaches (pos a) (pos b) p = omega (arith, int_rules)
gap_reaches (pos a) (negsuc b) p = absurd (omega (arith, int_rules))
gap_reaches (negsuc a) (pos b) p = omega (arith, int_rules)
gap_reaches (negsuc a) (negsuc b) p = omega (arith, int_rules)

is_le : (a b : ℤ) → int_le a b ≡ true → a ≤ℤ b
is_le a b h = grind (arith, int_rules)

is_gt : (a b : ℤ) → int_le a b ≡ false → b <ℤ a
is_gt a b h = grind (arith, int_rules)

range_pass : (q : PlainValue → Bool) (m n : ℤ) → ((k : ℤ) → m ≤ℤ k → k ≤ℤ n → q (int k) ≡ true) → list_all q (numbers m (interval_count m n)) ≡ true
range_pass q m n f = by (int_le m n) refl
  where
    by : (c : Bool) → int_le m n ≡ c → list_all q (numbers m (cond c (int_gap m n + 1) 0)) ≡ true
    by true e = numbers_pass q m (int_gap m n + 1) (λ k l u. f k l (omega (arith, int_rules, u, gap_reaches m n (is_le m n e))))
    by false e = refl

range_of_sort : (t : PlainSort) (m n : ℤ) → ((k : ℤ) → m ≤ℤ k → k ≤ℤ n → has_sort t (int k) ≡ true) → IsOfSort (sets t) (set_value Range (int m ∷ int n ∷ []))
range_of_sort t m n f =
    record {
      has = ap (list_all (has_sort t)) (items_row (numbers m (interval_count m n))) ∙ range_pass (has_sort t) m n f;
      canonical = IsCanonical-range (int m) (int n);
    }

range_sound : (a d m n : ℤ) (s : PlainSort) → a ≤ℤ m → n ≤ℤ d → range_sort a d ≡ Ok s → Sound s (set_value Range (int m ∷ int n ∷ []))
range_sound a d m n s p q e = by (int_le a d) refl e
  where
    by : (c : Bool) → int_le a d ≡ c → cond c (allowed (sets (ints a d))) (ok (sets never)) ≡ ok s → Sound s (set_value Range (int m ∷ int n ∷ []))
    by true g r =
        allowed_sound (sets (ints a d)) s (set_value Range (int m ∷ int n ∷ []))
        (range_of_sort (ints a d) m n (λ k l u. within a d k (omega (arith, int_rules, l, p)) (omega (arith, int_rules, u, q)))) r
    by false g r =
        subst (λ z. Sound z (set_value Range (int m ∷ int n ∷ []))) (ok_same (sets never) s r)
        (record { of_sort = range_of_sort never m n (λ k l u. absurd (omega (arith, int_rules, l, u, p, q, is_gt a d g))); sort_allowed = refl })

-- ---- the operators

first_of_sort : (e : PlainSort) (vs : List PlainValue) (d : PlainValue) → Each (IsOfSort e) vs → IsOfSort e d → IsOfSort e (first_or vs d)
first_of_sort e [] d h k = k
first_of_sort e (v ∷ vs) d h k = h.0

least_sound : (ss : List PlainSort) (vs : List PlainValue) (s : PlainSort) → set_sort Least ss ≡ Ok s → AreOfSorts ss vs → Sound s (set_value Least vs)
least_sound ss vs s p h =
    let r = with_two_ok ss (λ s d. with_set s (λ a. with_join (join a d) allowed)) s p in
    let x = with_set_ok r.0 (λ a. with_join (join a r.1) allowed) s r.3 in
    let z = with_join_ok (join x.0 r.1) allowed s x.2 in
    let w = two_values r.0 r.1 vs (subst (λ z. AreOfSorts z vs) r.2 h) in
    let i = set_parts x.0 w.0 (subst (λ z. IsOfSort z w.0) x.1 w.3) in
    at_values Least vs (set i.0 ∷ w.1 ∷ []) s (w.2 ∙ (λ o. i.1 o ∷ w.1 ∷ []))
    (allowed_sound z.0 s (first_or (items i.0) w.1)
    (first_of_sort z.0 (items i.0) w.1 (Each-weaker (IsOfSort x.0) (IsOfSort z.0) (λ v. IsOfSort-left x.0 r.1 z.0 v z.1) (items i.0) i.2) (IsOfSort-right x.0 r.1 z.0 w.1 z.1 w.4)) z.2)

-- the sum of a set, with each sum on the way
pub sum_evaluates : (ss : List PlainSort) (vs : List PlainValue) (s : PlainSort) → set_sort Sum ss ≡ Ok s → list_all is_allowed ss ≡ true → AreOfSorts ss vs → Evaluates s (set_value Sum vs) (members_small vs)
sum_evaluates ss vs s p q h =
    let r = one_set_ok ss vs (λ a. sum_sort (count_of a) a) s p q h in
    let k = summed (count_of r.a) r.a s (items r.us) r.gives r.members.each (members_counted r.a (items r.us) r.set_allowed r.members) in
    subst (λ z. Evaluates s (set_value Sum z) (members_small z)) (sym r.are) k

pub set_sound : (o : SetOp) (ss : List PlainSort) (vs : List PlainValue) (s : PlainSort) → set_sort o ss ≡ Ok s → list_all is_allowed ss ≡ true → AreOfSorts ss vs → Sound s (set_value o vs)
set_sound Set ss vs s p q h =
    let r = with_join_ok (join_all ss) (λ a. allowed (sets a)) s p in
    made r.0 s (set_of vs) r.2 (AreMembers-union r.0 vs [] (Each-join_all ss vs r.0 r.1 h) (record { each = tt; ascends = tt }))
set_sound Range ss vs s p q h =
    let r = two_ints_ok ss vs (λ a b c d. range_sort a d) s p h in
    at_values Range vs (int r.m ∷ int r.n ∷ []) s r.are (range_sound r.a r.d r.m r.n s r.low r.high' r.gives)
set_sound In ss vs s p q h =
    let r = value_and_set_ok ss vs (λ a e. ok bools) s p h in at_values In vs (r.x ∷ set r.us ∷ []) s r.are (truth_sound (is_member r.x (items r.us)) s r.gives)
set_sound Subset ss vs s p q h =
    let r = two_sets_ok ss vs (λ a e. ok bools) s p h in
    at_values Subset vs (set r.us ∷ set r.ws ∷ []) s r.are (truth_sound (is_subset (items r.us) (items r.ws)) s r.gives)
set_sound Union ss vs s p q h =
    let r = two_sets_ok ss vs (λ a e. allowed (sets e)) s p h in
    at_values Union vs (set r.us ∷ set r.ws ∷ []) s r.are
    (made r.e s (sets_of.union (items r.us) (items r.ws)) r.gives (AreMembers-union r.e (items r.us) (items r.ws) r.first.each r.second))
set_sound With ss vs s p q h =
    let r = value_and_set_ok ss vs (λ a e. allowed (sets e)) s p h in
    at_values With vs (r.x ∷ set r.us ∷ []) s r.are (made r.e s (put r.x (items r.us)) r.gives (AreMembers-put r.e r.x (items r.us) r.value r.members))
set_sound Inter ss vs s p q h =
    let r = two_sets_ok ss vs (λ a e. allowed (sets a)) s p h in
    at_values Inter vs (set r.us ∷ set r.ws ∷ []) s r.are
    (made r.a s (sets_of.inter (items r.us) (items r.ws)) r.gives (AreMembers-filter r.a (λ v. is_member v (items r.ws)) (items r.us) r.of_first))
set_sound Diff ss vs s p q h =
    let r = two_sets_ok ss vs (λ a e. allowed (sets a)) s p h in
    at_values Diff vs (set r.us ∷ set r.ws ∷ []) s r.are
    (made r.a s (sets_of.diff (items r.us) (items r.ws)) r.gives (AreMembers-filter r.a (λ v. not (is_member v (items r.ws))) (items r.us) r.of_first))
set_sound Without ss vs s p q h =
    let r = value_and_set_ok ss vs (λ a e. allowed (sets a)) s p h in
    at_values Without vs (r.x ∷ set r.us ∷ []) s r.are
    (made r.a s (filter (λ v. not (value_eq v r.x)) (items r.us)) r.gives (AreMembers-filter r.a (λ v. not (value_eq v r.x)) (items r.us) r.of_set))
set_sound Card ss vs s p q h =
    let r = one_set_ok ss vs (λ a. allowed (ints (pos 0) (pos (count_of a)))) s p q h in
    at_values Card vs (set r.us ∷ []) s r.are
    (interval_sound (pos 0) (pos (count_of r.a)) (pos (length (items r.us))) s (omega (arith, int_rules)) (omega (arith, int_rules, members_counted r.a (items r.us) r.set_allowed r.members)) r.gives)
set_sound Sum ss vs s p q h = (sum_evaluates ss vs s p q h).sound
set_sound Least ss vs s p q h = least_sound ss vs s p h

pub set_evaluates : (o : SetOp) (ss : List PlainSort) (vs : List PlainValue) (s : PlainSort) → set_sort o ss ≡ Ok s → list_all is_allowed ss ≡ true → AreOfSorts ss vs → Evaluates s (set_value o vs) (op_small (operator.Set o) vs)
set_evaluates Sum ss vs s p q h = sum_evaluates ss vs s p q h
set_evaluates o ss vs s p q h = record { sound = set_sound o ss vs s p q h; stays = refl }
