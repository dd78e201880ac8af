-- What a sort that was found says of the sorts and values below it.
use Rattle.std.proofs.Common.{◌≡◌, ℤ, Bool, true, false, List, [], ◌∷◌, Option, Some, None, Result, Ok, Err, refl, sym, ap, ◌∙◌, cond, subst, arith}
use Rattle.std.specs.Prelude.{◌≤ℤ◌, ◌&&◌, int_le}
use Rattle.std.proofs.lemmas.Int.{ints as int_rules}
use Rattle.kid_value.specs.PlainValue.{PlainValue, int, bool, pair, set, seq, map_of, tag}
use Rattle.kid_value.specs.PlainSort.{PlainSort, never, bools, ints, sets, has_sort}
use Rattle.kid_value.specs.SortLimits.{is_allowed}
use Rattle.kid_term.specs.Sorted.{Fault, Sorted, Bounds, ◌>>=◌, allowed, with_one, with_two, with_three, with_four, with_bool, with_ints, with_set, with_join}
use Rattle.kid_term.specs.NumberSorts.{two_ints}
use Rattle.kid_term.specs.Fitting.{IsOfSort, AreOfSorts}

pub bind_ok : {A B : Type 0} (r : Result A Fault) (f : A → Result B Fault) (y : B) → (r >>= f) ≡ Ok y → (x : A) × (r ≡ Ok x) × (f x ≡ Ok y)
bind_ok (Ok x) f y p = (x, refl, p)
bind_ok (Err e) f y p = cc

abbrev pub ok : PlainSort → Sorted
ok s = Ok s

pub ok_same : (a b : PlainSort) → ok a ≡ ok b → a ≡ b
ok_same a b p = cc

pub allowed_ok : (a s : PlainSort) → allowed a ≡ Ok s → (a ≡ s) × (is_allowed s ≡ true)
allowed_ok a s p = by (is_allowed a) refl p
  where
    by : (c : Bool) → is_allowed a ≡ c → cond c (ok a) (Err Bounds) ≡ ok s → (a ≡ s) × (is_allowed s ≡ true)
    by true e p = let q : a ≡ s = cc in (q, ap is_allowed (sym q) ∙ e)
    by false e p = cc

pub with_one_ok : (ss : List PlainSort) (k : PlainSort → Sorted) (s : PlainSort) → with_one ss k ≡ Ok s → (a : PlainSort) × (ss ≡ a ∷ []) × (k a ≡ Ok s)
with_one_ok [] k s p = cc
with_one_ok (a ∷ []) k s p = (a, refl, p)
with_one_ok (a ∷ b ∷ ss) k s p = cc

pub with_two_ok : (ss : List PlainSort) (k : PlainSort → PlainSort → Sorted) (s : PlainSort) → with_two ss k ≡ Ok s → (a b : PlainSort) × (ss ≡ a ∷ b ∷ []) × (k a b ≡ Ok s)
with_two_ok [] k s p = cc
with_two_ok (a ∷ []) k s p = cc
with_two_ok (a ∷ b ∷ []) k s p = (a, b, refl, p)
with_two_ok (a ∷ b ∷ c ∷ ss) k s p = cc

pub with_three_ok : (ss : List PlainSort) (k : PlainSort → PlainSort → PlainSort → Sorted) (s : PlainSort) → with_three ss k ≡ Ok s
    → (a b c : PlainSort) × (ss ≡ a ∷ b ∷ c ∷ []) × (k a b c ≡ Ok s)
with_three_ok [] k s p = cc
with_three_ok (a ∷ []) k s p = cc
with_three_ok (a ∷ b ∷ []) k s p = cc
with_three_ok (a ∷ b ∷ c ∷ []) k s p = (a, b, c, refl, p)
with_three_ok (a ∷ b ∷ c ∷ d ∷ ss) k s p = cc

pub with_four_ok : (ss : List PlainSort) (k : PlainSort → PlainSort → PlainSort → PlainSort → Sorted) (s : PlainSort) → with_four ss k ≡ Ok s
    → (a b c d : PlainSort) × (ss ≡ a ∷ b ∷ c ∷ d ∷ []) × (k a b c d ≡ Ok s)
with_four_ok [] k s p = cc
with_four_ok (a ∷ []) k s p = cc
with_four_ok (a ∷ b ∷ []) k s p = cc
with_four_ok (a ∷ b ∷ c ∷ []) k s p = cc
with_four_ok (a ∷ b ∷ c ∷ d ∷ []) k s p = (a, b, c, d, refl, p)
with_four_ok (a ∷ b ∷ c ∷ d ∷ e ∷ ss) k s p = cc

pub with_ints_ok : (a : PlainSort) (k : ℤ → ℤ → Sorted) (s : PlainSort) → with_ints a k ≡ Ok s → (lo hi : ℤ) × (a ≡ ints lo hi) × (k lo hi ≡ Ok s)
with_ints_ok (ints lo hi) k s p = (lo, hi, refl, p)
with_ints_ok a k s p = cc

pub with_bool_ok : (a : PlainSort) (r : Sorted) (s : PlainSort) → with_bool a r ≡ Ok s → (a ≡ bools) × (r ≡ Ok s)
with_bool_ok bools r s p = (refl, p)
with_bool_ok a r s p = cc

pub with_set_ok : (a : PlainSort) (k : PlainSort → Sorted) (s : PlainSort) → with_set a k ≡ Ok s → (e : PlainSort) × (a ≡ sets e) × (k e ≡ Ok s)
with_set_ok (sets e) k s p = (e, refl, p)
with_set_ok a k s p = cc

pub with_join_ok : (o : Option PlainSort) (k : PlainSort → Sorted) (s : PlainSort) → with_join o k ≡ Ok s → (a : PlainSort) × (o ≡ Some a) × (k a ≡ Ok s)
with_join_ok None k s p = cc
with_join_ok (Some a) k s p = (a, refl, p)

-- one value, two, three
pub one_value : (a : PlainSort) (vs : List PlainValue) → AreOfSorts (a ∷ []) vs → (v : PlainValue) × (vs ≡ v ∷ []) × IsOfSort a v
one_value a [] h = absurd h
one_value a (v ∷ []) h = (v, refl, h.0)
one_value a (v ∷ w ∷ vs) h = absurd h.1

pub two_values : (a b : PlainSort) (vs : List PlainValue) → AreOfSorts (a ∷ b ∷ []) vs → (v w : PlainValue) × (vs ≡ v ∷ w ∷ []) × IsOfSort a v × IsOfSort b w
two_values a b [] h = absurd h
two_values a b (v ∷ []) h = absurd h.1
two_values a b (v ∷ w ∷ []) h = (v, w, refl, h.0, h.1.0)
two_values a b (v ∷ w ∷ x ∷ vs) h = absurd h.1.1

pub three_values : (a b c : PlainSort) (vs : List PlainValue) → AreOfSorts (a ∷ b ∷ c ∷ []) vs
    → (u v w : PlainValue) × (vs ≡ u ∷ v ∷ w ∷ []) × IsOfSort a u × IsOfSort b v × IsOfSort c w
three_values a b c [] h = absurd h
three_values a b c (u ∷ []) h = absurd h.1
three_values a b c (u ∷ v ∷ []) h = absurd h.1.1
three_values a b c (u ∷ v ∷ w ∷ []) h = (u, v, w, refl, h.0, h.1.0, h.1.1.0)
three_values a b c (u ∷ v ∷ w ∷ x ∷ vs) h = absurd h.1.1.1

pub four_values : (a b c d : PlainSort) (vs : List PlainValue) → AreOfSorts (a ∷ b ∷ c ∷ d ∷ []) vs
    → (u v w x : PlainValue) × (vs ≡ u ∷ v ∷ w ∷ x ∷ []) × IsOfSort a u × IsOfSort b v × IsOfSort c w × IsOfSort d x
four_values a b c d [] h = absurd h
four_values a b c d (u ∷ []) h = absurd h.1
four_values a b c d (u ∷ v ∷ []) h = absurd h.1.1
four_values a b c d (u ∷ v ∷ w ∷ []) h = absurd h.1.1.1
four_values a b c d (u ∷ v ∷ w ∷ x ∷ []) h = (u, v, w, x, refl, h.0, h.1.0, h.1.1.0, h.1.1.1.0)
four_values a b c d (u ∷ v ∷ w ∷ x ∷ y ∷ vs) h = absurd h.1.1.1.1

int_within : (lo hi n : ℤ) → (int_le lo n && int_le n hi) ≡ true → (lo ≤ℤ n) × (n ≤ℤ hi)
int_within lo hi n h = (low lo hi n h, high lo hi n h)
  where
    low : (lo hi n : ℤ) → (int_le lo n && int_le n hi) ≡ true → lo ≤ℤ n
    low lo hi n h = grind (arith, int_rules)

    high : (lo hi n : ℤ) → (int_le lo n && int_le n hi) ≡ true → n ≤ℤ hi
    high lo hi n h = grind (arith, int_rules)

-- a value of an integer sort is an integer within it, and one of the sort of truth values is true or false
pub int_of : (lo hi : ℤ) (v : PlainValue) → has_sort (ints lo hi) v ≡ true → (n : ℤ) × (v ≡ int n) × (lo ≤ℤ n) × (n ≤ℤ hi)
int_of lo hi (int n) h = let r = int_within lo hi n h in (n, refl, r.0, r.1)
int_of lo hi v h = cc

pub bool_of : (v : PlainValue) → has_sort bools v ≡ true → (b : Bool) × (v ≡ bool b)
bool_of (bool b) h = (b, refl)
bool_of v h = cc

pub none_of : (v : PlainValue) → has_sort never v ≡ true → ⊥
none_of (int n) h = cc
none_of (bool b) h = cc
none_of (pair a b) h = cc
none_of (set vs) h = cc
none_of (seq vs) h = cc
none_of (map_of es) h = cc
none_of (tag n) h = cc

-- two integers between their bounds, and what is made of those
pub record TwoInts (vs : List PlainValue) (k : ℤ → ℤ → ℤ → ℤ → Sorted) (s : PlainSort) : Type 0 where
  pub a : ℤ
  pub b : ℤ
  pub c : ℤ
  pub d : ℤ
  pub m : ℤ
  pub n : ℤ
  pub are : vs ≡ int m ∷ int n ∷ []
  pub low : a ≤ℤ m
  pub high : m ≤ℤ b
  pub low' : c ≤ℤ n
  pub high' : n ≤ℤ d
  pub gives : k a b c d ≡ Ok s

pub two_ints_ok : (ss : List PlainSort) (vs : List PlainValue) (k : ℤ → ℤ → ℤ → ℤ → Sorted) (s : PlainSort) → two_ints ss k ≡ Ok s → AreOfSorts ss vs → TwoInts vs k s
two_ints_ok ss vs k s p h =
    let r = with_two_ok ss (λ s t. with_ints s (λ a b. with_ints t (λ c d. k a b c d))) s p in
    let x = with_ints_ok r.0 (λ a b. with_ints r.1 (λ c d. k a b c d)) s r.3 in
    let y = with_ints_ok r.1 (λ c d. k x.0 x.1 c d) s x.3 in
    let w = two_values r.0 r.1 vs (subst (λ z. AreOfSorts z vs) r.2 h) in
    let i = int_of x.0 x.1 w.0 (ap (λ z. has_sort z w.0) (sym x.2) ∙ w.3.has) in
    let j = int_of y.0 y.1 w.1 (ap (λ z. has_sort z w.1) (sym y.2) ∙ w.4.has) in
    record {
      a = x.0;
      b = x.1;
      c = y.0;
      d = y.1;
      m = i.0;
      n = j.0;
      are = w.2 ∙ (λ o. i.1 o ∷ j.1 o ∷ []);
      low = i.2;
      high = i.3;
      low' = j.2;
      high' = j.3;
      gives = y.3;
    }
