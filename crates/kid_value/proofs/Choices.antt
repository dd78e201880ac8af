-- Ascending lists of values, and lists that ascend by their keys: how many there are over given keys.
use Rattle.std.proofs.Common.{◌≡◌, ℕ, ◌+◌, ◌*◌, ◌^◌, suc, Bool, true, false, Ordering, List, [], ◌∷◌, length, map, refl, sym, ap, subst, ◌∙◌, ◌⊎◌, inl, inr}
use Rattle.std.specs.Prelude.{◌||◌}
use Rattle.std.specs.declared.cmp.Ordering.TheVariants.{Less, Equal, Greater}
use Rattle.std.specs.Ordering.{is_eq}
use Rattle.std.proofs.Math.Nat.{pow-suc, pow-zero, suc-mul, mul_comm}
use Rattle.kid_value.specs.PlainValue.{PlainValue}
use Rattle.kid_value.specs.ValueOrder.{Before, value_cmp}
use Rattle.kid_value.specs.ValueSet.{value_eq, is_member, AllAfter, Ascends, put, put_by, union}
use Rattle.kid_value.proofs.ValueSetLaws.{value_eq-itself, value_eq-true, AllAfter-before, Before-member, is_member-union, Ascends-union}
use Rattle.kid_value.proofs.NameLemmas.{or_parts, or_first, or_second}
use Rattle.kid_value.proofs.Listings.{Has, Distinct, Listing, Joint, one_thing, two_kinds, joints, counted_else}

-- a member by the test, and by what is equal to it
pub has-member : (x : PlainValue) (ys : List PlainValue) → Has x ys → is_member x ys ≡ true
has-member x [] h = absurd h
has-member x (y ∷ ys) (inl e) = or_first (value_eq x y) (is_member x ys) (subst (λ z. value_eq x z ≡ true) e (value_eq-itself x))
has-member x (y ∷ ys) (inr h) = or_second (value_eq x y) (is_member x ys) (has-member x ys h)

pub member-has : (x : PlainValue) (ys : List PlainValue) → is_member x ys ≡ true → Has x ys
member-has x [] p = cc
member-has x (y ∷ ys) p = or_parts {A = Has x (y ∷ ys)} (value_eq x y) (is_member x ys) p (λ e. inl (value_eq-true x y e)) (λ q. inr (member-has x ys q))

-- what is before each of a list is before what the list has
pub before_has : (k x : PlainValue) (ks : List PlainValue) → AllAfter k ks → Has x ks → Before k x
before_has k x ks a h = Before-member k x ks a (has-member x ks h)

pub not_before_itself : (k : PlainValue) → Before k k → ⊥
not_before_itself k p = let e : value_eq k k ≡ false = ap is_eq p in let f : true ≡ false = sym (value_eq-itself k) ∙ e in cc

-- the ascending list of the same values
length-put_new : (x : PlainValue) (ys : List PlainValue) → is_member x ys ≡ false → length (put x ys) ≡ suc (length ys)
length-put_new x [] p = refl
length-put_new x (y ∷ ys) p = by (value_cmp x y) refl (length-put_new x ys)
  where
    by : (o : Ordering) → value_cmp x y ≡ o → (is_member x ys ≡ false → length (put x ys) ≡ suc (length ys)) → length (put_by o x y ys (put x ys)) ≡ suc (length (y ∷ ys))
    by Less e ih = refl
    by Equal e ih = let f : true ≡ false = sym (ap (λ o. is_eq o || is_member x ys) e) ∙ p in cc
    by Greater e ih = ap suc (ih (sym (ap (λ o. is_eq o || is_member x ys) e) ∙ p))

not_member : (x : PlainValue) (ys : List PlainValue) → (Has x ys → ⊥) → is_member x ys ≡ false
not_member x ys n = by (is_member x ys) refl
  where
    by : (b : Bool) → is_member x ys ≡ b → is_member x ys ≡ false
    by true e = absurd (n (member-has x ys e))
    by false e = e

or_none : (b : Bool) → (b || false) ≡ b
or_none true = refl
or_none false = refl

length-set : (xs : List PlainValue) → Distinct xs → length (union xs []) ≡ length xs
length-set [] d = refl
length-set (x ∷ xs) d =
    length-put_new x (union xs []) (is_member-union x xs [] ∙ or_none (is_member x xs) ∙ not_member x xs d.0) ∙ ap suc (length-set xs d.1)

pub record Ascending (P : PlainValue → Type 0) (n : ℕ) : Type 0 where
  pub items : List PlainValue
  pub ascends : Ascends items
  pub sound : (x : PlainValue) → Has x items → P x
  pub complete : (x : PlainValue) → P x → Has x items
  pub counted : length items ≡ n

pub ascending : (P : PlainValue → Type 0) (n : ℕ) → Listing P n → Ascending P n
ascending P n l =
    let same : (x : PlainValue) → is_member x (union l.items []) ≡ is_member x l.items = λ x. is_member-union x l.items [] ∙ or_none (is_member x l.items) in
    record {
      items = union l.items [];
      ascends = Ascends-union l.items [] tt;
      sound = λ x h. l.sound x (member-has x l.items (sym (same x) ∙ has-member x (union l.items []) h));
      complete = λ x p. member-has x (union l.items []) (same x ∙ has-member x l.items (l.complete x p));
      counted = length-set l.items l.distinct ∙ l.counted;
    }

module _ {X : Type 0} (key : X → PlainValue) (Q : X → Type 0) where
  -- the things with a key, and the lists that take at most one thing for each key
  abbrev pub At : PlainValue → X → Type 0
  At k x = Q x × (key x ≡ k)

  abbrev pub cons : X → List X → List X
  cons x xs = x ∷ xs

  abbrev pub Chosen : List PlainValue → List X → Type 0
  Chosen [] xs = xs ≡ []
  Chosen (k ∷ ks) xs = Joint cons (At k) (Chosen ks) xs ⊎ Chosen ks xs

  abbrev pub EachOf : List PlainValue → List X → Type 0
  EachOf ks [] = Unit {0}
  EachOf ks (x ∷ xs) = Q x × Has (key x) ks × EachOf ks xs

  head_same : (x v : X) (xs vs : List X) → cons x xs ≡ cons v vs → x ≡ v
  head_same x v xs vs e = cc

  tail_same : (x v : X) (xs vs : List X) → cons x xs ≡ cons v vs → xs ≡ vs
  tail_same x v xs vs e = cc

  more_keys : (k : PlainValue) (ks : List PlainValue) (xs : List X) → EachOf ks xs → EachOf (k ∷ ks) xs
  more_keys k ks [] e = tt
  more_keys k ks (x ∷ xs) e = (e.0, inr e.1, more_keys k ks xs e.2)

  pub chosen-each : (ks : List PlainValue) (xs : List X) → Chosen ks xs → EachOf ks xs
  chosen-each [] xs e = subst (EachOf []) (sym e) tt
  chosen-each (k ∷ ks) xs (inl j) = subst (EachOf (k ∷ ks)) (sym j.4) (j.2.0, inl j.2.1, more_keys k ks j.1 (chosen-each ks j.1 j.3))
  chosen-each (k ∷ ks) xs (inr c) = more_keys k ks xs (chosen-each ks xs c)

  all_after : (k : PlainValue) (ks : List PlainValue) (xs : List X) → AllAfter k ks → EachOf ks xs → AllAfter k (map key xs)
  all_after k ks [] a e = tt
  all_after k ks (x ∷ xs) a e = (before_has k (key x) ks a e.1, all_after k ks xs a e.2)

  pub chosen-ascends : (ks : List PlainValue) (xs : List X) → Ascends ks → Chosen ks xs → Ascends (map key xs)
  chosen-ascends [] xs a e = subst (λ z. Ascends (map key z)) (sym e) tt
  chosen-ascends (k ∷ ks) xs a (inl j) =
      subst (λ z. Ascends (map key z)) (sym j.4)
      (subst (λ z. AllAfter z (map key j.1)) (sym j.2.1) (all_after k ks j.1 a.0 (chosen-each ks j.1 j.3)), chosen-ascends ks j.1 a.1 j.3)
  chosen-ascends (k ∷ ks) xs a (inr c) = chosen-ascends ks xs a.1 c

  fewer_keys : (k : PlainValue) (ks : List PlainValue) (xs : List X) → AllAfter k (map key xs) → EachOf (k ∷ ks) xs → EachOf ks xs
  fewer_keys k ks [] a e = tt
  fewer_keys k ks (x ∷ xs) a e = (e.0, other e.1, fewer_keys k ks xs a.1 e.2)
    where
      other : Has (key x) (k ∷ ks) → Has (key x) ks
      other (inl s) = absurd (not_before_itself k (subst (Before k) s a.0))
      other (inr h) = h

  none_chosen : (ks : List PlainValue) → Chosen ks []
  none_chosen [] = refl
  none_chosen (k ∷ ks) = inr (none_chosen ks)

  pub each-chosen : (ks : List PlainValue) (xs : List X) → Ascends ks → Ascends (map key xs) → EachOf ks xs → Chosen ks xs
  each-chosen ks [] a b e = none_chosen ks
  each-chosen [] (x ∷ xs) a b e = absurd e.1
  each-chosen (k ∷ ks) (x ∷ xs) a b e = by_key e.1 (each-chosen ks xs a.1 b.1) (each-chosen ks (x ∷ xs) a.1 b)
    where
      by_key : Has (key x) (k ∷ ks) → (EachOf ks xs → Chosen ks xs) → (EachOf ks (x ∷ xs) → Chosen ks (x ∷ xs)) → Chosen (k ∷ ks) (x ∷ xs)
      by_key (inl s) first later = inl (x, xs, (e.0, s), first (fewer_keys k ks xs (subst (λ z. AllAfter z (map key xs)) s b.0) e.2), refl)
      by_key (inr h) first later = inr (later (e.0, h, fewer_keys k ks xs (AllAfter-before k (key x) (map key xs) (before_has k (key x) ks a.0 h) b.0) e.2))

  -- how many there are, where there are as many things for each key
  pub choices : (c : ℕ) (ks : List PlainValue) → Ascends ks → ((k : PlainValue) → Listing (At k) c) → Listing (Chosen ks) (suc c ^ length ks)
  choices c [] a each = counted_else (Chosen []) 1 (suc c ^ 0) (sym (pow-zero (suc c))) (one_thing [])
  choices c (k ∷ ks) a each =
      let rest = choices c ks a.1 each in
      let m : ℕ = suc c ^ length ks in
      counted_else (Chosen (k ∷ ks)) (c * m + m) (suc c ^ length (k ∷ ks)) (sym (suc-mul c m) ∙ mul_comm (suc c) m ∙ sym (pow-suc (suc c) (length ks)))
      (two_kinds (Joint cons (At k) (Chosen ks)) (Chosen ks) (c * m) m apart (joints cons head_same tail_same (At k) (Chosen ks) c m (each k) rest) rest)
    where
      apart : (xs : List X) → Joint cons (At k) (Chosen ks) xs → Chosen ks xs → ⊥
      apart xs j h =
          let e : EachOf ks (j.0 ∷ j.1) = subst (EachOf ks) j.4 (chosen-each ks xs h) in
          not_before_itself k (subst (Before k) j.2.1 (before_has k (key j.0) ks a.0 e.1))
