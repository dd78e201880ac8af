-- Walks over two ascending lists pass each value once.
use Rattle.std.proofs.Common.{◌≡◌, ℕ, ◌+◌, ◌<◌, suc, zero, Bool, true, false, List, [], ◌∷◌, ◌++◌, length, get_or, drop, map, refl, sym, ap, ◌∙◌, arith, subst, cond, append_assoc}
use Rattle.std.specs.declared.cmp.Ordering.{Ordering}
use Rattle.std.specs.declared.cmp.Ordering.TheVariants.{Less, Equal, Greater}
use Rattle.std.specs.Ordering.{is_eq, is_lt}
use Rattle.std.specs.Prelude.{not, ◌||◌, ◌&&◌, filter}
use Rattle.std.proofs.Math.Bool.{beq}
use Rattle.std.proofs.lemmas.List.{drop_more, map-append}
use Rattle.kid_value.specs.PlainValue.{PlainValue}
use Rattle.kid_value.specs.ValueOrder.{value_cmp, Before}
use Rattle.kid_value.specs.ValueSet.{value_eq, is_member, AllAfter, Ascends, put, put_by, union, is_subset, all_pass}
use Rattle.kid_value.specs.ValueView.{plain}
use Rattle.kid_value.specs.declared.value.Value.{Value}
use Rattle.kid_value.proofs.ValueOrderLaws.{value_cmp-total, value_cmp-equal}
use Rattle.kid_value.proofs.ValueSetLaws.{AllAfter-before, AllAfter-put, Ascends-union, is_member-union, is_member-after, same_members, value_eq-comm, value_eq-true, Before-greater, value_cmp-itself}
use Rattle.kid_ops.specs.Merged.{from_on, starts_with}
use Rattle.kid_ops.specs.Chosen.{same, chosen}

-- a list that ascends from a place on
pub Ascends-drop : (i : ℕ) (xs : List Value) → Ascends (map plain xs) → Ascends (map plain (drop i xs))
Ascends-drop zero xs a = a
Ascends-drop (suc i) [] a = a
Ascends-drop (suc i) (x ∷ xs) a = Ascends-drop i xs a.1

pub drop_next : (xs : List Value) (i : ℕ) (x : Value) → i < length xs → x ≡ get_or xs i x → map plain (drop i xs) ≡ plain x ∷ map plain (drop (i + 1) xs)
drop_next xs i x l e = ap (map plain) (drop_more xs i x l ∙ ap (λ z. z ∷ drop (i + 1) xs) (sym e))

pub Ascends-from_on : (x : PlainValue) (ys : List PlainValue) → Ascends ys → Ascends (from_on x ys)
Ascends-from_on x [] a = a
Ascends-from_on x (y ∷ ys) a = by_cases (is_lt (value_cmp y x)) (Ascends-from_on x ys a.1)
  where
    by_cases : (b : Bool) → Ascends (from_on x ys) → Ascends (cond b (from_on x ys) (y ∷ ys))
    by_cases true h = h
    by_cases false h = a

less : (o : Ordering) → is_lt o ≡ true → o ≡ Less
less Less p = refl
less Equal p = cc
less Greater p = cc

-- a value that is not before x is among what is left from x on, if among all
pub is_member-from_on : (x z : PlainValue) (ys : List PlainValue) → (Before z x → ⊥) → is_member z (from_on x ys) ≡ is_member z ys
is_member-from_on x z [] n = refl
is_member-from_on x z (y ∷ ys) n = by_cases (is_lt (value_cmp y x)) refl (value_eq z y) refl (is_member-from_on x z ys n)
  where
    by_cases : (b : Bool) → is_lt (value_cmp y x) ≡ b → (c : Bool) → value_eq z y ≡ c → is_member z (from_on x ys) ≡ is_member z ys → is_member z (cond b (from_on x ys) (y ∷ ys)) ≡ (value_eq z y || is_member z ys)
    by_cases true p true q h = absurd (n (subst (λ w. Before w x) (sym (value_eq-true z y q)) (less (value_cmp y x) p)))
    by_cases true p false q h = h ∙ sym (ap (λ c. c || is_member z ys) q)
    by_cases false p c q h = refl

pub starts_with-is : (x : PlainValue) (ys : List PlainValue) → Ascends ys → starts_with x (from_on x ys) ≡ is_member x ys
starts_with-is x [] a = refl
starts_with-is x (y ∷ ys) a = by_cases (value_cmp y x) refl (starts_with-is x ys a.1)
  where
    eq : value_eq x y ≡ is_eq (value_cmp y x)
    eq = value_eq-comm x y

    by_cases : (o : Ordering) → value_cmp y x ≡ o → starts_with x (from_on x ys) ≡ is_member x ys → starts_with x (cond (is_lt o) (from_on x ys) (y ∷ ys)) ≡ is_member x (y ∷ ys)
    by_cases Less p h = h ∙ sym (ap (λ c. c || is_member x ys) (eq ∙ ap is_eq p))
    by_cases Equal p h = ap is_eq p ∙ sym (ap (λ c. c || is_member x ys) (eq ∙ ap is_eq p))
    by_cases Greater p h = ap is_eq p ∙ sym (ap (λ c. c || is_member x ys) (eq ∙ ap is_eq p) ∙ is_member-after x ys (AllAfter-before x y ys (Before-greater y x p) a.0))

not-before : (x z : PlainValue) → Before x z → Before z x → ⊥
not-before x z p q = let e : Less ≡ Equal = sym (value_cmp-total.trans x z x p q) ∙ value_cmp-itself x in cc

not-itself : (x : PlainValue) → Before x x → ⊥
not-itself x p = let e : Less ≡ Equal = sym p ∙ value_cmp-itself x in cc

-- a filter on what comes after x
filter-after : (x : PlainValue) (zs : List PlainValue) (p q : PlainValue → Bool) → AllAfter x zs → ((z : PlainValue) → Before x z → p z ≡ q z) → filter p zs ≡ filter q zs
filter-after x [] p q a h = refl
filter-after x (z ∷ zs) p q a h = λ i. cond (h z a.0 i) (z ∷ filter-after x zs p q a.1 h i) (filter-after x zs p q a.1 h i)

pass-after : (x : PlainValue) (zs : List PlainValue) (p q : PlainValue → Bool) → AllAfter x zs → ((z : PlainValue) → Before x z → p z ≡ q z) → all_pass p zs ≡ all_pass q zs
pass-after x [] p q a h = refl
pass-after x (z ∷ zs) p q a h = λ i. h z a.0 i && pass-after x zs p q a.1 h i

pub chosen-first : (p : Bool) (x : PlainValue) (xs ys : List PlainValue) → AllAfter x xs → Ascends ys
    → chosen p (x ∷ xs) ys ≡ cond (same p (starts_with x (from_on x ys))) (x ∷ chosen p xs (from_on x ys)) (chosen p xs (from_on x ys))
chosen-first p x xs ys a b =
    let h : chosen p xs ys ≡ chosen p xs (from_on x ys) =
    filter-after x xs (λ z. same p (is_member z ys)) (λ z. same p (is_member z (from_on x ys))) a (λ z l. ap (same p) (sym (is_member-from_on x z ys (not-before x z l)))) in
    λ i. cond (same p (sym (starts_with-is x ys b) i)) (x ∷ h i) (h i)

pub is_subset-first : (x : PlainValue) (xs ys : List PlainValue) → AllAfter x xs → Ascends ys → is_subset (x ∷ xs) ys ≡ (starts_with x (from_on x ys) && is_subset xs (from_on x ys))
is_subset-first x xs ys a b =
    let h : is_subset xs ys ≡ is_subset xs (from_on x ys) =
    pass-after x xs (λ z. is_member z ys) (λ z. is_member z (from_on x ys)) a (λ z l. sym (is_member-from_on x z ys (not-before x z l))) in
    λ i. sym (starts_with-is x ys b) i && h i

-- a union by the least values of both lists
AllAfter-union : (x : PlainValue) (ys zs : List PlainValue) → AllAfter x ys → AllAfter x zs → AllAfter x (union ys zs)
AllAfter-union x [] zs a b = b
AllAfter-union x (y ∷ ys) zs a b = AllAfter-put x y (union ys zs) a.0 (AllAfter-union x ys zs a.1 b)

put-first : (x : PlainValue) (ys : List PlainValue) → AllAfter x ys → put x ys ≡ x ∷ ys
put-first x [] a = refl
put-first x (y ∷ ys) a = ap (λ o. put_by o x y ys (put x ys)) a.0

pub union-none : (xs : List PlainValue) → Ascends xs → union xs [] ≡ xs
union-none [] a = refl
union-none (x ∷ xs) a = ap (put x) (union-none xs a.1) ∙ put-first x xs a.0

or_double : (a m n : Bool) → (a || m || (a || n)) ≡ (a || (m || n))
or_double true m n = refl
or_double false m n = refl

or_turned : (m b n : Bool) → (m || (b || n)) ≡ (b || (m || n))
or_turned true true n = refl
or_turned true false n = refl
or_turned false b n = refl

pub union-less : (x y : PlainValue) (xs ys : List PlainValue) → Ascends (x ∷ xs) → Ascends (y ∷ ys) → value_cmp x y ≡ Less → union (x ∷ xs) (y ∷ ys) ≡ x ∷ union xs (y ∷ ys)
union-less x y xs ys a b p = put-first x (union xs (y ∷ ys)) (AllAfter-union x xs (y ∷ ys) a.0 (p, AllAfter-before x y ys p b.0))

pub union-equal : (x y : PlainValue) (xs ys : List PlainValue) → Ascends (x ∷ xs) → Ascends (y ∷ ys) → value_cmp x y ≡ Equal → union (x ∷ xs) (y ∷ ys) ≡ x ∷ union xs ys
union-equal x y xs ys a b p =
    let e : y ≡ x = sym (value_cmp-equal x y p) in
    same_members (union (x ∷ xs) (y ∷ ys)) (x ∷ union xs ys) (Ascends-union (x ∷ xs) (y ∷ ys) b)
    (AllAfter-union x xs ys a.0 (subst (λ z. AllAfter z ys) e b.0), Ascends-union xs ys b.1)
    (λ v. is_member-union v (x ∷ xs) (y ∷ ys) ∙ ap (λ z. value_eq v x || is_member v xs || (value_eq v z || is_member v ys)) e ∙ or_double (value_eq v x) (is_member v xs) (is_member v ys) ∙ ap (λ c. value_eq v x || c) (sym (is_member-union v xs ys)))

pub union-greater : (x y : PlainValue) (xs ys : List PlainValue) → Ascends (x ∷ xs) → Ascends (y ∷ ys) → value_cmp x y ≡ Greater → union (x ∷ xs) (y ∷ ys) ≡ y ∷ union (x ∷ xs) ys
union-greater x y xs ys a b p =
    let q : Before y x = Before-greater x y p in
    same_members (union (x ∷ xs) (y ∷ ys)) (y ∷ union (x ∷ xs) ys) (Ascends-union (x ∷ xs) (y ∷ ys) b)
    (AllAfter-union y (x ∷ xs) ys (q, AllAfter-before y x xs q a.0) b.0, Ascends-union (x ∷ xs) ys b.1)
    (λ v. is_member-union v (x ∷ xs) (y ∷ ys) ∙ or_turned (is_member v (x ∷ xs)) (value_eq v y) (is_member v ys) ∙ ap (λ c. value_eq v y || c) (sym (is_member-union v (x ∷ xs) ys)))

-- the same of lists of the program's values
module _ (xs ys : List Value) (a : Ascends (map plain xs)) (b : Ascends (map plain ys)) where
  pub least-alone : (x : Value) (us : List Value) → xs ≡ x ∷ us → length ys ≡ 0 → union (map plain xs) (map plain ys) ≡ plain x ∷ union (map plain us) (map plain ys)
  least-alone x us e n =
      let f : ys ≡ [] = empty ys n in
      let h : Ascends (plain x ∷ map plain us) = subst (λ z. Ascends (map plain z)) e a in
      (λ i. union (map plain (e i)) (map plain (f i))) ∙ union-none (plain x ∷ map plain us) h ∙ ap (λ z. plain x ∷ z) (sym (union-none (map plain us) h.1)) ∙ ap (λ z. plain x ∷ union (map plain us) (map plain z)) (sym f)
    where
      empty : (zs : List Value) → length zs ≡ 0 → zs ≡ []
      empty [] n = refl
      empty (z ∷ zs) n = absurd (omega arith)

  module _ (x y : Value) (us vs : List Value) (e : xs ≡ x ∷ us) (f : ys ≡ y ∷ vs) where
    h : Ascends (plain x ∷ map plain us)
    h = subst (λ z. Ascends (map plain z)) e a

    k : Ascends (plain y ∷ map plain vs)
    k = subst (λ z. Ascends (map plain z)) f b

    whole : union (map plain xs) (map plain ys) ≡ union (plain x ∷ map plain us) (plain y ∷ map plain vs)
    whole = λ i. union (map plain (e i)) (map plain (f i))

    pub least-less : value_cmp (plain x) (plain y) ≡ Less → union (map plain xs) (map plain ys) ≡ plain x ∷ union (map plain us) (map plain ys)
    least-less p = whole ∙ union-less (plain x) (plain y) (map plain us) (map plain vs) h k p ∙ ap (λ z. plain x ∷ union (map plain us) (map plain z)) (sym f)

    pub least-equal : value_cmp (plain x) (plain y) ≡ Equal → union (map plain xs) (map plain ys) ≡ plain x ∷ union (map plain us) (map plain vs)
    least-equal p = whole ∙ union-equal (plain x) (plain y) (map plain us) (map plain vs) h k p

    pub least-greater : value_cmp (plain x) (plain y) ≡ Greater → union (map plain xs) (map plain ys) ≡ plain y ∷ union (map plain xs) (map plain vs)
    least-greater p = whole ∙ union-greater (plain x) (plain y) (map plain us) (map plain vs) h k p ∙ ap (λ z. plain y ∷ union (map plain z) (map plain vs)) (sym e)

union-last : (front ys : List PlainValue) (v : PlainValue) → union (front ++ v ∷ []) ys ≡ union front (put v ys)
union-last [] ys v = refl
union-last (x ∷ front) ys v = ap (put x) (union-last front ys v)

-- a union whose last value is put first
pub union-put : {X : Type 0} (f : X → PlainValue) (all front : List X) (v : X) (ys : List PlainValue) → all ≡ front ++ v ∷ [] → union (map f all) ys ≡ union (map f front) (put (f v) ys)
union-put f all front v ys e = ap (λ z. union z ys) (ap (map f) e ∙ map-append f front (v ∷ [])) ∙ union-last (map f front) ys (f v)

pub same-is : (p s : Bool) → beq s p ≡ same p s
same-is true true = refl
same-is true false = refl
same-is false true = refl
same-is false false = refl

-- a step of a walk: what is left of the second list from x on
module _ (xs rest later : List Value) (i : ℕ) (x : Value) (a : Ascends (map plain xs)) (b : Ascends (map plain rest)) (l : i < length xs) (e : x ≡ get_or xs i x) (r : map plain later ≡ from_on (plain x) (map plain rest)) where
  after : AllAfter (plain x) (map plain (drop (i + 1) xs))
  after = let h : Ascends (plain x ∷ map plain (drop (i + 1) xs)) = subst Ascends (drop_next xs i x l e) (Ascends-drop i xs a) in h.0

  pub later-ascends : Ascends (map plain later)
  later-ascends = subst Ascends (sym r) (Ascends-from_on (plain x) (map plain rest) b)

  pub subset-step : is_subset (map plain (drop i xs)) (map plain rest) ≡ (starts_with (plain x) (map plain later) && is_subset (map plain (drop (i + 1) xs)) (map plain later))
  subset-step =
      ap (λ z. is_subset z (map plain rest)) (drop_next xs i x l e) ∙ is_subset-first (plain x) (map plain (drop (i + 1) xs)) (map plain rest) after b
      ∙ ap (λ z. starts_with (plain x) z && is_subset (map plain (drop (i + 1) xs)) z) (sym r)

  chosen-step : (p : Bool) → chosen p (map plain (drop i xs)) (map plain rest)
      ≡ cond (same p (starts_with (plain x) (map plain later))) (plain x ∷ chosen p (map plain (drop (i + 1) xs)) (map plain later)) (chosen p (map plain (drop (i + 1) xs)) (map plain later))
  chosen-step p =
      ap (λ z. chosen p z (map plain rest)) (drop_next xs i x l e) ∙ chosen-first p (plain x) (map plain (drop (i + 1) xs)) (map plain rest) after b
      ∙ ap (λ z. cond (same p (starts_with (plain x) z)) (plain x ∷ chosen p (map plain (drop (i + 1) xs)) z) (chosen p (map plain (drop (i + 1) xs)) z)) (sym r)

  module _ (p : Bool) (values whole : List PlainValue) (h : values ++ chosen p (map plain (drop i xs)) (map plain rest) ≡ whole) where
    next : (c : Bool) → same p (starts_with (plain x) (map plain later)) ≡ c → values ++ cond c (plain x ∷ chosen p (map plain (drop (i + 1) xs)) (map plain later)) (chosen p (map plain (drop (i + 1) xs)) (map plain later)) ≡ whole
    next c q =
        ap (λ z. values ++ z) (sym (chosen-step p ∙ ap (λ d. cond d (plain x ∷ chosen p (map plain (drop (i + 1) xs)) (map plain later)) (chosen p (map plain (drop (i + 1) xs)) (map plain later))) q)) ∙ h

    pub chosen-more : same p (starts_with (plain x) (map plain later)) ≡ true → (values ++ plain x ∷ []) ++ chosen p (map plain (drop (i + 1) xs)) (map plain later) ≡ whole
    chosen-more q = append_assoc values (plain x ∷ []) _ ∙ next true q

    pub chosen-without : same p (starts_with (plain x) (map plain later)) ≡ false → values ++ chosen p (map plain (drop (i + 1) xs)) (map plain later) ≡ whole
    chosen-without q = next false q

or_false : (b : Bool) → (b || false) ≡ b
or_false true = refl
or_false false = refl

-- the values but for one
pub chosen_others : (x : PlainValue) (xs : List PlainValue) → chosen false xs (x ∷ []) ≡ filter (λ v. not (value_eq v x)) xs
chosen_others x [] = refl
chosen_others x (v ∷ xs) = λ i. cond (not (or_false (value_eq v x) i)) (v ∷ chosen_others x xs i) (chosen_others x xs i)
