-- Two ascending lists with the same members are one list, and what the set functions do to members.
use Rattle.std.proofs.Common.{◌≡◌, Bool, true, false, List, [], ◌∷◌, Ordering, refl, sym, ap, ◌∙◌, cond, subst, ◌⊎◌, inl, inr}
use Rattle.std.specs.Prelude.{not, ◌||◌, ◌&&◌, filter}
use Rattle.std.specs.declared.cmp.Ordering.TheVariants.{Less, Equal, Greater}
use Rattle.std.specs.Ordering.{is_eq, ordering_reverse}
use Rattle.std.proofs.lemmas.Cmp.{tied_itself}
use Rattle.kid_value.specs.PlainValue.{PlainValue}
use Rattle.kid_value.specs.ValueOrder.{value_cmp, Before}
use Rattle.kid_value.specs.ValueSet.{value_eq, is_member, AllAfter, Ascends, put, put_by, union}
use Rattle.kid_value.proofs.ValueOrderLaws.{value_cmp-total, value_cmp-equal}

pub value_cmp-itself : (x : PlainValue) → value_cmp x x ≡ Equal
value_cmp-itself x = tied_itself value_cmp-total x

pub value_eq-itself : (x : PlainValue) → value_eq x x ≡ true
value_eq-itself x = ap is_eq (value_cmp-itself x)

is_eq-true : (o : Ordering) → is_eq o ≡ true → o ≡ Equal
is_eq-true Less p = cc
is_eq-true Equal p = refl
is_eq-true Greater p = cc

pub value_eq-true : (x y : PlainValue) → value_eq x y ≡ true → x ≡ y
value_eq-true x y p = value_cmp-equal x y (is_eq-true _ p)

pub value_eq-comm : (x y : PlainValue) → value_eq x y ≡ value_eq y x
value_eq-comm x y = ap is_eq (value_cmp-total.antisymm x y) ∙ back (value_cmp y x)
  where
    back : (o : Ordering) → is_eq (ordering_reverse o) ≡ is_eq o
    back Less = refl
    back Equal = refl
    back Greater = refl

-- what is before all of a list is not in it
pub is_member-after : (x : PlainValue) (ys : List PlainValue) → AllAfter x ys → is_member x ys ≡ false
is_member-after x [] a = refl
is_member-after x (y ∷ ys) a = rw (a.0) (is_member-after x ys a.1)

pub AllAfter-before : (x y : PlainValue) (zs : List PlainValue) → Before x y → AllAfter y zs → AllAfter x zs
AllAfter-before x y [] b a = tt
AllAfter-before x y (z ∷ zs) b a = (value_cmp-total.trans x y z b a.0, AllAfter-before x y zs b a.1)

pub or_cases : (b c : Bool) → (b || c) ≡ true → (b ≡ true) ⊎ (c ≡ true)
or_cases true c p = inl refl
or_cases false c p = inr p

-- a member is after what all members are after
pub Before-member : (x y : PlainValue) (zs : List PlainValue) → AllAfter x zs → is_member y zs ≡ true → Before x y
Before-member x y [] a p = cc
Before-member x y (z ∷ zs) a p =
    elim (or_cases (value_eq y z) (is_member y zs) p) [
      | inl e ↦ subst (Before x) (sym (value_eq-true y z e)) a.0
      | inr q ↦ Before-member x y zs a.1 q
    ]

pub AllAfter-put : (x y : PlainValue) (zs : List PlainValue) → Before x y → AllAfter x zs → AllAfter x (put y zs)
AllAfter-put x y [] b a = (b, tt)
AllAfter-put x y (z ∷ zs) b a = by_cases (value_cmp y z) (put y zs) (AllAfter-put x y zs b a.1)
  where
    by_cases : (o : Ordering) (more : List PlainValue) → AllAfter x more → AllAfter x (put_by o y z zs more)
    by_cases Less more h = (b, a)
    by_cases Equal more h = a
    by_cases Greater more h = (a.0, h)

-- the other way round
pub Before-greater : (x y : PlainValue) → value_cmp x y ≡ Greater → Before y x
Before-greater x y p = value_cmp-total.antisymm y x ∙ ap ordering_reverse p

pub Ascends-put : (x : PlainValue) (ys : List PlainValue) → Ascends ys → Ascends (put x ys)
Ascends-put x [] a = (tt, tt)
Ascends-put x (y ∷ ys) a = by_cases (value_cmp x y) refl (put x ys) (Ascends-put x ys a.1) (λ b. AllAfter-put y x ys b a.0)
  where
    by_cases : (o : Ordering) → value_cmp x y ≡ o → (more : List PlainValue) → Ascends more → (Before y x → AllAfter y more) → Ascends (put_by o x y ys more)
    by_cases Less p more h k = ((p, AllAfter-before x y ys p a.0), a)
    by_cases Equal p more h k = a
    by_cases Greater p more h k = (k (Before-greater x y p), h)

or_again : (b m : Bool) → (b || m) ≡ (b || (b || m))
or_again true m = refl
or_again false m = refl

or_swap : (b c m : Bool) → (c || (b || m)) ≡ (b || (c || m))
or_swap true true m = refl
or_swap true false m = refl
or_swap false true m = refl
or_swap false false m = refl

pub or_assoc : (b c m : Bool) → (b || c || m) ≡ (b || (c || m))
or_assoc true c m = refl
or_assoc false c m = refl

pub is_member-put : (x y : PlainValue) (zs : List PlainValue) → is_member x (put y zs) ≡ (value_eq x y || is_member x zs)
is_member-put x y [] = refl
is_member-put x y (z ∷ zs) = by_cases (value_cmp y z) refl (put y zs) (is_member-put x y zs)
  where
    by_cases : (o : Ordering) → value_cmp y z ≡ o → (more : List PlainValue) → is_member x more ≡ (value_eq x y || is_member x zs) → is_member x (put_by o y z zs more) ≡ (value_eq x y || (value_eq x z || is_member x zs))
    by_cases Less p more h = refl
    by_cases Equal p more h = rw (value_cmp-equal y z p) (or_again (value_eq x z) (is_member x zs))
    by_cases Greater p more h = ap (λ b. value_eq x z || b) h ∙ or_swap (value_eq x y) (value_eq x z) (is_member x zs)

pub is_member-union : (x : PlainValue) (ys zs : List PlainValue) → is_member x (union ys zs) ≡ (is_member x ys || is_member x zs)
is_member-union x [] zs = refl
is_member-union x (y ∷ ys) zs = is_member-put x y (union ys zs) ∙ ap (λ b. value_eq x y || b) (is_member-union x ys zs) ∙ sym (or_assoc (value_eq x y) (is_member x ys) (is_member x zs))

pub Ascends-union : (ys zs : List PlainValue) → Ascends zs → Ascends (union ys zs)
Ascends-union [] zs a = a
Ascends-union (y ∷ ys) zs a = Ascends-put y (union ys zs) (Ascends-union ys zs a)

pub is_member-filter : (p : PlainValue → Bool) (x : PlainValue) (ys : List PlainValue) → is_member x (filter p ys) ≡ (is_member x ys && p x)
is_member-filter p x [] = refl
is_member-filter p x (y ∷ ys) = by_cases (p y) refl (value_eq x y) refl (is_member-filter p x ys)
  where
    and_false : (m : Bool) → (m && false) ≡ false
    and_false true = refl
    and_false false = refl

    by_cases : (b : Bool) → p y ≡ b → (c : Bool) → value_eq x y ≡ c → is_member x (filter p ys) ≡ (is_member x ys && p x) → is_member x (cond b (y ∷ filter p ys) (filter p ys)) ≡ ((c || is_member x ys) && p x)
    by_cases true e true f ih = rw f (sym (ap p (value_eq-true x y f) ∙ e))
    by_cases true e false f ih = rw f ih
    by_cases false e true f ih = let q : p x ≡ false = ap p (value_eq-true x y f) ∙ e in ih ∙ ap (λ c. is_member x ys && c) q ∙ and_false (is_member x ys) ∙ sym q
    by_cases false e false f ih = ih

pub AllAfter-filter : (p : PlainValue → Bool) (x : PlainValue) (ys : List PlainValue) → AllAfter x ys → AllAfter x (filter p ys)
AllAfter-filter p x [] a = tt
AllAfter-filter p x (y ∷ ys) a = by_cases (p y) (AllAfter-filter p x ys a.1)
  where
    by_cases : (b : Bool) → AllAfter x (filter p ys) → AllAfter x (cond b (y ∷ filter p ys) (filter p ys))
    by_cases true h = (a.0, h)
    by_cases false h = h

pub Ascends-filter : (p : PlainValue → Bool) (ys : List PlainValue) → Ascends ys → Ascends (filter p ys)
Ascends-filter p [] a = tt
Ascends-filter p (y ∷ ys) a = by_cases (p y) (Ascends-filter p ys a.1)
  where
    by_cases : (b : Bool) → Ascends (filter p ys) → Ascends (cond b (y ∷ filter p ys) (filter p ys))
    by_cases true h = (AllAfter-filter p y ys a.0, h)
    by_cases false h = h

-- the tail's members are those of the list but for its first
tail_member : (x : PlainValue) (xs : List PlainValue) → AllAfter x xs → (v : PlainValue) → is_member v xs ≡ (is_member v (x ∷ xs) && not (value_eq v x))
tail_member x xs a v = by_cases (value_eq v x) refl
  where
    by_cases : (c : Bool) → value_eq v x ≡ c → is_member v xs ≡ ((c || is_member v xs) && not c)
    by_cases true e = rw (value_eq-true v x e) (is_member-after x xs a)
    by_cases false e = and_true (is_member v xs)
      where
        and_true : (b : Bool) → b ≡ (b && true)
        and_true true = refl
        and_true false = refl

-- the least members of two lists with the same members are equal
same_first : (x y : PlainValue) (xs ys : List PlainValue) → AllAfter x xs → AllAfter y ys → ((v : PlainValue) → is_member v (x ∷ xs) ≡ is_member v (y ∷ ys)) → x ≡ y
same_first x y xs ys a b h = by_cases (value_cmp x y) refl
  where
    first_in : (u : PlainValue) (us : List PlainValue) → is_member u (u ∷ us) ≡ true
    first_in u us = ap (λ c. c || is_member u us) (value_eq-itself u)

    by_cases : (o : Ordering) → value_cmp x y ≡ o → x ≡ y
    by_cases Equal p = value_cmp-equal x y p
    by_cases Less p =
        let q : is_member x (y ∷ ys) ≡ false = is_member-after x (y ∷ ys) (p, AllAfter-before x y ys p b) in
        let r : is_member x (y ∷ ys) ≡ true = sym (h x) ∙ first_in x xs in cc
    by_cases Greater p =
        let e : Before y x = Before-greater x y p in
        let q : is_member y (x ∷ xs) ≡ false = is_member-after y (x ∷ xs) (e, AllAfter-before y x xs e a) in
        let r : is_member y (x ∷ xs) ≡ true = h y ∙ first_in y ys in cc

-- two ascending lists with the same members are one list
pub same_members : (xs ys : List PlainValue) → Ascends xs → Ascends ys → ((v : PlainValue) → is_member v xs ≡ is_member v ys) → xs ≡ ys
same_members [] [] a b h = refl
same_members [] (y ∷ ys) a b h = let p : false ≡ true = h y ∙ ap (λ c. c || is_member y ys) (value_eq-itself y) in cc
same_members (x ∷ xs) [] a b h = let p : true ≡ false = sym (ap (λ c. c || is_member x xs) (value_eq-itself x)) ∙ h x in cc
same_members (x ∷ xs) (y ∷ ys) a b h =
    let e : x ≡ y = same_first x y xs ys a.0 b.0 h in
    let t : xs ≡ ys = same_members xs ys a.1 b.1 (λ v. tail_member x xs a.0 v ∙ (λ i. h v i && not (value_eq v (e i))) ∙ sym (tail_member y ys b.0 v)) in
    λ i. e i ∷ t i
