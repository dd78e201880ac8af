-- What holds for all, for some, and in sum, over the members of a set made of others.
use Rattle.std.proofs.Common.{◌≡◌, Bool, true, false, cond, List, [], ◌∷◌, Ordering, refl, sym, ap, ◌∙◌, arith, subst, map}
use Rattle.std.specs.declared.cmp.Ordering.TheVariants.{Less, Equal, Greater}
use Rattle.std.specs.Ordering.{is_eq}
use Rattle.std.specs.Prelude.{◌+ℤ◌, not, ◌&&◌, ◌||◌, filter}
use Rattle.std.specs.List.{list_all, list_any}
use Rattle.std.proofs.lemmas.Int.{ints as int_rules}
use Rattle.kid_value.specs.PlainValue.{PlainValue}
use Rattle.kid_value.specs.ValueOrder.{value_cmp}
use Rattle.kid_value.specs.ValueSet.{value_eq, is_member, is_subset, all_pass, put, put_by, union, set_of}
use Rattle.kid_value.specs.Rows.Parts.{number_of, total}
use Rattle.kid_value.proofs.SortLemmas.{and_parts}
use Rattle.kid_value.proofs.MemberLemmas.{is_member-first, is_member-later, list_all-member}
use Rattle.kid_value.proofs.ValueOrderLaws.{value_cmp-equal}
use Rattle.kid_value.proofs.RowMeaning.{is_member-set_of}

pub list_all-put : (p : PlainValue → Bool) (x : PlainValue) (ys : List PlainValue) → list_all p (put x ys) ≡ (p x && list_all p ys)
list_all-put p x [] = refl
list_all-put p x (y ∷ ys) = by (value_cmp x y) refl (list_all-put p x ys)
  where
    twice : (b c : Bool) → (b && c) ≡ (b && (b && c))
    twice true c = refl
    twice false c = refl

    turn : (b c d : Bool) → (b && (c && d)) ≡ (c && (b && d))
    turn true c d = refl
    turn false true d = refl
    turn false false d = refl

    by : (o : Ordering) → value_cmp x y ≡ o → list_all p (put x ys) ≡ (p x && list_all p ys) → list_all p (put_by o x y ys (put x ys)) ≡ (p x && (p y && list_all p ys))
    by Less e h = refl
    by Equal e h = subst (λ z. (p y && list_all p ys) ≡ (p z && (p y && list_all p ys))) (sym (value_cmp-equal x y e)) (twice (p y) (list_all p ys))
    by Greater e h = ap (λ b. p y && b) h ∙ turn (p y) (p x) (list_all p ys)

pub list_any-put : (p : PlainValue → Bool) (x : PlainValue) (ys : List PlainValue) → list_any p (put x ys) ≡ (p x || list_any p ys)
list_any-put p x [] = refl
list_any-put p x (y ∷ ys) = by (value_cmp x y) refl (list_any-put p x ys)
  where
    twice : (b c : Bool) → (b || c) ≡ (b || (b || c))
    twice true c = refl
    twice false c = refl

    turn : (b c d : Bool) → (b || (c || d)) ≡ (c || (b || d))
    turn false c d = refl
    turn true true d = refl
    turn true false d = refl

    by : (o : Ordering) → value_cmp x y ≡ o → list_any p (put x ys) ≡ (p x || list_any p ys) → list_any p (put_by o x y ys (put x ys)) ≡ (p x || (p y || list_any p ys))
    by Less e h = refl
    by Equal e h = subst (λ z. (p y || list_any p ys) ≡ (p z || (p y || list_any p ys))) (sym (value_cmp-equal x y e)) (twice (p y) (list_any p ys))
    by Greater e h = ap (λ b. p y || b) h ∙ turn (p y) (p x) (list_any p ys)

pub list_all-union : (p : PlainValue → Bool) (xs ys : List PlainValue) → list_all p (union xs ys) ≡ (list_all p xs && list_all p ys)
list_all-union p [] ys = refl
list_all-union p (x ∷ xs) ys = list_all-put p x (union xs ys) ∙ ap (λ b. p x && b) (list_all-union p xs ys) ∙ by (p x) (list_all p xs)
  where
    by : (b c : Bool) → (b && (c && list_all p ys)) ≡ ((b && c) && list_all p ys)
    by true c = refl
    by false c = refl

pub list_any-union : (p : PlainValue → Bool) (xs ys : List PlainValue) → list_any p (union xs ys) ≡ (list_any p xs || list_any p ys)
list_any-union p [] ys = refl
list_any-union p (x ∷ xs) ys = list_any-put p x (union xs ys) ∙ ap (λ b. p x || b) (list_any-union p xs ys) ∙ by (p x) (list_any p xs)
  where
    by : (b c : Bool) → (b || (c || list_any p ys)) ≡ ((b || c) || list_any p ys)
    by true c = refl
    by false c = refl

-- a sum over a set with one more member
pub total-map-put : (f : PlainValue → PlainValue) (x : PlainValue) (ys : List PlainValue) → is_member x ys ≡ false → total (map f (put x ys)) ≡ total (map f ys) +ℤ number_of (f x)
total-map-put f x [] m = omega (arith, int_rules)
total-map-put f x (y ∷ ys) m = by (value_cmp x y) m (total-map-put f x ys)
  where
    by : (o : Ordering) → (is_eq o || is_member x ys) ≡ false → (is_member x ys ≡ false → total (map f (put x ys)) ≡ total (map f ys) +ℤ number_of (f x))
        → total (map f (put_by o x y ys (put x ys))) ≡ total (map f (y ∷ ys)) +ℤ number_of (f x)
    by Less m h = omega (arith, int_rules)
    by Equal m h = cc
    by Greater m h = let e = h m in omega (arith, int_rules)

-- tests that agree on the members
pub list_all-same : (p q : PlainValue → Bool) (vs : List PlainValue) → ((v : PlainValue) → is_member v vs ≡ true → p v ≡ q v) → list_all p vs ≡ list_all q vs
list_all-same p q [] h = refl
list_all-same p q (v ∷ vs) h =
    let e = h v (is_member-first v vs) in let f = list_all-same p q vs (λ w m. h w (is_member-later w v vs m)) in λ i. e i && f i

-- what holds for all holds for all of a subset
pub list_all-subset : (p : PlainValue → Bool) (ts vs : List PlainValue) → is_subset ts vs ≡ true → list_all p vs ≡ true → list_all p ts ≡ true
list_all-subset p [] vs m h = refl
list_all-subset p (t ∷ ts) vs m h =
    let r = and_parts (is_member t vs) (all_pass (λ x. is_member x vs) ts) m in
    let e = list_all-member p t vs h r.0 in let f = list_all-subset p ts vs r.1 h in rw e f

-- b follows from c: b and c is c
pub absorbed : (b c : Bool) → (c ≡ true → b ≡ true) → (b && c) ≡ c
absorbed true c h = refl
absorbed false true h = h refl
absorbed false false h = refl

pub list_all-both : (p q : PlainValue → Bool) (vs : List PlainValue) → list_all (λ v. p v && q v) vs ≡ (list_all p vs && list_all q vs)
list_all-both p q [] = refl
list_all-both p q (v ∷ vs) = ap (λ b. (p v && q v) && b) (list_all-both p q vs) ∙ by (p v) (q v) (list_all p vs) (list_all q vs)
  where
    by : (a b c d : Bool) → ((a && b) && (c && d)) ≡ ((a && c) && (b && d))
    by true true c d = refl
    by true false true d = refl
    by true false false d = refl
    by false b c d = refl

pub list_any-not : (p : PlainValue → Bool) (vs : List PlainValue) → not (list_all (λ v. not (p v)) vs) ≡ list_any p vs
list_any-not p [] = refl
list_any-not p (v ∷ vs) = by (p v) (list_any-not p vs)
  where
    by : (b : Bool) → not (list_all (λ v. not (p v)) vs) ≡ list_any p vs → not (not b && list_all (λ v. not (p v)) vs) ≡ (b || list_any p vs)
    by true h = refl
    by false h = h

pub list_all-true : (vs : List PlainValue) → list_all (λ v. true) vs ≡ true
list_all-true [] = refl
list_all-true (v ∷ vs) = list_all-true vs

pub list_all-swap : (p : PlainValue → PlainValue → Bool) (vs ws : List PlainValue) → list_all (λ v. list_all (λ w. p v w) ws) vs ≡ list_all (λ w. list_all (λ v. p v w) vs) ws
list_all-swap p [] ws = sym (list_all-true ws)
list_all-swap p (v ∷ vs) ws = ap (λ b. list_all (p v) ws && b) (list_all-swap p vs ws) ∙ sym (list_all-both (p v) (λ w. list_all (λ u. p u w) vs) ws)

pub list_all-filter : (p q : PlainValue → Bool) (vs : List PlainValue) → list_all p (filter q vs) ≡ list_all (λ v. not (q v) || p v) vs
list_all-filter p q [] = refl
list_all-filter p q (v ∷ vs) = by (q v) (list_all-filter p q vs)
  where
    by : (b : Bool) → list_all p (filter q vs) ≡ list_all (λ v. not (q v) || p v) vs → list_all p (cond b (v ∷ filter q vs) (filter q vs)) ≡ ((not b || p v) && list_all (λ v. not (q v) || p v) vs)
    by true h = ap (λ b. p v && b) h
    by false h = h

-- a value is in an image where some member has it
pub is_member-image : (f : PlainValue → PlainValue) (y : PlainValue) (vs : List PlainValue) → is_member y (set_of (map f vs)) ≡ list_any (λ v. value_eq y (f v)) vs
is_member-image f y vs = is_member-set_of y (map f vs) ∙ by vs
  where
    by : (vs : List PlainValue) → is_member y (map f vs) ≡ list_any (λ v. value_eq y (f v)) vs
    by [] = refl
    by (v ∷ vs) = ap (λ b. value_eq y (f v) || b) (by vs)
