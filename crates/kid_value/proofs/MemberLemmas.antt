-- Lists of values by their members: what passes at each, how many there are, and what they add up to.
use Rattle.std.proofs.Common.{◌≡◌, ℕ, ◌+◌, zero, suc, ℤ, pos, negsuc, ◌+ℤ◌, ◌≤ℤ◌, Bool, true, false, cond, List, [], ◌∷◌, ◌++◌, Ordering, length, refl, sym, ap, ◌∙◌, subst, arith}
use Rattle.std.specs.declared.cmp.Ordering.TheVariants.{Less, Equal, Greater}
use Rattle.std.specs.Int.{int_gap}
use Rattle.std.specs.List.{list_all}
use Rattle.std.specs.Ordering.{is_eq}
use Rattle.std.specs.Prelude.{not, ◌||◌, ◌&&◌, filter, int_le, int_lt}
use Rattle.std.proofs.Math.IntN.{+ℤ_assoc}
use Rattle.std.proofs.lemmas.Int.{ints as int_rules}
use Rattle.kid_value.specs.Members.{is_between}
use Rattle.kid_value.specs.PlainValue.{PlainValue, int}
use Rattle.kid_value.specs.Rows.Parts.{number_of, total}
use Rattle.kid_value.specs.Rows.Set.{numbers}
use Rattle.kid_value.specs.SortCount.{interval_count}
use Rattle.kid_value.specs.ValueOrder.{value_cmp, Before}
use Rattle.kid_value.specs.ValueSet.{value_eq, is_member, all_pass, put, put_by, set_of, Ascends}
use Rattle.kid_value.proofs.RowMeaning.{or_false, is_member-numbers, is_member-set_of}
use Rattle.kid_value.proofs.SetLaws.{or_comm}
use Rattle.kid_value.proofs.SortLemmas.{and_parts, and_both}
use Rattle.kid_value.proofs.ValueOrderLaws.{value_cmp-equal}
use Rattle.kid_value.proofs.ValueSetLaws.{value_cmp-itself, value_eq-itself, value_eq-true, is_member-after, is_member-put, is_member-filter, AllAfter-before, Before-greater, Before-member, Ascends-put, Ascends-filter, Ascends-union, same_members}

pub or_right : (b c : Bool) → c ≡ true → (b || c) ≡ true
or_right true c p = refl
or_right false c p = p

pub is_member-first : (x : PlainValue) (xs : List PlainValue) → is_member x (x ∷ xs) ≡ true
is_member-first x xs = ap (λ c. c || is_member x xs) (value_eq-itself x)

pub is_member-later : (x y : PlainValue) (ys : List PlainValue) → is_member x ys ≡ true → is_member x (y ∷ ys) ≡ true
is_member-later x y ys m = or_right (value_eq x y) (is_member x ys) m

pub is_member-append : (x : PlainValue) (vs ws : List PlainValue) → is_member x (vs ++ ws) ≡ (is_member x vs || is_member x ws)
is_member-append x [] ws = refl
is_member-append x (v ∷ vs) ws = by (value_eq x v) (is_member-append x vs ws)
  where
    by : (b : Bool) → is_member x (vs ++ ws) ≡ (is_member x vs || is_member x ws) → (b || is_member x (vs ++ ws)) ≡ ((b || is_member x vs) || is_member x ws)
    by true h = refl
    by false h = h

-- what passes at each member
pub all_pass-member : (p : PlainValue → Bool) (x : PlainValue) (vs : List PlainValue) → all_pass p vs ≡ true → is_member x vs ≡ true → p x ≡ true
all_pass-member p x [] h m = cc
all_pass-member p x (v ∷ vs) h m =
    let r = and_parts (p v) (all_pass p vs) h in by (value_eq x v) refl m r.0 (all_pass-member p x vs r.1)
  where
    by : (b : Bool) → value_eq x v ≡ b → (b || is_member x vs) ≡ true → p v ≡ true → (is_member x vs ≡ true → p x ≡ true) → p x ≡ true
    by true e m q ih = ap p (value_eq-true x v e) ∙ q
    by false e m q ih = ih m

pub member-all_pass : (p : PlainValue → Bool) (vs : List PlainValue) → ((x : PlainValue) → is_member x vs ≡ true → p x ≡ true) → all_pass p vs ≡ true
member-all_pass p [] h = refl
member-all_pass p (v ∷ vs) h = and_both (p v) (all_pass p vs) (h v (is_member-first v vs)) (member-all_pass p vs (λ x m. h x (is_member-later x v vs m)))

same_all : (p : PlainValue → Bool) (vs : List PlainValue) → list_all p vs ≡ all_pass p vs
same_all p [] = refl
same_all p (v ∷ vs) = ap (λ b. p v && b) (same_all p vs)

pub list_all-member : (p : PlainValue → Bool) (x : PlainValue) (vs : List PlainValue) → list_all p vs ≡ true → is_member x vs ≡ true → p x ≡ true
list_all-member p x vs h m = all_pass-member p x vs (sym (same_all p vs) ∙ h) m

-- the set of a list with one more value
pub set_of-snoc : (vs : List PlainValue) (x : PlainValue) → set_of (vs ++ x ∷ []) ≡ put x (set_of vs)
set_of-snoc vs x =
    same_members (set_of (vs ++ x ∷ [])) (put x (set_of vs)) (Ascends-union (vs ++ x ∷ []) [] tt) (Ascends-put x (set_of vs) (Ascends-union vs [] tt))
    (λ y. is_member-set_of y (vs ++ x ∷ []) ∙ is_member-append y vs (x ∷ []) ∙ ap (λ b. is_member y vs || b) (or_false (value_eq y x)) ∙ or_comm (is_member y vs) (value_eq y x)
    ∙ ap (λ b. value_eq y x || b) (sym (is_member-set_of y vs)) ∙ sym (is_member-put y x (set_of vs)))

-- a member that was taken away and put back
pub put-without : (x : PlainValue) (vs : List PlainValue) → Ascends vs → is_member x vs ≡ true → put x (filter (λ y. not (value_eq y x)) vs) ≡ vs
put-without x vs a m =
    same_members (put x (filter (λ y. not (value_eq y x)) vs)) vs (Ascends-put x (filter (λ y. not (value_eq y x)) vs) (Ascends-filter (λ y. not (value_eq y x)) vs a)) a
    (λ y. is_member-put y x (filter (λ y. not (value_eq y x)) vs) ∙ ap (λ b. value_eq y x || b) (is_member-filter (λ y. not (value_eq y x)) y vs) ∙ by y (value_eq y x) refl)
  where
    back : (c : Bool) → (c && true) ≡ c
    back true = refl
    back false = refl

    by : (y : PlainValue) (b : Bool) → value_eq y x ≡ b → (b || (is_member y vs && not b)) ≡ is_member y vs
    by y true e = sym (ap (λ z. is_member z vs) (value_eq-true y x e) ∙ m)
    by y false e = back (is_member y vs)

pub length-put : (x : PlainValue) (ys : List PlainValue) → is_member x ys ≡ false → length (put x ys) ≡ length ys + 1
length-put x [] p = refl
length-put x (y ∷ ys) p = by (value_cmp x y) p (length-put x ys)
  where
    by : (o : Ordering) → (is_eq o || is_member x ys) ≡ false → (is_member x ys ≡ false → length (put x ys) ≡ length ys + 1) → length (put_by o x y ys (put x ys)) ≡ length (y ∷ ys) + 1
    by Less q h = omega arith
    by Equal q h = cc
    by Greater q h = let k = h q in omega arith

-- a member of y and ys that is after y is one of ys
later_member : (x y : PlainValue) (ys : List PlainValue) → Before y x → is_member x (y ∷ ys) ≡ true → is_member x ys ≡ true
later_member x y ys b m = by (value_eq x y) refl m
  where
    by : (c : Bool) → value_eq x y ≡ c → (c || is_member x ys) ≡ true → is_member x ys ≡ true
    by true e m = let f : value_cmp y y ≡ Less = subst (Before y) (value_eq-true x y e) b in let g = value_cmp-itself y in cc
    by false e m = m

-- numbers that values weigh, added up
module _ (w : PlainValue → ℤ) where
  abbrev weight : List PlainValue → ℤ
  weight [] = pos 0
  weight (v ∷ vs) = w v +ℤ weight vs

  abbrev NotNegative : List PlainValue → Type 0
  NotNegative vs = (x : PlainValue) → is_member x vs ≡ true → pos 0 ≤ℤ w x

  weight-not_negative : (vs : List PlainValue) → NotNegative vs → pos 0 ≤ℤ weight vs
  weight-not_negative [] h = omega (arith, int_rules)
  weight-not_negative (v ∷ vs) h =
      let first = h v (is_member-first v vs) in let rest = weight-not_negative vs (λ x m. h x (is_member-later x v vs m)) in omega (arith, int_rules)

  -- values that are among others weigh no more, where none weighs less than nothing
  weight-within : (xs ys : List PlainValue) → Ascends xs → Ascends ys → ((x : PlainValue) → is_member x xs ≡ true → is_member x ys ≡ true) → NotNegative ys → weight xs ≤ℤ weight ys
  weight-within [] ys a b h n = weight-not_negative ys n
  weight-within (x ∷ xs) [] a b h n = let e : false ≡ true = h x (is_member-first x xs) in cc
  weight-within (x ∷ xs) (y ∷ ys) a b h n =
      by (value_cmp x y) refl (λ k. weight-within xs ys a.1 b.1 k (λ v m. n v (is_member-later v y ys m)))
      (λ k. weight-within (x ∷ xs) ys a b.1 k (λ v m. n v (is_member-later v y ys m)))
    where
      by : (o : Ordering) → value_cmp x y ≡ o
          → (((v : PlainValue) → is_member v xs ≡ true → is_member v ys ≡ true) → weight xs ≤ℤ weight ys)
          → (((v : PlainValue) → is_member v (x ∷ xs) ≡ true → is_member v ys ≡ true) → weight (x ∷ xs) ≤ℤ weight ys)
          → weight (x ∷ xs) ≤ℤ weight (y ∷ ys)
      by Less e f g =
          let q : is_member x (y ∷ ys) ≡ false = is_member-after x (y ∷ ys) (e, AllAfter-before x y ys e b.0) in
          let r : is_member x (y ∷ ys) ≡ true = h x (is_member-first x xs) in cc
      by Equal e f g =
          let k : x ≡ y = value_cmp-equal x y e in
          let l = f (λ v m. later_member v y ys (subst (λ z. Before z v) k (Before-member x v xs a.0 m)) (h v (is_member-later v x xs m))) in
          let s : w x ≡ w y = ap w k in
          omega (arith, int_rules)
      by Greater e f g =
          let before : Before y x = Before-greater x y e in
          let l = g (λ v m. later_member v y ys (Before-member y v (x ∷ xs) (before, AllAfter-before y x xs before a.0) m) (h v m)) in
          let first = n y (is_member-first y ys) in
          omega (arith, int_rules)

length-weight : (vs : List PlainValue) → pos (length vs) ≡ weight (λ x. pos 1) vs
length-weight [] = refl
length-weight (v ∷ vs) = let h = length-weight vs in omega (arith, int_rules)

total-weight : (vs : List PlainValue) → total vs ≡ weight number_of vs
total-weight [] = refl
total-weight (v ∷ vs) = ap (λ z. number_of v +ℤ z) (total-weight vs)

module _ (xs ys : List PlainValue) (a : Ascends xs) (b : Ascends ys) (h : (x : PlainValue) → is_member x xs ≡ true → is_member x ys ≡ true) where
  pub length-within : pos (length xs) ≤ℤ pos (length ys)
  length-within = let l = weight-within (λ x. pos 1) xs ys a b h (λ x m. omega (arith, int_rules)) in let m = length-weight xs in let n = length-weight ys in omega (arith, int_rules)

  pub total-within : ((x : PlainValue) → is_member x ys ≡ true → pos 0 ≤ℤ number_of x) → total xs ≤ℤ total ys
  total-within p = let l = weight-within number_of xs ys a b h p in let m = total-weight xs in let n = total-weight ys in omega (arith, int_rules)

pub total-not_negative : (vs : List PlainValue) → ((x : PlainValue) → is_member x vs ≡ true → pos 0 ≤ℤ number_of x) → pos 0 ≤ℤ total vs
total-not_negative vs p = let h = weight-not_negative number_of vs p in let e = total-weight vs in omega (arith, int_rules)

pub total-append : (vs ws : List PlainValue) → total (vs ++ ws) ≡ total vs +ℤ total ws
total-append [] ws = omega (arith, int_rules)
total-append (v ∷ vs) ws = ap (λ z. number_of v +ℤ z) (total-append vs ws) ∙ sym (+ℤ_assoc (number_of v) (total vs) (total ws))

-- what is no number is not among the numbers
no_number : (x : PlainValue) → ((n : ℤ) → value_eq x (int n) ≡ false) → (a : ℤ) (c : ℕ) → is_member x (numbers a c) ≡ false
no_number x h a zero = refl
no_number x h a (suc c) = rw (h a) (no_number x h (a +ℤ pos 1) c)

gap_up : (a b : ℤ) → a ≤ℤ b → a +ℤ pos (int_gap a b + 1) ≡ b +ℤ pos 1
gap_up (pos a) (pos b) l = omega (arith, int_rules)
gap_up (pos a) (negsuc b) l = absurd (omega (arith, int_rules))
gap_up (negsuc a) (pos b) l = omega (arith, int_rules)
gap_up (negsuc a) (negsuc b) l = omega (arith, int_rules)

up_to : (a b n : ℤ) → (int_le a n && int_lt n (a +ℤ pos (interval_count a b))) ≡ (int_le a n && int_le n b)
up_to a b n = by (int_le a b) refl
  where
    by : (t : Bool) → int_le a b ≡ t → (int_le a n && int_lt n (a +ℤ pos (cond t (int_gap a b + 1) 0))) ≡ (int_le a n && int_le n b)
    by true e =
        let l : a ≤ℤ b = grind (arith, int_rules) in
        ap (λ z. int_le a n && int_lt n z) (gap_up a b l) ∙ last
      where
        last : (int_le a n && int_lt n (b +ℤ pos 1)) ≡ (int_le a n && int_le n b)
        last = grind (arith, int_rules)
    by false e = grind (arith, int_rules)

pub numbers-between : (a b : ℤ) (x : PlainValue) → is_member x (numbers a (interval_count a b)) ≡ is_between a b x
numbers-between a b (int n) = is_member-numbers n a (interval_count a b) ∙ up_to a b n
numbers-between a b x = no_number x (λ n. refl) a (interval_count a b)
