-- What binders make of their bodies' values, a member at a time.
use Rattle.std.proofs.Common.{◌≡◌, ℕ, ◌+◌, ◌<◌, zero, suc, ℤ, ◌+ℤ◌, Bool, true, false, List, [], ◌∷◌, ◌++◌, cond, map, length, drop, get_or, refl, sym, ap, ◌∙◌, subst, arith, append_assoc}
use Rattle.std.specs.Prelude.{not, ◌&&◌, ◌||◌, filter}
use Rattle.kid_value.proofs.SortLemmas.{and_parts}
use Rattle.kid_term.specs.Small.{is_small}
use Rattle.kid_value.specs.Rows.Sums.{sums_small}
use Rattle.std.specs.List.{list_all, list_any}
use Rattle.std.specs.declared.cmp.Ordering.TheVariants.{Greater}
use Rattle.std.specs.Ordering.{ordering_reverse}
use Rattle.std.proofs.lemmas.List.{map-append}
use Rattle.std.proofs.lemmas.Int.{ints as int_rules}
use Rattle.kid_value.specs.PlainValue.{PlainValue, int}
use Rattle.kid_value.specs.Rows.Parts.{truth_of, number_of, total}
use Rattle.kid_value.specs.ValueOrder.{value_cmp, Before}
use Rattle.kid_value.specs.ValueSet.{AllAfter, Ascends, put, put_by, union}
use Rattle.kid_value.specs.ValueView.{plain}
use Rattle.kid_value.specs.declared.value.Value.{Value}
use Rattle.kid_value.proofs.ValueOrderLaws.{value_cmp-total}
use Rattle.kid_eval.specs.Binding.{is_found, kept}

-- a value that comes after those of a set stands at its end
Before-turned : (x y : PlainValue) → Before y x → value_cmp x y ≡ Greater
Before-turned x y h = value_cmp-total.antisymm x y ∙ ap ordering_reverse h

AllAfter-middle : (y x : PlainValue) (ys rest : List PlainValue) → AllAfter y (ys ++ x ∷ rest) → Before y x
AllAfter-middle y x [] rest h = h.0
AllAfter-middle y x (z ∷ ys) rest h = AllAfter-middle y x ys rest h.1

pub put-last : (xs : List PlainValue) (x : PlainValue) (rest : List PlainValue) → Ascends (xs ++ x ∷ rest) → put x xs ≡ xs ++ x ∷ []
put-last [] x rest h = refl
put-last (y ∷ ys) x rest h =
    ap (λ o. put_by o x y ys (put x ys)) (Before-turned x y (AllAfter-middle y x ys rest h.0)) ∙ ap (λ z. y ∷ z) (put-last ys x rest h.1)

AllAfter-one : (b : Bool) (x v : PlainValue) (vs : List PlainValue) → Before x v → AllAfter x vs → AllAfter x (cond b (v ∷ vs) vs)
AllAfter-one true x v vs h k = (h, k)
AllAfter-one false x v vs h k = k

AllAfter-kept : (x : PlainValue) (vs ts : List PlainValue) → AllAfter x vs → AllAfter x (kept vs ts)
AllAfter-kept x [] ts h = tt
AllAfter-kept x (v ∷ vs) [] h = tt
AllAfter-kept x (v ∷ vs) (t ∷ ts) h = AllAfter-one (truth_of t) x v (kept vs ts) h.0 (AllAfter-kept x vs ts h.1)

Ascends-one : (b : Bool) (v : PlainValue) (vs : List PlainValue) → AllAfter v vs → Ascends vs → Ascends (cond b (v ∷ vs) vs)
Ascends-one true v vs h k = (h, k)
Ascends-one false v vs h k = k

pub Ascends-kept : (vs ts : List PlainValue) → Ascends vs → Ascends (kept vs ts)
Ascends-kept [] ts h = tt
Ascends-kept (v ∷ vs) [] h = tt
Ascends-kept (v ∷ vs) (t ∷ ts) h = Ascends-one (truth_of t) v (kept vs ts) (AllAfter-kept v vs ts h.0) (Ascends-kept vs ts h.1)

-- what is kept from a place on
pub kept_next : (ms ts : List Value) (i j : ℕ) (v t : Value) → j ≡ i + 1 → i < length ms → i < length ts → v ≡ get_or ms i v → t ≡ get_or ts i t
    → kept (map plain (drop i ms)) (map plain (drop i ts))
    ≡ cond (truth_of (plain t)) (plain v ∷ kept (map plain (drop j ms)) (map plain (drop j ts))) (kept (map plain (drop j ms)) (map plain (drop j ts)))
kept_next [] ts i j v t e p q r s = absurd (omega arith)
kept_next (m ∷ ms) [] i j v t e p q r s = absurd (omega arith)
kept_next (m ∷ ms) (u ∷ ts) i zero v t e p q r s = absurd (omega arith)
kept_next (m ∷ ms) (u ∷ ts) zero (suc zero) v t e p q r s = λ k. cond (truth_of (plain (s' k))) (plain (r' k) ∷ kept (map plain ms) (map plain ts)) (kept (map plain ms) (map plain ts))
  where
    r' : m ≡ v
    r' = sym r

    s' : u ≡ t
    s' = sym s
kept_next (m ∷ ms) (u ∷ ts) zero (suc (suc j)) v t e p q r s = absurd (omega arith)
kept_next (m ∷ ms) (u ∷ ts) (suc i) (suc j) v t e p q r s = kept_next ms ts i j v t (omega arith) (omega arith) (omega arith) r s

-- the step of keeping a member, or not
module _ (ms ts : List Value) (i : ℕ) (v t : Value) (p : i < length ms) (q : length ms ≡ length ts) (r : v ≡ get_or ms i v) (s : t ≡ get_or ts i t) (set : List PlainValue)
    (h : set ++ kept (map plain (drop i ms)) (map plain (drop i ts)) ≡ kept (map plain ms) (map plain ts)) where
  next : set ++ cond (truth_of (plain t)) (plain v ∷ kept (map plain (drop (i + 1) ms)) (map plain (drop (i + 1) ts))) (kept (map plain (drop (i + 1) ms)) (map plain (drop (i + 1) ts)))
      ≡ kept (map plain ms) (map plain ts)
  next = let k : i < length ts = omega arith in ap (λ z. set ++ z) (sym (kept_next ms ts i (i + 1) v t refl p k r s)) ∙ h

  pub kept_more : Ascends (map plain ms) → truth_of (plain t) ≡ true
      → put (plain v) set ++ kept (map plain (drop (i + 1) ms)) (map plain (drop (i + 1) ts)) ≡ kept (map plain ms) (map plain ts)
  kept_more a e =
      let n : set ++ plain v ∷ kept (map plain (drop (i + 1) ms)) (map plain (drop (i + 1) ts)) ≡ kept (map plain ms) (map plain ts) = rw e at next in
      let f : put (plain v) set ≡ set ++ plain v ∷ [] = put-last set (plain v) _ (subst Ascends (sym n) (Ascends-kept (map plain ms) (map plain ts) a)) in
      ap (λ z. z ++ kept (map plain (drop (i + 1) ms)) (map plain (drop (i + 1) ts))) f ∙ append_assoc set (plain v ∷ []) _ ∙ n

  pub kept_without : truth_of (plain t) ≡ false → set ++ kept (map plain (drop (i + 1) ms)) (map plain (drop (i + 1) ts)) ≡ kept (map plain ms) (map plain ts)
  kept_without e = rw e at next

-- the members whose values are true are those that pass
pub kept_passing : (f : PlainValue → PlainValue) (vs : List PlainValue) → kept vs (map f vs) ≡ filter (λ v. truth_of (f v)) vs
kept_passing f [] = refl
kept_passing f (v ∷ vs) = by (truth_of (f v)) (kept vs (map f vs)) (filter (λ v. truth_of (f v)) vs) (kept_passing f vs)
  where
    by : (b : Bool) (xs ys : List PlainValue) → xs ≡ ys → cond b (v ∷ xs) xs ≡ cond b (v ∷ ys) ys
    by b xs ys e = ap (λ z. cond b (v ∷ z) z) e

union-last : (front ys : List PlainValue) (v : PlainValue) → union (front ++ v ∷ []) ys ≡ union front (put v ys)
union-last [] ys v = refl
union-last (x ∷ front) ys v = ap (put x) (union-last front ys v)

pub union_step : {X : Type 0} (f : X → PlainValue) (all front : List X) (v : X) (ys : List PlainValue) → all ≡ front ++ v ∷ [] → union (map f all) ys ≡ union (map f front) (put (f v) ys)
union_step f all front v ys e = ap (λ z. union z ys) (ap (map f) e ∙ map-append f front (v ∷ [])) ∙ union-last (map f front) ys (f v)

pub all_found : (g : PlainValue → Bool) (vs : List PlainValue) → not (is_found false (map g vs)) ≡ list_all g vs
all_found g [] = refl
all_found g (v ∷ vs) = by (g v) (is_found false (map g vs)) (list_all g vs) (all_found g vs)
  where
    by : (b c d : Bool) → not c ≡ d → not (not b || c) ≡ (b && d)
    by true c d h = h
    by false c d h = refl

pub some_found : (g : PlainValue → Bool) (vs : List PlainValue) → is_found true (map g vs) ≡ list_any g vs
some_found g [] = refl
some_found g (v ∷ vs) = ap (λ z. g v || z) (some_found g vs)

-- a sum with one more value
pub record Added (vs : List Value) (i j : ℕ) (v : Value) (n : ℤ) : Type 0 where
  pub fits : is_small (int (n +ℤ number_of (plain v))) ≡ true
  pub small : sums_small (n +ℤ number_of (plain v)) (map plain (drop j vs)) ≡ true
  pub sums : (n +ℤ number_of (plain v)) +ℤ total (map plain (drop j vs)) ≡ n +ℤ total (map plain (drop i vs))

first_small : (n : ℤ) (vs : List PlainValue) → sums_small n vs ≡ true → is_small (int n) ≡ true
first_small n [] h = h
first_small n (v ∷ vs) h = (and_parts (is_small (int n)) (sums_small (n +ℤ number_of v) vs) h).0

added_one : (vs : List Value) (i : ℕ) (v : Value) (n : ℤ) → i < length vs → v ≡ get_or vs i v → sums_small n (map plain (drop i vs)) ≡ true → Added vs i (suc i) v n
added_one [] i v n p q h = absurd (omega arith)
added_one (w ∷ vs) zero v n p q h =
    let r = and_parts (is_small (int n)) (sums_small (n +ℤ number_of (plain w)) (map plain vs)) h in
    let e : number_of (plain w) ≡ number_of (plain v) = ap (λ z. number_of (plain z)) (sym q) in
    let s : sums_small (n +ℤ number_of (plain v)) (map plain vs) ≡ true = subst (λ z. sums_small (n +ℤ z) (map plain vs) ≡ true) e r.1 in
    record { fits = first_small _ (map plain vs) s; small = s; sums = omega (arith, int_rules) }
added_one (w ∷ vs) (suc i) v n p q h = let r = added_one vs i v n (omega arith) q h in record { fits = r.fits; small = r.small; sums = r.sums }

pub added_small : (vs : List Value) (i j : ℕ) (v : Value) (n : ℤ) → j ≡ i + 1 → i < length vs → v ≡ get_or vs i v → sums_small n (map plain (drop i vs)) ≡ true → Added vs i j v n
added_small vs i j v n e p q h = let f : suc i ≡ j = omega arith in subst (λ z. Added vs i z v n) f (added_one vs i v n p q h)
