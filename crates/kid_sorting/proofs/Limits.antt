-- What does not fit the machine is no bound of an allowed sort.
use Rattle.std.proofs.Common.{◌≡◌, refl, false, true, Bool, arith, Err, sym, ◌∙◌}
use Rattle.std.specs.Prelude.{ℤ, pos, FitsSigned, ◌≤ℤ◌}
use Rattle.std.specs.Int.{w64, int_min, int_max}
use Rattle.std.proofs.lemmas.Int.{ints as int_rules, clamps}
use Rattle.kid_value.specs.PlainSort.{PlainSort, ints}
use Rattle.kid_value.specs.SortLimits.{is_allowed}
use Rattle.kid_term.specs.Sorted.{Bounds, allowed}
use Rattle.kid_term.specs.NumberSorts.{least_of_four, greatest_of_four}

refused : (s : PlainSort) → is_allowed s ≡ false → allowed s ≡ Err Bounds
refused s p = rw p refl

low_not_allowed : (lo hi : ℤ) → (FitsSigned w64 lo → ⊥) → is_allowed (ints lo hi) ≡ false
low_not_allowed lo hi unfit = grind (arith, int_rules)

high_not_allowed : (lo hi : ℤ) → (FitsSigned w64 hi → ⊥) → is_allowed (ints lo hi) ≡ false
high_not_allowed lo hi unfit = grind (arith, int_rules)

pub low_outside : (lo hi : ℤ) → (FitsSigned w64 lo → ⊥) → allowed (ints lo hi) ≡ Err Bounds
low_outside lo hi unfit = refused (ints lo hi) (low_not_allowed lo hi unfit)

pub high_outside : (lo hi : ℤ) → (FitsSigned w64 hi → ⊥) → allowed (ints lo hi) ≡ Err Bounds
high_outside lo hi unfit = refused (ints lo hi) (high_not_allowed lo hi unfit)

-- what lies between the bounds of an allowed sort fits
between_fits : (lo hi n : ℤ) → is_allowed (ints lo hi) ≡ true → lo ≤ℤ n → n ≤ℤ hi → FitsSigned w64 n
between_fits lo hi n p low high = grind (arith, int_rules)

-- two numbers between bounds of which one does not fit
two_outside : (lo hi m n : ℤ) → lo ≤ℤ m → m ≤ℤ hi → lo ≤ℤ n → n ≤ℤ hi → ¬ (FitsSigned w64 m × FitsSigned w64 n) → allowed (ints lo hi) ≡ Err Bounds
two_outside lo hi m n a b c d unfit = by (is_allowed (ints lo hi)) refl
  where
    by : (t : Bool) → is_allowed (ints lo hi) ≡ t → allowed (ints lo hi) ≡ Err Bounds
    by true e = absurd (unfit (between_fits lo hi m e a b, between_fits lo hi n e c d))
    by false e = refused (ints lo hi) e

bounds_ordered : (lo hi : ℤ) → is_allowed (ints lo hi) ≡ true → lo ≤ℤ hi
bounds_ordered lo hi p = grind (arith, int_rules)

int_itself : (n : ℤ) → n ≤ℤ n
int_itself n = omega (arith, int_rules)

-- bounds of which one does not fit
pub ends_outside : (lo hi : ℤ) → ¬ (FitsSigned w64 lo × FitsSigned w64 hi) → allowed (ints lo hi) ≡ Err Bounds
ends_outside lo hi unfit = by (is_allowed (ints lo hi)) refl
  where
    by : (t : Bool) → is_allowed (ints lo hi) ≡ t → allowed (ints lo hi) ≡ Err Bounds
    by true e =
        let h = bounds_ordered lo hi e in
        absurd (unfit (between_fits lo hi lo e (int_itself lo) h, between_fits lo hi hi e h (int_itself hi)))
    by false e = refused (ints lo hi) e

least-le : (p q r s : ℤ) → (least_of_four p q r s ≤ℤ p) × (least_of_four p q r s ≤ℤ q) × (least_of_four p q r s ≤ℤ r) × (least_of_four p q r s ≤ℤ s)
least-le p q r s = (omega (arith, int_rules, clamps), omega (arith, int_rules, clamps), omega (arith, int_rules, clamps), omega (arith, int_rules, clamps))

greatest-ge : (p q r s : ℤ) → (p ≤ℤ greatest_of_four p q r s) × (q ≤ℤ greatest_of_four p q r s) × (r ≤ℤ greatest_of_four p q r s) × (s ≤ℤ greatest_of_four p q r s)
greatest-ge p q r s = (omega (arith, int_rules, clamps), omega (arith, int_rules, clamps), omega (arith, int_rules, clamps), omega (arith, int_rules, clamps))

-- the first two of four ends do not both fit, or the last two
pub first_outside : (p q r s : ℤ) → ¬ (FitsSigned w64 p × FitsSigned w64 q) → allowed (ints (least_of_four p q r s) (greatest_of_four p q r s)) ≡ Err Bounds
first_outside p q r s unfit =
    let l = least-le p q r s in
    let g = greatest-ge p q r s in
    two_outside (least_of_four p q r s) (greatest_of_four p q r s) p q l.0 g.0 l.1 g.1 unfit

pub last_outside : (p q r s : ℤ) → ¬ (FitsSigned w64 r × FitsSigned w64 s) → allowed (ints (least_of_four p q r s) (greatest_of_four p q r s)) ≡ Err Bounds
last_outside p q r s unfit =
    let l = least-le p q r s in
    let g = greatest-ge p q r s in
    two_outside (least_of_four p q r s) (greatest_of_four p q r s) r s l.2 g.2 l.3 g.3 unfit

-- the greatest number of the machine
abbrev pub top : ℤ
top = pos 9223372036854775807

capped_refused : (lo hi : ℤ) → is_allowed (ints lo hi) ≡ false → is_allowed (ints (int_min lo top) (int_min hi top)) ≡ false
capped_refused lo hi p = grind (arith, int_rules)

capped_same : (lo hi n : ℤ) → is_allowed (ints lo hi) ≡ true → n ≤ℤ hi → int_min n top ≡ n
capped_same lo hi n p q = grind (arith, int_rules)

-- bounds that are capped there are allowed where they were, and are the same then
capped : (lo hi : ℤ) → allowed (ints (int_min lo top) (int_min hi top)) ≡ allowed (ints lo hi)
capped lo hi = by (is_allowed (ints lo hi)) refl
  where
    by : (t : Bool) → is_allowed (ints lo hi) ≡ t → allowed (ints (int_min lo top) (int_min hi top)) ≡ allowed (ints lo hi)
    by true e =
        let l = capped_same lo hi lo e (bounds_ordered lo hi e) in
        let h = capped_same lo hi hi e (int_itself hi) in
        λ i. allowed (ints (l i) (h i))
    by false e = refused (ints (int_min lo top) (int_min hi top)) (capped_refused lo hi e) ∙ sym (refused (ints lo hi) e)

min_capped : (p q : ℤ) → int_min (int_min p top) (int_min q top) ≡ int_min (int_min p q) top
min_capped p q = omega (arith, int_rules, clamps)

max_capped : (p q : ℤ) → int_max (int_min p top) (int_min q top) ≡ int_min (int_max p q) top
max_capped p q = omega (arith, int_rules, clamps)

-- so with the lesser of two and the greater of two
pub floors_capped : (p q r s : ℤ) → allowed (ints (int_min (int_min p top) (int_min q top)) (int_max (int_min r top) (int_min s top))) ≡ allowed (ints (int_min p q) (int_max r s))
floors_capped p q r s = (λ i. allowed (ints (min_capped p q i) (max_capped r s i))) ∙ capped (int_min p q) (int_max r s)
