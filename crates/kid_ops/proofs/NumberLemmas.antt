-- The numbers from one to another, one at a time.
use Rattle.std.proofs.Common.{◌≡◌, ◌+◌, suc, ℤ, pos, negsuc, ◌+ℤ◌, ◌<ℤ◌, ◌≤ℤ◌, true, false, [], ◌∷◌, sym, ap, ◌∙◌, arith, cond}
use Rattle.std.specs.Prelude.{int_le}
use Rattle.std.specs.Int.{int_gap}
use Rattle.std.proofs.lemmas.Int.{ints as int_rules}
use Rattle.kid_value.specs.SortCount.{interval_count}
use Rattle.kid_value.specs.PlainValue.{int}
use Rattle.kid_value.specs.Rows.Set.{numbers}

holds : (a b : ℤ) → a ≤ℤ b → int_le a b ≡ true
holds a b h = grind (arith, int_rules)

fails : (a b : ℤ) → b <ℤ a → int_le a b ≡ false
fails a b h = grind (arith, int_rules)

gap-next : (a b c : ℤ) → c ≡ a +ℤ pos 1 → a <ℤ b → int_gap a b ≡ int_gap c b + 1
gap-next (pos a) (pos b) (pos c) e p = omega (arith, int_rules)
gap-next (pos a) (pos b) (negsuc c) e p = absurd (omega (arith, int_rules))
gap-next (pos a) (negsuc b) c e p = absurd (omega (arith, int_rules))
gap-next (negsuc a) (pos b) (pos c) e p = omega (arith, int_rules)
gap-next (negsuc a) (pos b) (negsuc c) e p = omega (arith, int_rules)
gap-next (negsuc a) (negsuc b) (pos c) e p = absurd (omega (arith, int_rules))
gap-next (negsuc a) (negsuc b) (negsuc c) e p = omega (arith, int_rules)

gap-none : (a : ℤ) → int_gap a a ≡ 0
gap-none (pos a) = omega arith
gap-none (negsuc a) = omega arith

pub numbers-none : (a b : ℤ) → b <ℤ a → numbers a (interval_count a b) ≡ []
numbers-none a b p = ap (λ t. numbers a (cond t (int_gap a b + 1) 0)) (fails a b p)

pub numbers-last : (a b : ℤ) → a ≡ b → numbers a (interval_count a b) ≡ int a ∷ []
numbers-last a b p =
    let t : int_le a b ≡ true = holds a b (omega (arith, int_rules)) in
    let g : int_gap a b ≡ 0 = ap (int_gap a) (sym p) ∙ gap-none a in
    (λ i. numbers a (cond (t i) (g i + 1) 0))

pub numbers-next : (a b c : ℤ) → c ≡ a +ℤ pos 1 → a <ℤ b → numbers a (interval_count a b) ≡ int a ∷ numbers c (interval_count c b)
numbers-next a b c e p =
    let t : int_le a b ≡ true = holds a b (omega (arith, int_rules)) in
    let u : int_le c b ≡ true = holds c b (omega (arith, int_rules)) in
    let g : int_gap a b + 1 ≡ suc (int_gap c b + 1) = ap (λ z. z + 1) (gap-next a b c e p) ∙ omega arith in
    (λ i. numbers a (cond (t i) (g i) 0)) ∙ (λ i. int a ∷ numbers (sym e i) (cond (sym u i) (int_gap c b + 1) 0))
