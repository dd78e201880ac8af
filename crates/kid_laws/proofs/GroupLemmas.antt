-- In which group of the table a law stands.
use Rattle.std.proofs.Common.{◌≡◌, ℕ, ◌-◌, ◌<◌, ◌≤◌, List, ◌++◌, refl, ap, ◌∙◌, length, arith}
use Rattle.kid_laws.specs.Table.{law_at, equations, implications, first_equations, second_equations, third_equations, fourth_equations, first_implications, second_implications}
use Rattle.kid_laws.proofs.RowLemmas.{law_at-left, law_at-right}

first_equations_long : length first_equations ≡ 12
unfolding first_equations
first_equations_long = refl

second_equations_long : length second_equations ≡ 12
unfolding second_equations
second_equations_long = refl

third_equations_long : length third_equations ≡ 12
unfolding third_equations
third_equations_long = refl

first_implications_long : length first_implications ≡ 10
unfolding first_implications
first_implications_long = refl

after : {L : Type 0} (xs ys : List L) (k n : ℕ) → length xs ≡ k → k < n → law_at (xs ++ ys) n ≡ law_at ys (n - k)
after xs ys k n e h = law_at-right xs ys n (n - k) (omega arith) (omega arith)

pub in_first_equations : (n : ℕ) → n ≤ 12 → law_at equations n ≡ law_at first_equations n
in_first_equations n l = law_at-left first_equations _ n (omega (arith, first_equations_long))

pub in_second_equations : (n m : ℕ) → m ≡ n - 12 → 12 < n → n ≤ 24 → law_at equations n ≡ law_at second_equations m
in_second_equations n m e h l =
    after first_equations _ 12 n first_equations_long (omega arith)
    ∙ law_at-left second_equations _ (n - 12) (omega (arith, second_equations_long))
    ∙ ap (law_at second_equations) (let f : n - 12 ≡ m = omega arith in f)

pub in_third_equations : (n m : ℕ) → m ≡ n - 24 → 24 < n → n ≤ 36 → law_at equations n ≡ law_at third_equations m
in_third_equations n m e h l =
    after first_equations _ 12 n first_equations_long (omega arith)
    ∙ after second_equations _ 12 (n - 12) second_equations_long (omega arith)
    ∙ law_at-left third_equations _ (n - 12 - 12) (omega (arith, third_equations_long))
    ∙ ap (law_at third_equations) (let f : n - 12 - 12 ≡ m = omega arith in f)

pub in_fourth_equations : (n m : ℕ) → m ≡ n - 36 → 36 < n → law_at equations n ≡ law_at fourth_equations m
in_fourth_equations n m e h =
    after first_equations _ 12 n first_equations_long (omega arith)
    ∙ after second_equations _ 12 (n - 12) second_equations_long (omega arith)
    ∙ after third_equations _ 12 (n - 12 - 12) third_equations_long (omega arith)
    ∙ ap (law_at fourth_equations) (let f : n - 12 - 12 - 12 ≡ m = omega arith in f)

pub in_first_implications : (n : ℕ) → n ≤ 10 → law_at implications n ≡ law_at first_implications n
in_first_implications n l = law_at-left first_implications _ n (omega (arith, first_implications_long))

pub in_second_implications : (n m : ℕ) → m ≡ n - 10 → 10 < n → law_at implications n ≡ law_at second_implications m
in_second_implications n m e h = after first_implications _ 10 n first_implications_long (omega arith) ∙ ap (law_at second_implications) (let f : n - 10 ≡ m = omega arith in f)
