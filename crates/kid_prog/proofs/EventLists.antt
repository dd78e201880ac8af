-- Runs of a list of events: how much fuel reaches to its end, and where the values that are wanted end it.
use Rattle.std.proofs.Common.{◌≡◌, ℕ, zero, suc, ◌+◌, ◌≤◌, ◌<◌, Bool, true, false, List, [], ◌∷◌, ◌++◌, Option, Some, None, refl, ap, arith}
use Rattle.kid_value.specs.PlainValue.{PlainValue}
use Rattle.kid_prog.specs.Events.{Event, called, found}
use Rattle.kid_prog.specs.Running.{upto_value, finding, calling, within}

abbrev pub values_in : List Event → List PlainValue
values_in [] = []
values_in (found v ∷ es) = v ∷ values_in es
values_in (called ∷ es) = values_in es

abbrev pub calls_in : List Event → ℕ
calls_in [] = 0
calls_in (found v ∷ es) = calls_in es
calls_in (called ∷ es) = suc (calls_in es)

pub values_in-append : (es fs : List Event) → values_in (es ++ fs) ≡ values_in es ++ values_in fs
values_in-append [] fs = refl
values_in-append (found v ∷ es) fs = ap (λ vs. v ∷ vs) (values_in-append es fs)
values_in-append (called ∷ es) fs = values_in-append es fs

pub calls_in-append : (es fs : List Event) → calls_in (es ++ fs) ≡ calls_in es + calls_in fs
calls_in-append [] fs = omega arith
calls_in-append (found v ∷ es) fs = calls_in-append es fs
calls_in-append (called ∷ es) fs = let e = calls_in-append es fs in omega (arith, e)

-- a whole run found all values and began all calls, of which there are no more than its fuel
pub record IsAllOf (fuel : ℕ) (es : List Event) : Type 0 where
  pub few : calls_in es ≤ fuel
  pub values : (within fuel es).values ≡ values_in es
  pub calls : (within fuel es).calls ≡ calls_in es

pub whole-is_all : (es : List Event) (fuel : ℕ) → (within fuel es).whole ≡ true → IsAllOf fuel es
whole-is_all [] fuel whole = record { few = omega arith; values = refl; calls = refl }
whole-is_all (found v ∷ es) fuel whole =
    let r = whole-is_all es fuel whole in record { few = r.few; values = ap (λ vs. v ∷ vs) r.values; calls = r.calls }
whole-is_all (called ∷ es) zero whole = cc
whole-is_all (called ∷ es) (suc fuel) whole =
    let r = whole-is_all es fuel whole in record { few = omega (arith, r.few); values = r.values; calls = ap suc r.calls }

pub few-whole : (es : List Event) (fuel : ℕ) → calls_in es ≤ fuel → (within fuel es).whole ≡ true
few-whole [] fuel few = refl
few-whole (found v ∷ es) fuel few = few-whole es fuel few
few-whole (called ∷ es) zero few = absurd (omega (arith, few))
few-whole (called ∷ es) (suc fuel) few = few-whole es fuel (omega (arith, few))

pub many-cut : (es : List Event) (fuel : ℕ) → fuel < calls_in es → (within fuel es).whole ≡ false
many-cut [] fuel many = absurd (omega (arith, many))
many-cut (found v ∷ es) fuel many = many-cut es fuel many
many-cut (called ∷ es) zero many = refl
many-cut (called ∷ es) (suc fuel) many = many-cut es fuel (omega (arith, many))

-- a run that came to its end is the same with more fuel
pub within-more : (es : List Event) (n m : ℕ) → n ≤ m → (within n es).whole ≡ true → within m es ≡ within n es
within-more [] n m le whole = refl
within-more (found v ∷ es) n m le whole = ap (finding v) (within-more es n m le whole)
within-more (called ∷ es) zero m le whole = cc
within-more (called ∷ es) (suc n) zero le whole = let none : ⊥ = omega (arith, le) in absurd none
within-more (called ∷ es) (suc n) (suc m) le whole = ap calling (within-more es n m (omega (arith, le)) whole)

-- however many values are wanted, nothing is done of nothing
pub upto-none : (w : Option ℕ) → upto_value w [] ≡ []
upto-none None = refl
upto-none (Some zero) = refl
upto-none (Some (suc k)) = refl
