-- Lists of true and of closed terms.
use Rattle.std.proofs.Common.{◌≡◌, ℕ, Bool, true, false, List, [], ◌∷◌, ◌++◌, refl, ap, ◌∙◌, ◌⊎◌, inl, inr}
use Rattle.std.specs.Prelude.{◌||◌}
use Rattle.kid_value.specs.PlainValue as value
use Rattle.kid_value.specs.PlainValue.{PlainValue, int, bool, pair, set, seq, map_of}
use Rattle.kid_value.specs.PlainSort.{PlainSort}
use Rattle.kid_value.specs.Rows.Parts.{truth_of}
use Rattle.kid_value.specs.Rows.Logic as row
use Rattle.kid_term.specs.PlainTerm.{PlainTerm}
use Rattle.kid_term.specs.Names.{same_name, Names, is_named}
use Rattle.kid_term.specs.Eval.{Env, Calls}
use Rattle.kid_term.specs.Truths.{AllTrue}
use Rattle.kid_scope.specs.Cases.{AllClosed}

pub or_cases : (b c : Bool) → (b || c) ≡ true → (b ≡ true) ⊎ (c ≡ true)
or_cases true c p = inl refl
or_cases false c p = inr p

pub or_second : (b c : Bool) → c ≡ true → (b || c) ≡ true
or_second true c p = refl
or_second false c p = p

pub or_false : (b : Bool) → (b || false) ≡ true → b ≡ true
or_false true p = refl
or_false false p = p

pub AllTrue-append : (calls : Calls) (env : Env) (ts us : List PlainTerm) → AllTrue calls env ts → AllTrue calls env us → AllTrue calls env (ts ++ us)
AllTrue-append calls env [] us a b = b
AllTrue-append calls env (t ∷ ts) us a b = (a.0, AllTrue-append calls env ts us a.1 b)

pub AllClosed-append : (names : Names) (ts us : List PlainTerm) → AllClosed names ts → AllClosed names us → AllClosed names (ts ++ us)
AllClosed-append names [] us a b = b
AllClosed-append names (t ∷ ts) us a b = (a.0, AllClosed-append names ts us a.1 b)

pub AllClosed-more : (names : Names) (n : List ℕ × PlainSort) (ts : List PlainTerm) → AllClosed names ts → AllClosed (n ∷ names) ts
AllClosed-more names n [] c = tt
AllClosed-more names n (t ∷ ts) c = (λ y m. or_second (same_name y n.0) (is_named y names) (c.0 y m), AllClosed-more names n ts c.1)

pub true_bool : (v : PlainValue) → truth_of v ≡ true → v ≡ bool true
true_bool (bool b) p = ap bool p
true_bool (int n) p = cc
true_bool (pair x y) p = cc
true_bool (set vs) p = cc
true_bool (seq vs) p = cc
true_bool (map_of m) p = cc
true_bool (value.tag n) p = cc

pub both_true : (v w : PlainValue) → truth_of v ≡ true → truth_of w ≡ true → truth_of (row.and v w) ≡ true
both_true v w p q = ap (λ z. truth_of (row.and z w)) (true_bool v p) ∙ ap (λ z. truth_of (row.and (bool true) z)) (true_bool w q)
