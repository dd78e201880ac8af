-- Names are the same where they are equal.
use Rattle.std.proofs.Common.{◌≡◌, ℕ, Bool, true, false, List, refl, subst}
use Rattle.std.specs.Prelude.{IsTrue, ◌↔◌}
use Rattle.kid_term.specs.Names.{same_name}
use Rattle.kid_term.proofs.EvalLemmas.{same_name-itself, same_name-true}

pub same_from_equal : (x y : List ℕ) (b : Bool) → (IsTrue b ↔ (x ≡ y)) → b ≡ same_name x y
same_from_equal x y b h = by b (same_name x y) refl h
  where
    by : (b c : Bool) → same_name x y ≡ c → (IsTrue b ↔ (x ≡ y)) → b ≡ c
    by true true e h = refl
    by false false e h = refl
    by true false e h = let q : same_name x y ≡ true = subst (λ z. same_name x z ≡ true) (h.0 refl) (same_name-itself x) in cc
    by false true e h = let q : false ≡ true = h.1 (same_name-true x y e) in cc
