-- Names that are free.
use Rattle.std.proofs.Common.{◌≡◌, ℕ, ◌≤◌, Bool, true, false, not, List, [], ◌∷◌, ◌++◌, length, refl, arith}
use Rattle.std.specs.Prelude.{nat_lt}
use Rattle.std.proofs.lemmas.Bool.Decides.{nat_tests}
use Rattle.std.proofs.lemmas.List.{length-append}
use Rattle.kid_value.specs.PlainSort.{PlainSort}
use Rattle.kid_value.proofs.SortLemmas.{and_parts}
use Rattle.kid_term.specs.Names.{Names}
use Rattle.kid_codec.specs.Name.{is_name}
use Rattle.kid_value.specs.NameSet.{is_among}
use Rattle.kid_theory.specs.Taken.{Taken, is_free}

not_true : (b : Bool) → not b ≡ true → b ≡ false
not_true true p = cc
not_true false p = refl

-- a free name is none of those that are declared
pub free_new : (x : List ℕ) (taken : Taken) → is_free taken x ≡ true → is_among x taken ≡ false
free_new x taken p = not_true (is_among x taken) (and_parts (is_name x) (not (is_among x taken)) p).1

pub few_more : (names : Names) (n : List ℕ × PlainSort) → nat_lt (length names) 16 ≡ true → length (names ++ n ∷ []) ≤ 16
few_more names n p =
    let l = length-append names (n ∷ []) in
    grind (arith, nat_tests)
