-- Laws by their names, in two lists one after the other.
use Rattle.std.proofs.Common.{◌≡◌, ℕ, Bool, true, false, List, [], ◌∷◌, ◌++◌, Option, Some, None, refl, cond, length}
use Rattle.kid_term.specs.PlainLaw.{PlainLaw}
use Rattle.kid_term.specs.Names.{same_name, Names}
use Rattle.kid_term.specs.PlainTerm.{PlainTerm}
use Rattle.kid_laws.specs.Applied.{matched_terms}
use Rattle.kid_scope.specs.LawRules.{law_named, names_of}
use Rattle.kid_kernel.specs.RulesKeep.{matched_stand}

pub found_first : (f : List ℕ) (ls ms : List PlainLaw) (l : PlainLaw) → law_named f ls ≡ Some l → law_named f (ls ++ ms) ≡ Some l
found_first f [] ms l e = cc
found_first f (k ∷ ls) ms l e = by (same_name f k.name) e (found_first f ls ms l)
  where
    by : (b : Bool) → cond b (Some k) (law_named f ls) ≡ Some l → (law_named f ls ≡ Some l → law_named f (ls ++ ms) ≡ Some l) → cond b (Some k) (law_named f (ls ++ ms)) ≡ Some l
    by true p rest = p
    by false p rest = rest p

pub found_later : (f : List ℕ) (ls ms : List PlainLaw) → law_named f ls ≡ None → law_named f (ls ++ ms) ≡ law_named f ms
found_later f [] ms e = refl
found_later f (k ∷ ls) ms e = by (same_name f k.name) e (found_later f ls ms)
  where
    by : (b : Bool) → cond b (Some k) (law_named f ls) ≡ None → (law_named f ls ≡ None → law_named f (ls ++ ms) ≡ law_named f ms) → cond b (Some k) (law_named f (ls ++ ms)) ≡ law_named f ms
    by true p rest = cc
    by false p rest = rest p

-- ---- a term for each variable
pub as_many : (vs : Names) (side : PlainTerm) (args : List PlainTerm) (old : PlainTerm) (ts : List PlainTerm) → matched_terms (names_of vs) side args old ≡ Some ts → length ts ≡ length vs
as_many vs side args old ts e = (matched_stand vs side args old ts e).0
