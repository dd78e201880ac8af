-- What is wrong with a text, and where.
use Rattle.std.specs.Prelude.{ℕ, List, [], ◌∷◌, ◌==◌, if◌then◌else◌, Option, Some, None}
use Rattle.std.proofs.Common.{zero, suc}
use Rattle.kid_sexp.specs.Token.{Mark, opens_at, closes_at, word_of}

pub data Fault : Type 0 where
  bad : (at : ℕ) → Fault
  deep : (at : ℕ) → Fault
  unbalanced : (at : ℕ) → Fault

-- The first fault of the brackets of a text of this length, from where so many are open. At most 250 are open at once.
abbrev pub bracket_fault : ℕ → ℕ → List Mark → Option Fault
bracket_fault len zero [] = None
bracket_fault len (suc open_before) [] = Some (unbalanced len)
bracket_fault len open_now (word_of bytes ∷ marks) = bracket_fault len open_now marks
bracket_fault len open_now (opens_at at ∷ marks) =
    if open_now == 250 then Some (deep at) else bracket_fault len (suc open_now) marks
bracket_fault len zero (closes_at at ∷ marks) = Some (unbalanced at)
bracket_fault len (suc others) (closes_at at ∷ marks) = bracket_fault len others marks
