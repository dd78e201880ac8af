-- The faults of brackets, and what a call that gives a reading answers.
use Rattle.std.proofs.Common.{◌≡◌, ℕ, zero, suc, List, [], ◌∷◌, length, Result, Ok, Err, Option, Some, None, refl, sym, ap, ◌∙◌, subst, eqb, true, false, cond, Bool, ◌⊎◌, inl, inr, ⊎_elim}
use Rattle.std.specs.Prelude.{◌↔◌}
use Rattle.kid_sexp.specs.declared.fault.ReadFault.{ReadFault}
use Rattle.kid_sexp.specs.declared.fault.ReadFault.TheVariants.{BadByte, Deep, Unbalanced, Memory}
use Rattle.kid_sexp.specs.Token.{Mark, opens_at, closes_at, word_of}
use Rattle.kid_sexp.specs.Plain.{Plains, none, join, one, atom, list}
use Rattle.kid_sexp.specs.Alphabet.{bad_byte, IsFirstBad}
use Rattle.kid_sexp.specs.Brackets.{Fault, bad, deep, unbalanced, bracket_fault}
use Rattle.kid_sexp.specs.Scan.{scanned}
use Rattle.kid_sexp.specs.Reading.{build, clean_reading, reading_after, reading}
use Rattle.kid_sexp.specs.Spells.{Spells, HasBracketFault, HasFault}
use Rattle.kid_sexp.specs.Gives.{Gives, IsUnlessMemory}
use Rattle.kid_sexp.proofs.Alphabets.{clean-from_none, none-from_clean}
use Rattle.kid_sexp.proofs.Scanned.{scan-tokens, scanned-tokens}
use Rattle.kid_sexp.proofs.Spelled.{spelled-reading}

abbrev fault_of : Result Plains Fault → Option Fault
fault_of (Ok forest) = None
fault_of (Err fault) = Some fault

fault_of-cond : (t : Bool) (fault : Fault) (x : Result Plains Fault) (y : Option Fault)
    → fault_of x ≡ y → fault_of (cond t (Err fault) x) ≡ cond t (Some fault) y
fault_of-cond true fault x y e = refl
fault_of-cond false fault x y e = e

-- building meets the fault that counting meets
fault_of-build : (len : ℕ) (current : Plains) (rest : List Plains) (ms : List Mark)
    → fault_of (build len current rest ms) ≡ bracket_fault len (length rest) ms
fault_of-build len current [] [] = refl
fault_of-build len current (outer ∷ rest) [] = refl
fault_of-build len current rest (word_of bytes ∷ ms) = fault_of-build len (join current (one (atom bytes))) rest ms
fault_of-build len current rest (opens_at at ∷ ms) =
    fault_of-cond (eqb (length rest) 250) (deep at) (build len none (current ∷ rest) ms) (bracket_fault len (suc (length rest)) ms)
    (fault_of-build len none (current ∷ rest) ms)
fault_of-build len current [] (closes_at at ∷ ms) = refl
fault_of-build len current (outer ∷ rest) (closes_at at ∷ ms) = fault_of-build len (join outer (one (list current))) rest ms

err_from_fault : (r : Result Plains Fault) (fault : Fault) → fault_of r ≡ Some fault → r ≡ Err fault
err_from_fault (Ok forest) fault e = absurd (let no : ⊥ = cc in no)
err_from_fault (Err found) fault e = cc

faulty-reading : (bytes : List ℕ) (fault : Fault) → HasBracketFault bytes fault → reading bytes ≡ Err fault
faulty-reading bytes fault h =
    ap (reading_after bytes) (none-from_clean bytes h.clean)
    ∙ err_from_fault (clean_reading bytes) fault
    (fault_of-build (length bytes) none [] (scanned bytes) ∙ ap (bracket_fault (length bytes) 0) (scan-tokens h.tokens) ∙ h.first)

-- counting brackets finds no byte outside the alphabet
no_bad : (len n : ℕ) (ms : List Mark) (at : ℕ) → bracket_fault len n ms ≡ Some (bad at) → ⊥
no_bad len zero [] at e = cc
no_bad len (suc n) [] at e = cc
no_bad len n (word_of bytes ∷ ms) at e = no_bad len n ms at e
no_bad len n (opens_at place ∷ ms) at e = in_cond (eqb n 250) (deep place) (bracket_fault len (suc n) ms) (bad at) (λ h. let no : ⊥ = cc in no) (no_bad len (suc n) ms at) e
  where
    in_cond : (t : Bool) (f : Fault) (o : Option Fault) (g : Fault) → (f ≡ g → ⊥) → (o ≡ Some g → ⊥) → cond t (Some f) o ≡ Some g → ⊥
    in_cond true f o g differs other e = differs cc
    in_cond false f o g differs other e = other e
no_bad len zero (closes_at place ∷ ms) at e = cc
no_bad len (suc n) (closes_at place ∷ ms) at e = no_bad len n ms at e

abbrev Finds : List ℕ → Fault → Type 0
Finds bytes fault = ((at : ℕ) × (fault ≡ bad at) × IsFirstBad bytes at) ⊎ HasBracketFault bytes fault

reading_after-fault : (bytes : List ℕ) (o : Option ℕ) (fault : Fault) → bad_byte bytes ≡ o → reading_after bytes o ≡ Err fault → Finds bytes fault
reading_after-fault bytes (Some at) fault is e = inl (at, (let same : fault ≡ bad at = cc in same), is)
reading_after-fault bytes None fault is e = inr (record {
  clean = clean-from_none bytes is;
  marks = scanned bytes;
  tokens = scanned-tokens bytes (clean-from_none bytes is);
  first = sym (fault_of-build (length bytes) none [] (scanned bytes)) ∙ ap fault_of e;
})

reading-fault : (bytes : List ℕ) (fault : Fault) → reading bytes ≡ Err fault → Finds bytes fault
reading-fault bytes fault e = reading_after-fault bytes (bad_byte bytes) fault refl e

reading-bad : (bytes : List ℕ) (at : ℕ) → reading bytes ≡ Err (bad at) → IsFirstBad bytes at
reading-bad bytes at e =
    ⊎_elim (λ b. subst (IsFirstBad bytes) (let same : b.0 ≡ at = cc in same) b.2)
    (λ h. absurd (no_bad (length bytes) 0 h.marks at h.first)) (reading-fault bytes (bad at) e)

reading-deep : (bytes : List ℕ) (at : ℕ) → reading bytes ≡ Err (deep at) → HasBracketFault bytes (deep at)
reading-deep bytes at e = ⊎_elim (λ b. absurd (let no : ⊥ = cc in no)) (λ h. h) (reading-fault bytes (deep at) e)

reading-unbalanced : (bytes : List ℕ) (at : ℕ) → reading bytes ≡ Err (unbalanced at) → HasBracketFault bytes (unbalanced at)
reading-unbalanced bytes at e = ⊎_elim (λ b. absurd (let no : ⊥ = cc in no)) (λ h. h) (reading-fault bytes (unbalanced at) e)

pub reading-faulty : (bytes : List ℕ) (fault : Fault) → (reading bytes ≡ Err fault) ↔ HasFault bytes fault
reading-faulty bytes (bad at) = (reading-bad bytes at, λ is. ap (reading_after bytes) is)
reading-faulty bytes (deep at) = (reading-deep bytes at, faulty-reading bytes (deep at))
reading-faulty bytes (unbalanced at) = (reading-unbalanced bytes at, faulty-reading bytes (unbalanced at))

-- ---- what a call that gives the reading answers

gives-ok : (r : Result Plains ReadFault) (forest : Plains) → Gives r (Ok forest) → IsUnlessMemory r (Ok forest)
gives-ok (Ok y) forest g = inl cc
gives-ok (Err Memory) forest g = inr refl
gives-ok (Err (BadByte place)) forest g = absurd (let no : ⊥ = cc in no)
gives-ok (Err (Deep place)) forest g = absurd (let no : ⊥ = cc in no)
gives-ok (Err (Unbalanced place)) forest g = absurd (let no : ⊥ = cc in no)

gives-deep : (r : Result Plains ReadFault) (at : ℕ) → Gives r (Err (deep at)) → IsUnlessMemory r (Err (Deep at))
gives-deep (Ok y) at g = absurd (let no : ⊥ = cc in no)
gives-deep (Err Memory) at g = inr refl
gives-deep (Err (BadByte place)) at g = absurd (let no : ⊥ = cc in no)
gives-deep (Err (Deep place)) at g = inl cc
gives-deep (Err (Unbalanced place)) at g = absurd (let no : ⊥ = cc in no)

gives-unbalanced : (r : Result Plains ReadFault) (at : ℕ) → Gives r (Err (unbalanced at)) → IsUnlessMemory r (Err (Unbalanced at))
gives-unbalanced (Ok y) at g = absurd (let no : ⊥ = cc in no)
gives-unbalanced (Err Memory) at g = inr refl
gives-unbalanced (Err (BadByte place)) at g = absurd (let no : ⊥ = cc in no)
gives-unbalanced (Err (Deep place)) at g = absurd (let no : ⊥ = cc in no)
gives-unbalanced (Err (Unbalanced place)) at g = inl cc

module _ (bytes : List ℕ) (r : Result Plains ReadFault) (gives : Gives r (reading bytes)) where
  pub read-only : (forest : Plains) → Spells bytes forest → IsUnlessMemory r (Ok forest)
  read-only forest s = gives-ok r forest (subst (Gives r) (spelled-reading bytes forest s) gives)

  pub read-bad_byte : (at : ℕ) → r ≡ Err (BadByte at) → IsFirstBad bytes at
  read-bad_byte at e = reading-bad bytes at (subst (λ (x : Result Plains ReadFault). Gives x (reading bytes)) e gives)

  pub read-deep : (at : ℕ) → r ≡ Err (Deep at) → HasBracketFault bytes (deep at)
  read-deep at e = reading-deep bytes at (subst (λ (x : Result Plains ReadFault). Gives x (reading bytes)) e gives)

  pub read-deep_only : (at : ℕ) → HasBracketFault bytes (deep at) → IsUnlessMemory r (Err (Deep at))
  read-deep_only at h = gives-deep r at (subst (Gives r) (faulty-reading bytes (deep at) h) gives)

  pub read-unbalanced : (at : ℕ) → r ≡ Err (Unbalanced at) → HasBracketFault bytes (unbalanced at)
  read-unbalanced at e = reading-unbalanced bytes at (subst (λ (x : Result Plains ReadFault). Gives x (reading bytes)) e gives)

  pub read-unbalanced_only : (at : ℕ) → HasBracketFault bytes (unbalanced at) → IsUnlessMemory r (Err (Unbalanced at))
  read-unbalanced_only at h = gives-unbalanced r at (subst (Gives r) (faulty-reading bytes (unbalanced at) h) gives)
