-- What it takes for an outcome to be there.
use Rattle.std.proofs.Common.{◌≡◌, ℕ, Bool, true, false, List, Option, Some, None, Result, Ok, Err, refl, sym, ap, ◌∙◌}
use Rattle.std.specs.Prelude.{nat_le, length, if◌then◌else◌}
use Rattle.kid_term.specs.PlainTheory.{PlainTheory}
use Rattle.kid_theory.specs.IsRead.{IsRead}
use Rattle.kid_theory.specs.Reading.{Read, theory_reading}
use Rattle.kid_theory.proofs.Laws.{theories_read}
use Rattle.kid_prog.specs.PlainProgram.{PlainProgram}
use Rattle.kid_prog.specs.ProgramText.{program_text}
use Rattle.kid_prog.specs.Loading.{Loaded, loading}
use Rattle.kid_prog.proofs.Laws.{texts_back}
use Rattle.kid_top.specs.declared.stop.Stop.{Stop}
use Rattle.kid_top.specs.Emitted.{program_for}
use Rattle.kid_top.specs.Files.{script_file}
use Rattle.kid_top.specs.Outcome.{◌>>=◌, theory_or, theory_file, theory_stage, stage, loads_or, emitted_or, script_program}
use Rattle.kid_top.proofs.EmittedSpelled.{emitted_spelled}
use Rattle.kid_top.proofs.Searches.{Searches, program_searches}

pub bind_ok : {A B : Type 0} (r : Result A Stop) (f : A → Result B Stop) (z : B) → (r >>= f) ≡ Ok z → (x : A) × (r ≡ Ok x) × (f x ≡ Ok z)
bind_ok (Err e) f z p = cc
bind_ok (Ok x) f z p = (x, refl, p)

-- a result is one
pub same_ok : {A : Type 0} (r : Result A Stop) (x y : A) → r ≡ Ok x → r ≡ Ok y → x ≡ y
same_ok r x y p q = cc

-- ---- theories

theory_or_ok : (r : Read PlainTheory) (t : PlainTheory) → theory_or r ≡ Ok t → r ≡ Ok t
theory_or_ok (Ok u) t e = cc
theory_or_ok (Err fault) t e = cc

read_theory : (bytes : List ℕ) (t : PlainTheory) (fits : Bool) → theory_file (if fits then Some bytes else None) ≡ Ok t → IsRead t
read_theory bytes t true e = theories_read bytes t (theory_or_ok (theory_reading bytes) t e)
read_theory bytes t false e = cc

pub stage_theory : (k : ℕ) (file : Option (List ℕ)) (t : PlainTheory) → theory_stage k file ≡ Ok t → IsRead t
stage_theory k None t e = cc
stage_theory k (Some bytes) t e = read_theory bytes t (nat_le (length bytes) 4194304) e

-- ---- the program of a theory and the script

loads_or_ok : (r : Loaded PlainProgram) (q : PlainProgram) → loads_or r ≡ Ok q → r ≡ Ok q
loads_or_ok (Ok p) q e = cc
loads_or_ok (Err fault) q e = cc

emitted_or_ok : (o : Option PlainProgram) (q : PlainProgram) → emitted_or o ≡ Ok q → (p : PlainProgram) × (o ≡ Some p) × (loading (program_text p) ≡ Ok q)
emitted_or_ok None q e = cc
emitted_or_ok (Some p) q e = (p, refl, loads_or_ok (loading (program_text p)) q e)

pub script_program_ok : (t : PlainTheory) (script : Option (List ℕ)) (q : PlainProgram) → script_program t script ≡ Ok q
    → (p : PlainProgram) × (program_for t ≡ Some p) × (loading (program_text p) ≡ Ok q)
script_program_ok t script q e =
    let a = bind_ok (stage 2 script_file script) (λ (u : Unit {0}). emitted_or (program_for t)) q e in
    emitted_or_ok (program_for t) q a.2

-- the program that a theory and the script give is the one for the theory, which its text gives back
pub record Gives (t : PlainTheory) (q : PlainProgram) : Type 0 where
  pub emits : program_for t ≡ Some q
  pub loads : loading (program_text q) ≡ Ok q

pub script_gives : (t : PlainTheory) (script : Option (List ℕ)) (q : PlainProgram) → IsRead t → script_program t script ≡ Ok q → Gives t q
script_gives t script q is e =
    let a = script_program_ok t script q e in
    let same = texts_back a.0 q (emitted_spelled t a.0 is a.1) a.2 in
    record { emits = a.1 ∙ ap (λ (p : PlainProgram). Some p) (sym same); loads = ap (λ (p : PlainProgram). loading (program_text p)) same ∙ a.2 }

pub script_searches : (t : PlainTheory) (script : Option (List ℕ)) (q : PlainProgram) → IsRead t → script_program t script ≡ Ok q → Searches t q
script_searches t script q is e = program_searches t q is (script_gives t script q is e).emits
