-- Which files are read, and what holds of each theory that is read.
use Rattle.std.proofs.Common.{◌≡◌, ℕ, List, Result, Ok, Err, refl, subst}
use Rattle.std.specs.Prelude.{IfOk}
use Rattle.kid_term.specs.PlainTheory.{PlainTheory}
use Rattle.kid_kernel.specs.TheoryView.{plain_theory}
use Rattle.kid_kernel.specs.declared.theory.Theory.{Theory}
use Rattle.kid_theory.specs.Answers.{Reads}
use Rattle.kid_theory.specs.Formed.{FilesAreRead, IsSpelledBy}
use Rattle.kid_theory.specs.IsRead.{IsRead}
use Rattle.kid_theory.specs.PlainFile.{PlainFile, theory_of}
use Rattle.kid_theory.specs.Reading.{Read, theory_found, file_reading, theory_reading}
use Rattle.kid_theory.specs.declared.fault.TheoryFault.{TheoryFault}
use Rattle.kid_theory.proofs.FormedTheory.{formed_read}
use Rattle.kid_theory.proofs.ReadBack.{kept_read}
use Rattle.kid_theory.proofs.ReadKept.{read_kept}

pub files_read : FilesAreRead
files_read bytes f = (read_kept bytes f, kept_read bytes f)

file_found : (r : Read PlainFile) (t : PlainTheory) → theory_found r ≡ Ok t → (f : PlainFile) × (r ≡ Ok f) × (theory_of f ≡ t)
file_found (Ok f) t e = let same : theory_of f ≡ t = cc in (f, refl, same)
file_found (Err fault) t e = cc

-- a theory that is read is that of a file that is spelled
pub spelled_by : (bytes : List ℕ) (t : PlainTheory) → theory_reading bytes ≡ Ok t → IsSpelledBy bytes t
spelled_by bytes t e =
    let found = file_found (file_reading bytes) t e in
    record { file = found.0; gives = found.2; is_file = read_kept bytes found.0 found.1 }

pub theories_read : (bytes : List ℕ) (t : PlainTheory) → theory_reading bytes ≡ Ok t → IsRead t
theories_read bytes t e =
    let spelled = spelled_by bytes t e in
    subst IsRead spelled.gives (formed_read spelled.file spelled.is_file.formed)

-- a theory that was read
pub read_result : (bytes : List ℕ) (r : Result Theory TheoryFault) → Reads plain_theory r (theory_reading bytes) → IfOk r (λ t. IsRead (plain_theory t))
read_result bytes (Ok t) e = theories_read bytes (plain_theory t) e
read_result bytes (Err fault) e = tt

pub spelled_result : (bytes : List ℕ) (r : Result Theory TheoryFault) → Reads plain_theory r (theory_reading bytes) → IfOk r (λ t. IsSpelledBy bytes (plain_theory t))
spelled_result bytes (Ok t) e = spelled_by bytes (plain_theory t) e
spelled_result bytes (Err fault) e = tt
