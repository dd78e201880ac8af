-- What the system said of a file, and what reading it answers.
use Rattle.std.specs.Prelude.{◌≡◌, ℕ, Option, Some, None, Result, Ok, Err, IsErrAnd}
use Rattle.std.specs.Global.{Vec}
use Rattle.kid_outer.specs.declared.store.LoadAnswer.{LoadAnswer}
use Rattle.kid_outer.specs.declared.store.LoadAnswer.TheVariants.{Failed, Absent, Large, Memory}

-- each answer comes of its own cause: bytes, too many of them, an error that says that there is no such file, one that
-- says that memory is wanting, and any other error
abbrev pub Tells : {E : Type 0} → (absent memory : E → Type 0) → Result (Option (Vec ℕ)) E → Result (Vec ℕ) LoadAnswer → Type 0
Tells absent memory found (Ok bytes) = found ≡ Ok (Some bytes)
Tells absent memory found (Err Large) = found ≡ Ok None
Tells absent memory found (Err Absent) = IsErrAnd found absent
Tells absent memory found (Err Memory) = IsErrAnd found memory
Tells absent memory found (Err Failed) = IsErrAnd found (λ e. (absent e → ⊥) × (memory e → ⊥))
