-- What a form of a theory holds, or what is wrong with it.
use Rattle.std.specs.Prelude.{Bool, true, false, Option, Some, None, Result, Ok, Err}
use Rattle.kid_theory.specs.declared.fault.TheoryCode.{TheoryCode}
use Rattle.kid_theory.specs.declared.fault.TheoryCode.TheVariants as code
pub use Rattle.kid_term.specs.Chain.{◌>>=◌}

abbrev pub Judged : Type 0 → Type 0
Judged A = Result A TheoryCode

-- what a form has the shape of
abbrev pub shaped : {A : Type 0} → Option A → Judged A
shaped None = Err code.Form
shaped (Some x) = Ok x

-- what comes after a test, and the code where the test fails
abbrev pub tested : {A : Type 0} → Bool → TheoryCode → Judged A → Judged A
tested true c r = r
tested false c r = Err c
