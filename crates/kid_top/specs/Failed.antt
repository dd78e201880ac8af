-- Which ends say that a call failed, and what the counts say where none did.
use Rattle.std.specs.Prelude.{◌≡◌, ℕ, Bool, true, false, Result, Ok, Err}
use Rattle.kid_top.specs.Risen.{Counts}
use Rattle.kid_top.specs.declared.stop.Stop.{Stop}
use Rattle.kid_top.specs.declared.stop.Stop.TheVariants as stop

abbrev pub has_failed : {T : Type 0} → Result T Stop → Bool
has_failed (Ok _) = false
has_failed (Err stop.Failed) = true
has_failed (Err why) = false

-- each count, of a file and of out, is what it was
abbrev pub NoneFailed : Counts → Counts → ℕ → ℕ → Type 0
NoneFailed before now out_before out_now = (now ≡ before) × (out_now ≡ out_before)
