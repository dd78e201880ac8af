-- Sorts of which one is not there have no common one.
use Rattle.std.proofs.Common.{◌≡◌, false, None, Ok, Err, refl}
use Rattle.kid_term.specs.Sorted.{Sorted}
use Rattle.kid_kernel.specs.SortedLaw.{Sorts}
use Rattle.kid_kernel.specs.SortedLaw.{have_common}

pub common-left : (r s : Sorted) → Sorts None r → have_common r s ≡ false
common-left (Ok a) s h = absurd h
common-left (Err fault) s h = refl

pub common-right : (r s : Sorted) → Sorts None s → have_common r s ≡ false
common-right r (Ok b) h = absurd h
common-right (Ok a) (Err fault) h = refl
common-right (Err fault) (Err other) h = refl

pub ruleset common = (common-left, common-right)
