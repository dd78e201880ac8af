use Rattle.std.proofs.Common.{◌≡◌, map, take}
use Rattle.kid_term.specs.TermView.{plain_term}
use Rattle.kid_term.proofs.+copy.Given as goal

abbrev pub invariant-copy::copy_all-loop-t : goal.invariant-copy::copy_all-loop-t
invariant-copy::copy_all-loop-t l = map plain_term l.copies.items ≡ map plain_term (take l.t-index l.terms)
