use Rattle.std.proofs.Common.{◌≡◌, ◌++◌, length}
use Rattle.kid_theory.proofs.ClaimLemmas.{ArePartedOf}
use Rattle.kid_theory.proofs.file.parted.Given as goal

-- the claims so far are parted, and with those that are left they are all claims
abbrev pub invariant-loop-claim : goal.invariant-loop-claim
invariant-loop-claim l = record {
  parted : ArePartedOf l.yielded l.laws l.axioms;
  all : l.yielded ++ l.claim-iterator.rest.items ≡ l.fn.claims.items;
  left : length l.claim-iterator.rest.items ≡ l.claim-iterator.rest.len;
}
