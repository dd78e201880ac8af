use Rattle.std.proofs.Common.{subst}
use Rattle.kid_value.specs.PlainValue.{set, row}
use Rattle.kid_value.specs.Canonical.{IsCanonical}
use Rattle.kid_value.proofs.CanonicalLemmas.{ascends-set}
use Rattle.kid_value.proofs.members.Members.into_vec.Goals as goal

pub returns-clause-ascends : goal.returns-clause-ascends
returns-clause-ascends c = ascends-set c.args.self (subst (λ z. IsCanonical (set (row z))) c.self.view_is c.self.invariant)
