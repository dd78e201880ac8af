use Rattle.std.proofs.Common.{subst}
use Rattle.kid_value.specs.PlainValue.{map_of, table}
use Rattle.kid_value.specs.Canonical.{IsCanonical}
use Rattle.kid_value.proofs.CanonicalLemmas.{ascends-map}
use Rattle.kid_value.proofs.entries.Entries.into_vec.Goals as goal

pub returns-clause-ascends : goal.returns-clause-ascends
returns-clause-ascends c = ascends-map c.args.self (subst (λ z. IsCanonical (map_of (table z))) c.self.view_is c.self.invariant)
