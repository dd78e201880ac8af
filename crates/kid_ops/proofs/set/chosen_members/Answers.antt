use Rattle.std.proofs.Common.{sym, subst}
use Rattle.kid_value.specs.ValueSet.{Ascends}
use Rattle.kid_value.proofs.ValueSetLaws.{Ascends-filter}
use Rattle.kid_ops.proofs.set.chosen_members.Goals as goal

pub from_ascending-requires : goal.from_ascending-requires
from_ascending-requires c = subst Ascends (sym c.in_ok-values.ensures) (Ascends-filter _ _ (subst Ascends (sym c.items.ensures.items) c.items.ensures.ascends))
