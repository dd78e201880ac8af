use Rattle.std.proofs.Common.{sym, subst, map}
use Rattle.kid_value.specs.ValueSet.{Ascends}
use Rattle.kid_value.specs.ValueView.{plain}
use Rattle.kid_value.proofs.ValueSetLaws.{Ascends-union}
use Rattle.kid_ops.proofs.set.either.Goals as goal

pub from_ascending-requires : goal.from_ascending-requires
from_ascending-requires c = subst Ascends (sym c.in_ok-values.ensures) (Ascends-union (map plain c.items.result.now) (map plain c.items-2.result.now) (subst Ascends (sym c.items-2.ensures.items) c.items-2.ensures.ascends))
