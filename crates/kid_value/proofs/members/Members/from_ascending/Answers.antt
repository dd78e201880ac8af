use Rattle.std.proofs.Common.{map, sym, subst, ◌∙◌}
use Rattle.kid_value.specs.ValueSet.{Ascends}
use Rattle.kid_value.specs.ValueView.{plain}
use Rattle.kid_value.proofs.RowLemmas.{items_row}
use Rattle.kid_value.proofs.members.Members.from_ascending.Goals as goal

pub invariant_of-result : goal.invariant_of-result
invariant_of-result c = (subst Ascends (sym (items_row (map plain c.values.inside.items.items) ∙ c.values.view_is)) c.requires, c.values.invariant)
