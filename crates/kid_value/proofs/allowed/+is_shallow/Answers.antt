use Rattle.std.proofs.Common.{ap, sym, ◌∙◌, nat_le}
use Rattle.kid_value.specs.SortLimits.{sort_depth}
use Rattle.kid_value.specs.SortView.{plain_sort}
use Rattle.kid_value.proofs.SortLemmas.{never_flat}
use Rattle.kid_value.proofs.allowed.+is_shallow.Goals as goal

pub returns-then-room-eq0 : goal.returns-then-room-eq0
returns-then-room-eq0 t c = sym (ap (nat_le (sort_depth (plain_sort c.args.s.now))) c.if-room-eq0.true ∙ never_flat (plain_sort c.args.s.now))
