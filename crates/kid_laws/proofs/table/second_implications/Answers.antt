use Rattle.kid_laws.specs.Table.{second_implications}
use Rattle.kid_laws.proofs.table.second_implications.Goals as goal

pub returns : goal.returns
unfolding second_implications
returns c = c.nth_row.ensures
