use Rattle.kid_laws.specs.Table.{first_implications}
use Rattle.kid_laws.proofs.table.first_implications.Goals as goal

pub returns : goal.returns
unfolding first_implications
returns c = c.nth_row.ensures
