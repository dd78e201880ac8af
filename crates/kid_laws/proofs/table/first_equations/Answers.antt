use Rattle.kid_laws.specs.Table.{first_equations}
use Rattle.kid_laws.proofs.table.first_equations.Goals as goal

pub returns : goal.returns
unfolding first_equations
returns c = c.nth_row.ensures
