use Rattle.kid_laws.specs.Table.{second_equations}
use Rattle.kid_laws.proofs.table.second_equations.Goals as goal

pub returns : goal.returns
unfolding second_equations
returns c = c.nth_row.ensures
