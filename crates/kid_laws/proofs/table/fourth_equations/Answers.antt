use Rattle.kid_laws.specs.Table.{fourth_equations}
use Rattle.kid_laws.proofs.table.fourth_equations.Goals as goal

pub returns : goal.returns
unfolding fourth_equations
returns c = c.nth_row.ensures
