use Rattle.kid_laws.specs.Table.{third_equations}
use Rattle.kid_laws.proofs.table.third_equations.Goals as goal

pub returns : goal.returns
unfolding third_equations
returns c = c.nth_row.ensures
