use Rattle.std.proofs.Common.{◌∙◌, ◌-◌, sym, refl, arith}
use Rattle.kid_laws.proofs.GroupLemmas.{in_first_implications, in_second_implications}
use Rattle.kid_laws.proofs.table.implication.Goals as goal

pub returns-then-number-le10 : goal.returns-then-number-le10
returns-then-number-le10 c = c.first_implications.ensures ∙ sym (in_first_implications c.args.number (omega (arith, c.if-number-le10.true)))

pub returns-else-number-le10 : goal.returns-else-number-le10
returns-else-number-le10 c = c.second_implications.ensures ∙ sym (in_second_implications c.args.number (c.args.number - 10) refl (omega (arith, c.if-number-le10.false)))
