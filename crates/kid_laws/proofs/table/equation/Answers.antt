use Rattle.std.proofs.Common.{◌∙◌, ◌-◌, sym, refl, arith}
use Rattle.kid_laws.proofs.GroupLemmas.{in_first_equations, in_second_equations, in_third_equations, in_fourth_equations}
use Rattle.kid_laws.proofs.table.equation.Goals as goal

pub returns-then-number-le12 : goal.returns-then-number-le12
returns-then-number-le12 c = c.first_equations.ensures ∙ sym (in_first_equations c.args.number (omega (arith, c.if-number-le12.true)))

pub returns-then-number-le24 : goal.returns-then-number-le24
returns-then-number-le24 c = c.second_equations.ensures ∙ sym (in_second_equations c.args.number (c.args.number - 12) refl (omega (arith, c.if-number-le12.false)) (omega (arith, c.if-number-le24.true)))

pub returns-then-number-le36 : goal.returns-then-number-le36
returns-then-number-le36 c = c.third_equations.ensures ∙ sym (in_third_equations c.args.number (c.args.number - 24) refl (omega (arith, c.if-number-le24.false)) (omega (arith, c.if-number-le36.true)))

pub returns-else-number-le36 : goal.returns-else-number-le36
returns-else-number-le36 c = c.fourth_equations.ensures ∙ sym (in_fourth_equations c.args.number (c.args.number - 36) refl (omega (arith, c.if-number-le36.false)))
