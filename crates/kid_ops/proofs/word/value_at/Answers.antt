use Rattle.std.proofs.Common.{◌≤◌, length, map, sym, ap, ◌∙◌, arith}
use Rattle.std.proofs.lemmas.Bool.Decides.{nat_tests}
use Rattle.kid_value.specs.ValueView.{plain}
use Rattle.kid_ops.specs.RowItems.{value_of_row}
use Rattle.kid_ops.proofs.RowItems.{value-there, value-past}
use Rattle.kid_ops.proofs.word.value_at.Goals as goal

pub returns-in-None-get : goal.returns-in-None-get
returns-in-None-get c =
    let l : length c.args.items.now ≤ c.in-Some.place = (let h = c.in-None-get.ensures.lookup.0 in grind (arith, nat_tests)) in
    value-past c.args.items.now c.in-Some.place (plain c.args.d.now) l ∙ ap (λ o. value_of_row (map plain c.args.items.now) o (plain c.args.d.now)) (sym c.in-Some.is)

pub returns-in-Some-get : goal.returns-in-Some-get
returns-in-Some-get c =
    c.value_in.ensures
    ∙ value-there c.args.items.now c.in-Some.place c.in-Some-get.item.now c.args.d.now c.in-Some-get.ensures.lookup.3.0 (c.in-Some-get.ensures.lookup.3.1 c.args.d.now)
    ∙ ap (λ o. value_of_row (map plain c.args.items.now) o (plain c.args.d.now)) (sym c.in-Some.is)
