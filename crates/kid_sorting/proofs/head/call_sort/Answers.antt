use Rattle.std.proofs.Common.{◌≡◌, true, false, map, ap, sym, ◌∙◌}
use Rattle.kid_value.specs.SortView.{plain_sort}
use Rattle.kid_term.specs.DefView.{plain_def}
use Rattle.kid_term.specs.Names.{latest_first}
use Rattle.kid_term.specs.Sorting.{fit_parameters}
use Rattle.kid_sorting.proofs.Calls.{call_sort-fits, call_sort-misfits, call_sort-unknown}
use Rattle.kid_sorting.proofs.head.call_sort.Goals as goal

pub returns-in_ok-copy-in-Some : goal.returns-in_ok-copy-in-Some
returns-in_ok-copy-in-Some c =
    let d = plain_def c.in-Some.definition.now in
    let ss = map plain_sort c.args.sorts.now in
    let fit : fit_parameters d.parameters ss ≡ true = ap (λ ps. fit_parameters ps ss) (sym c.items.ensures) ∙ sym c.are_within.ensures ∙ c.if-are_within.true in
    call_sort-fits c.args.name.now (latest_first (map plain_def c.args.definitions.now)) ss d (plain_sort c.in_ok-copy-in-Some.field-0) c.in-Some.ensures fit (sym c.in_ok-copy-in-Some.ensures)

pub returns-else-are_within : goal.returns-else-are_within
returns-else-are_within c =
    let d = plain_def c.in-Some.definition.now in
    let ss = map plain_sort c.args.sorts.now in
    let fit : fit_parameters d.parameters ss ≡ false = ap (λ ps. fit_parameters ps ss) (sym c.items.ensures) ∙ sym c.are_within.ensures ∙ c.if-are_within.false in
    call_sort-misfits c.args.name.now (latest_first (map plain_def c.args.definitions.now)) ss d c.in-Some.ensures fit

pub returns-in-None : goal.returns-in-None
returns-in-None c = call_sort-unknown c.args.name.now (latest_first (map plain_def c.args.definitions.now)) (map plain_sort c.args.sorts.now) c.in-None.ensures
