use Rattle.std.proofs.Common.{ap, sym, ◌∙◌, map}
use Rattle.std.specs.Option.{option_map}
use Rattle.kid_value.specs.SortView.{plain_sort}
use Rattle.kid_sorting.proofs.JoinLemmas.{joined_onto, joined_onto_none, onto_last}
use Rattle.kid_sorting.proofs.common.join_all.Goals as goal

pub returns-in-None : goal.returns-in-None
returns-in-None c =
    let left = map plain_sort c.in-Some.earlier.now in
    sym (joined_onto_none left)
    ∙ ap (λ o. joined_onto left (option_map plain_sort o)) (sym c.in-None.is)
    ∙ ap (joined_onto left) c.in_ok-sort.ensures.value
    ∙ sym (onto_last c.loop-last.rest.now c.in-Some.earlier.now c.in-Some.last.now (plain_sort c.loop-last.whole) c.in-Some.ensures.cases.0)
    ∙ c.loop-last.invariant
