use Rattle.kid_sexp.specs.Tree.{plain as plain_tree}
use Rattle.kid_value.specs.SortView.{plain_sort}
use Rattle.kid_codec.proofs.SpelledAnswers.{tells, reads, can_be_printed}
use Rattle.kid_codec.proofs.value.value_of.Goals as goal

pub returns-clause-spelled : goal.returns-clause-spelled
returns-clause-spelled c = can_be_printed (plain_sort c.args.sort.now) (plain_tree c.args.tree.now) c.value_in_sort.result c.value_in_sort.ensures

pub returns-clause-told : goal.returns-clause-told
returns-clause-told c = tells (plain_sort c.args.sort.now) (plain_tree c.args.tree.now) c.value_in_sort.result c.value_in_sort.ensures

pub returns-clause-read : goal.returns-clause-read
returns-clause-read c =
    let s = plain_sort c.args.sort.now in
    let t = plain_tree c.args.tree.now in
    λ v h p. reads s t v c.value_in_sort.result (tells s t c.value_in_sort.result c.value_in_sort.ensures) h p
