use Rattle.std.proofs.Common.{ap, ◌∙◌}
use Rattle.kid_sexp.specs.Plain.{atom}
use Rattle.kid_sexp.specs.Tree.{plain as plain_tree}
use Rattle.kid_value.specs.SortView.{plain_sort}
use Rattle.kid_prog.proofs.Trees.{named-joined}
use Rattle.kid_prog.proofs.forest.with_name.Goals as goal

pub returns : goal.returns
returns c =
    named-joined c.args.trees c.push.new.self c.push-2.new.self (plain_tree c.in_ok-word_tree.field-0) (plain_tree c.in_ok-sort_tree.field-0) c.args.name.now (plain_sort c.args.sort.now)
    c.in_ok-push.ensures.ok c.in_ok-push-2.ensures.ok (c.in_ok-word_tree.ensures ∙ ap atom c.as_slice.ensures) c.in_ok-sort_tree.ensures.spelling
